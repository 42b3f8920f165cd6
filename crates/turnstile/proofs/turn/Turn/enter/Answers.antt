use Rattle.std.proofs.Common.{sym, ap, ◌∙◌}
use Rattle.turnstile.specs.Entries.{entry}
use Rattle.turnstile.specs.Rules.{StandsFrom}
use Rattle.turnstile.proofs.CallLemmas.{enters, carries_grown}
use Rattle.turnstile.proofs.turn.Turn.enter.Goals as goal

pub apply-requires-clause-held : goal.apply-requires-clause-held
apply-requires-clause-held g c = let b = c.begin.ensures.begun in let M = g.M.Machine in
    (b.held, ap (λ m. m.1) b.begun, b.fits.0, (b.fits.1.0, b.fits.1.1 ∙ sym (ap (λ m. m.0.origin) b.begun)))

pub post-requires-clause-entry : goal.post-requires-clause-entry
post-requires-clause-entry g c = let k = c.in-Ok.ensures.ok in (entry c.args.op c.in-Ok.field-0.outcome, (k.0, k.1, k.2))

pub finish-requires-clause-pass : goal.finish-requires-clause-pass
finish-requires-clause-pass g c = let e = entry c.args.op c.in-Ok.field-0.outcome in let posted = c.post.ensures.posted e c.in-Ok.ensures.ok.0 in
    (c.post.ensures.pass.0 ∙ c.apply.ensures.pass.0 ∙ c.begin.ensures.pass.0 ∙ c.requires.pass.0, ap (λ m. m.0.stage) posted ∙ ap (λ v. v.stage) c.apply.ensures.pass.2 ∙ ap (λ m. m.0.stage) c.begin.ensures.begun.begun)

pub finish-requires-clause-held : goal.finish-requires-clause-held
finish-requires-clause-held g c = let e = entry c.args.op c.in-Ok.field-0.outcome in carries_grown (StandsFrom g.M.Machine.stands g.M.Machine.origin) c.apply.new.pass.me c.post.new.pass.me e (c.post.ensures.posted e c.in-Ok.ensures.ok.0) c.in-Ok.ensures.ok.0

pub returns-in-Ok-clause-entered : goal.returns-in-Ok-clause-entered
returns-in-Ok-clause-entered g c = let e = entry c.args.op c.in-Ok.field-0.outcome in let M = g.M.Machine in let k = c.in-Ok.ensures.ok in let posted = c.post.ensures.posted e k.0 in
    let w = carries_grown (StandsFrom M.stands M.origin) c.apply.new.pass.me c.post.new.pass.me e posted k.0 in
    enters (StandsFrom M.stands M.origin c.args.pass.now.me.0.origin) M.status_after M.legal c.args.pass.now.me.0 c.begin.new.pass.me c.apply.new.pass.me.0 c.post.new.pass.me.0 c.finish.new.pass.me.0 _ _ _ c.begin.ensures.begun c.requires.pass.2 c.apply.ensures.pass.2 (ap (λ m. m.0) posted)
    (ap (λ m. m.0) c.finish.ensures.idle) k.3 k.4 (g.met.M.Machine.legal_if w.0.machine _ w.3.0) c.post.ensures.known

pub returns-in-Ok-clause-kept : goal.returns-in-Ok-clause-kept
returns-in-Ok-clause-kept g c = let e = returns-in-Ok-clause-entered g c in let v = c.args.pass.now.me.0 in let w = c.finish.new.pass.me.0 in
    e.kept ∙ (λ i. record v { seen = w.seen; mine = sym (ap (λ y. y.mine) e.kept) i })
