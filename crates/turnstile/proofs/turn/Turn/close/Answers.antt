use Rattle.std.proofs.Common.{rules, sym, ap, ◌∙◌}
use Rattle.turnstile.specs.Rules.{passes_known}
use Rattle.turnstile.proofs.NumberLemmas.{one_maker}
use Rattle.turnstile.proofs.CallLemmas.{same_slot}
use Rattle.turnstile.proofs.turn.Turn.close.Goals as goal

pub take_machine-machine-requires : goal.take_machine-machine-requires
take_machine-machine-requires g c = let b = c.begin.ensures.begun in (search rules, (b.held, ap (λ m. m.1) b.begun))

pub returns-clause-origin : goal.returns-clause-origin
returns-clause-origin g c = let b = c.begin.ensures.begun in let same = same_slot b.held c.take_machine-machine.result (sym (ap (λ m. m.1) b.begun) ∙ c.take_machine-machine.ensures.taken.0) in
    ap (λ h. g.M.Machine.origin h.machine) (sym same) ∙ b.fits.1.1

pub returns-clause-whole : goal.returns-clause-whole
returns-clause-whole g c = let b = c.begin.ensures.begun in let log = c.begin.new.pass.me.0.seen in let same = same_slot b.held c.take_machine-machine.result (sym (ap (λ m. m.1) b.begun) ∙ c.take_machine-machine.ensures.taken.0) in
    record { log = log; bare = c.of.ensures ∙ ap (λ h. h.history.items) (sym same) ∙ b.fits.0; short = b.short; seen = b.later; notes = b.notes; known = b.known; makers = λ whole. one_maker (passes_known c.args.pass.me.0) whole log b.known }
