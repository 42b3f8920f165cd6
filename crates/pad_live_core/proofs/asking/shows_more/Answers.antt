use Rattle.std.proofs.Common.{[], subst, sym, ℕ, ◌<◌}
use Rattle.turnstile.specs.Turns.{view}
use Rattle.pad_live_core.proofs.MoveLemmas.{idles, raises}
use Rattle.pad_live_core.specs.LaneEvents.{Moves}
use Rattle.pad_live_core.proofs.asking.shows_more.Goals as goal

pub returns-then-last-ended-clause-more : goal.returns-then-last-ended-clause-more
returns-then-last-ended-clause-more g c =
    let is = c.ended_at-ended.ensures in
    subst (λ (n : ℕ). Moves g.W.PinWork.rules 0 c.args.last.now (view c.args.pass.now) [] 1 n (view c.glance-glance.new.pass)) (sym is)
    (raises g.W.PinWork.rules (c.ended_requests_stay.ensures g.W.PinWork.rules) 0 c.args.last.now c.glance-glance.result.length c.glance-glance.result.status _ _ (subst (λ (n : ℕ). c.args.last.now < n) is c.if-last-ended.true) c.glance-glance.ensures.note c.glance-glance.ensures.seen c.glance-glance.ensures.notes)

pub returns-clause-same : goal.returns-clause-same
returns-clause-same g c = idles g.W.PinWork.rules 0 c.args.last.now c.glance-glance.result.length c.glance-glance.result.status _ _ c.glance-glance.ensures.note c.glance-glance.ensures.seen c.glance-glance.ensures.notes
