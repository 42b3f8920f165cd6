use Rattle.std.proofs.Common.{arith, subst, sym, ◌∙◌}
use Rattle.std.specs.Prelude.{map}
use Rattle.std.specs.Vec.Iter.{into_iter_items}
use Rattle.pad_live_core.proofs.PlacedLemmas.{no_length}
use Rattle.pad_live_core.proofs.StartLemmas.{joining_all, joining_next}
use Rattle.pad_live_core.specs.PendingLanes.{Joining}
use Rattle.pad_live_core.proofs.joins.join_lanes.Goals as goal

pub loop-pending-preserved : goal.loop-pending-preserved
loop-pending-preserved g c = let s = c.in-Some.ensures.steps in let was = c.loop-pending.invariant in let room = was.1 in let steps = s.1 in let long = c.push_reserved.ensures.len in let cap = c.push_reserved.ensures.capacity in (
  joining_next g.W.PinWork.rules c.args.desk.now.turn (map (λ v. v.items) c.args.lanes.now) c.loop-pending.ends.items c.push_reserved.new.self.items (into_iter_items c.loop-pending.pending-iterator) (into_iter_items c.next.new.self) c.in-Some.pending c.ended-end.result was.0 s.0 c.push_reserved.ensures.items c.ended-end.ensures,
  omega (arith, room, steps, long, cap),
)

pub returns : goal.returns
returns g c = let s = c.in-None.ensures.steps in let was = c.loop-pending.invariant in let it = c.loop-pending.pending-iterator in
    joining_all g.W.PinWork.rules c.args.desk.now.turn 1 (map (λ v. v.items) c.args.lanes.now) c.loop-pending.ends.items (subst (Joining g.W.PinWork.rules c.args.desk.now.turn 1 (map (λ v. v.items) c.args.lanes.now) c.loop-pending.ends.items) (no_length (into_iter_items it) (sym it.rest.ok.0 ∙ s.0)) was.0)
