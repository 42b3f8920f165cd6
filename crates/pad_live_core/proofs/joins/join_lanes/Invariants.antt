use Rattle.std.specs.Prelude.{◌+◌, ◌≡◌, ◌≤◌, map, vec_capacity, vec_len}
use Rattle.std.specs.Vec.Iter.{into_iter_items, into_iter_len}
use Rattle.pad_live_core.specs.PendingLanes.{Joining}
use Rattle.pad_live_core.proofs.joins.join_lanes.Given as goal

abbrev pub invariant-loop-pending : goal.invariant-loop-pending
invariant-loop-pending g l = Joining g.W.PinWork.rules l.desk.turn 1 (map (λ v. v.items) l.lanes) l.ends.items (into_iter_items l.pending-iterator) × (vec_len l.ends + into_iter_len l.pending-iterator ≤ vec_capacity l.ends)
