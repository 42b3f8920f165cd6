use Rattle.std.specs.Prelude.{◌≡◌, map}
use Rattle.std.specs.Vec.Iter.{into_iter_items}
use Rattle.turnstile.specs.Turns.{IsPassOf, view}
use Rattle.pad_live_core.specs.PendingLanes.{Absorbs}
use Rattle.pad_live_core.proofs.joins.absorb.Given as goal

abbrev pub invariant-loop-end : goal.invariant-loop-end
invariant-loop-end g l = IsPassOf l.desk.turn l.worker × Absorbs g.W.PinWork.rules l.desk.turn (map (λ v. v.items) l.lanes) (view l.fn.worker) (into_iter_items l.end-iterator) l.stop (view l.worker)
