use Rattle.std.proofs.Common.{◌≡◌, []}
use Rattle.turnstile.specs.Turns.{IsPassOf, view}
use Rattle.pad_live_core.specs.LaneEvents.{Moves}
use Rattle.pad_live_core.proofs.awaiting.await_more.Given as goal

abbrev pub invariant-loop : goal.invariant-loop
invariant-loop g l = IsPassOf l.desk.turn l.pass × Moves g.W.PinWork.rules 0 l.initial.last (view l.initial.pass) [] 0 l.last (view l.pass) × (l.last ≡ l.initial.last)
