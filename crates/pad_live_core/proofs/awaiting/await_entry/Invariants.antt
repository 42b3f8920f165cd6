use Rattle.std.proofs.Common.{◌≡◌}
use Rattle.turnstile.specs.Turns.{IsPassOf, view}
use Rattle.pad_live_core.specs.Stops.{Rests}
use Rattle.pad_live_core.proofs.awaiting.await_entry.Given as goal

abbrev pub invariant-loop : goal.invariant-loop
invariant-loop g l = IsPassOf l.desk.turn l.pass × Rests g.W.PinWork.rules (view l.initial.pass) (view l.pass)
