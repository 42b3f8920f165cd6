use Rattle.std.proofs.Common.{◌≡◌}
use Rattle.turnstile.specs.Turns.{IsPassOf, view}
use Rattle.pad_live_core.specs.Stops.{Polling}
use Rattle.pad_live_core.proofs.awaiting.await_reply.Given as goal

abbrev pub invariant-loop : goal.invariant-loop
invariant-loop g l = IsPassOf l.desk.turn l.pass × Polling g.W.PinWork.rules l.session l.id 1 l.fn.last (view l.fn.pass) l.last (view l.pass)
