use Rattle.std.proofs.Common.{◌≡◌}
use Rattle.turnstile.specs.Turns.{IsPassOf, view}
use Rattle.pad_live_core.specs.Workers.{WorksOn}
use Rattle.pad_live_core.proofs.worker.run_worker.Given as goal

abbrev pub invariant-loop : goal.invariant-loop
invariant-loop g l = IsPassOf l.desk.turn l.pass × WorksOn g.W.PinWork.rules (view l.initial.pass) (view l.pass)
