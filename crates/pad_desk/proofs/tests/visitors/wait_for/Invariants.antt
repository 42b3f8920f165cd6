use Rattle.turnstile.specs.Turns.{IsPassOf}
use Rattle.pad_desk.proofs.tests.visitors.wait_for.Given as goal

abbrev pub invariant-loop : goal.invariant-loop
invariant-loop g l = IsPassOf l.desk.turn l.pass
