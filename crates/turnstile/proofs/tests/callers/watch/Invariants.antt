use Rattle.turnstile.specs.Turns.{IsPassOf}
use Rattle.turnstile.proofs.tests.callers.watch.Given as goal

abbrev pub invariant-loop : goal.invariant-loop
invariant-loop g l = IsPassOf l.turn l.pass
