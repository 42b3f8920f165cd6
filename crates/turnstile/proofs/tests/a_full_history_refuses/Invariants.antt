use Rattle.turnstile.specs.Turns.{IsPassOf}
use Rattle.turnstile.proofs.tests.a_full_history_refuses.Given as goal

abbrev pub invariant-loop : goal.invariant-loop
invariant-loop g l = IsPassOf l.turn l.pass
