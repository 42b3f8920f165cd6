use Rattle.turnstile.specs.Turns.{IsPassOf}
use Rattle.pad_desk.proofs.tests.visitors.visit.Given as goal

abbrev pub invariant-loop-place : goal.invariant-loop-place
invariant-loop-place g l = IsPassOf l.desk.turn l.pass
