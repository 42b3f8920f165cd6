use Rattle.turnstile.specs.Turns.{IsPassOf}
use Rattle.pad_desk.proofs.tests.callers.press_all.Given as goal

abbrev pub invariant-loop-key : goal.invariant-loop-key
invariant-loop-key g l = IsPassOf l.desk.turn l.pass
