use Rattle.std.proofs.Common.{◌≡◌}
use Rattle.turnstile.specs.Turns.{IsPassOf, view}
use Rattle.turnstile.proofs.tests.callers.add_all.Given as goal

abbrev pub invariant-loop-i : goal.invariant-loop-i
invariant-loop-i g l = IsPassOf l.turn l.pass × ((view l.pass).number ≡ (view l.initial.pass).number) × ((view l.pass).seated ≡ (view l.initial.pass).seated) × ((view l.pass).ended ≡ (view l.initial.pass).ended)
