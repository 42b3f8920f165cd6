-- A step without a planned device call may have the word Quiet.
use Rattle.std.proofs.Common.{arith}
use Rattle.std.proofs.lemmas.Bool.Decides.{nat_tests}
use Rattle.std.specs.Prelude.{IsTrue, length, refl, true, ℕ, ◌*◌, ◌==◌, ◌≡◌}
use Rattle.flat_machine.specs.Power.{Loading, Nothing, Plan, Replacing, fits_plan, planned_calls}
use Rattle.pad_steps.specs.declared.steps.DiskWord.TheVariants.{Quiet}

none-of_four : (n : ℕ) → 4 * n ≡ 0 → (n == 0) ≡ true
none-of_four n none = grind (arith, nat_tests)

pub fits_plan-quiet : (plan : Plan) → planned_calls plan ≡ 0 → IsTrue (fits_plan plan Quiet)
fits_plan-quiet Nothing none = refl
fits_plan-quiet Loading none = cc
fits_plan-quiet (Replacing todo) none = none-of_four (length todo) none
