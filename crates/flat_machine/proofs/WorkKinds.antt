-- A work of a kind, with what it carries.
use Rattle.flat_machine.specs.WorkFacts.{is_refusal, is_release}
use Rattle.flat_machine.specs.declared.types.Work.TheVariants as work
use Rattle.flat_machine.specs.declared.types.Work.{Work}
use Rattle.pad_steps.specs.declared.answers.Refusal.{Refusal}
use Rattle.pad_steps.specs.declared.commands.PinRequest.{PinRequest}
use Rattle.std.specs.Prelude.{List, Option, refl, true, ℕ, ◌≡◌}

pub refusal-is : (found : Work) → is_refusal found ≡ true → (refusal : Refusal) × (accused : Option (List ℕ)) × (found ≡ work.Refuse refusal accused)
refusal-is (work.Refuse refusal accused) e = (refusal, accused, refl)
refusal-is other e = absurd cc

pub release-is : (found : Work) → is_release found ≡ true → (request : PinRequest) × (first : List ℕ) × (second : Option (List ℕ)) × (draws : ℕ) × (found ≡ work.Release request first second draws)
release-is (work.Release request first second draws) e = (request, first, second, draws, refl)
release-is other e = absurd cc
