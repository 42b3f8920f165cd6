-- What a step plans for the disk uses no fill word.
use Rattle.flat_machine.specs.FinishSteps.{plan_finish, plan_of}
use Rattle.flat_machine.specs.Machine.{plan}
use Rattle.flat_machine.specs.State.{Shared}
use Rattle.flat_machine.specs.declared.types.Work.{Work}
use Rattle.pad_machine.proofs.FinishLemmas.{same_work}
use Rattle.pad_machine.specs.Prepares.{deciding}
use Rattle.pad_machine.specs.Stands.{set_by}
use Rattle.pad_steps.specs.declared.commands.Command.{Command}
use Rattle.pad_steps.specs.declared.steps.Step.TheVariants as step
use Rattle.pad_steps.specs.declared.steps.Step.{Step}
use Rattle.pin_blocks.specs.PinRules.{PinRules}
use Rattle.request_queue.specs.Requests.{request_in_work}
use Rattle.request_queue.specs.declared.requests.Request.{Request}
use Rattle.std.proofs.Common.{ap}
use Rattle.std.specs.Prelude.{List, None, Option, Some, refl, ℕ, ◌≡◌}

finish_plan : (pin_rules : PinRules) (seed : List ℕ) (shared : Shared) (found : Option (Request Command)) → plan_finish (deciding pin_rules) shared found ≡ plan_finish (set_by pin_rules seed) shared found
finish_plan pin_rules seed shared None = refl
finish_plan pin_rules seed shared (Some request) = ap (λ (work : Work). plan_of shared work) (same_work pin_rules seed shared 0 request.command)

pub same_plan : (pin_rules : PinRules) (seed : List ℕ) (shared : Shared) (taken : Step) → plan (deciding pin_rules) shared taken ≡ plan (set_by pin_rules seed) shared taken
same_plan pin_rules seed shared (step.Open session) = refl
same_plan pin_rules seed shared (step.Close session) = refl
same_plan pin_rules seed shared (step.Listen session classes) = refl
same_plan pin_rules seed shared (step.Lock session) = refl
same_plan pin_rules seed shared (step.Unlock session) = refl
same_plan pin_rules seed shared (step.Submit session limit command) = refl
same_plan pin_rules seed shared (step.Cancel session id) = refl
same_plan pin_rules seed shared step.Begin = refl
same_plan pin_rules seed shared step.Finish = finish_plan pin_rules seed shared (request_in_work shared.requests)
same_plan pin_rules seed shared (step.Press key) = refl
same_plan pin_rules seed shared (step.Tick ticks) = refl
same_plan pin_rules seed shared (step.Ask session question) = refl
same_plan pin_rules seed shared step.Off = refl
same_plan pin_rules seed shared step.Boot = refl
