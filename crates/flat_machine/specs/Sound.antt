-- What the code may rely on in every state that a run can come to.
use Rattle.flat_machine.specs.RequestSteps.{command_refusal}
use Rattle.request_queue.specs.declared.requests.RequestRow.{RequestRow}
use Rattle.request_queue.specs.declared.requests.RequestRow.TheVariants.{Gone, InWork, Waiting}
use Rattle.flat_machine.specs.State.{Shared, is_off}
use Rattle.pin_blocks.specs.PinRules.{PinRules}
use Rattle.flat_machine.specs.declared.types.Device.{Device}
use Rattle.pad_steps.specs.declared.commands.Command.{Command}
use Rattle.pad_steps.specs.declared.answers.Reply.{Reply}
use Rattle.pad_steps.specs.declared.steps.Step.{Step}
use Rattle.std.specs.Prelude.{Bool, IsTrue, List, None, [], not, true, ◌&&◌, ◌∷◌, ◌≡◌}
use Rattle.pad_steps.specs.declared.steps.Step.TheVariants as steps

-- each pending request has a command that passes the test
abbrev pub pending_pass : (Command → Bool) → List (RequestRow Command Reply) → Bool
pending_pass passes [] = true
pending_pass passes (Waiting request ∷ rows) = passes request.command && pending_pass passes rows
pending_pass passes (InWork request ∷ rows) = passes request.command && pending_pass passes rows
pending_pass passes (Gone id session reply ∷ rows) = pending_pass passes rows

-- the command passes the test, and the device is not off
abbrev pub allowed : (Command → Bool) → Device → Command → Bool
allowed passes device command = passes command && not (is_off device)

-- every pending command passes the test, and none is pending while the device is off
abbrev pub Sound : (Command → Bool) → Shared → Type 0
Sound passes shared = IsTrue (pending_pass (allowed passes shared.device) shared.requests)

-- a command that is not refused as it is submitted passes the test
abbrev pub SubmitsOk : (Command → Bool) → PinRules → Step → Type 0
SubmitsOk passes pin_rules (steps.Submit session limit command) = command_refusal pin_rules command ≡ None → IsTrue (passes command)
SubmitsOk passes pin_rules other = Unit {0}
