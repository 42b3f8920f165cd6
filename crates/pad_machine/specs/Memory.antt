-- Which steps take memory, and how many places among the outs a step may fill.
use Rattle.flat_machine.specs.RequestSteps.{is_canceled}
use Rattle.flat_machine.specs.State.{Shared}
use Rattle.flat_machine.specs.WorkFacts.{is_crypt, is_reset}
use Rattle.pad_steps.specs.declared.answers.Reply.{Reply}
use Rattle.pad_steps.specs.Formed.{is_extra}
use Rattle.pad_steps.specs.declared.commands.Command.TheVariants as commands
use Rattle.pad_steps.specs.declared.commands.Command.{Command}
use Rattle.pad_steps.specs.declared.steps.Question.TheVariants as questions
use Rattle.pad_steps.specs.declared.steps.Question.{Question}
use Rattle.pad_steps.specs.declared.steps.Step.{Step}
use Rattle.pad_steps.specs.declared.steps.Step.TheVariants as steps
use Rattle.request_queue.specs.Requests.{pending_count, pending_where, request_in_work}
use Rattle.request_queue.specs.declared.requests.Request.{Request}
use Rattle.request_queue.specs.declared.requests.RequestRow.{RequestRow}
use Rattle.std.specs.Prelude.{Bool, List, None, Option, Some, false, length, max, nat_le, true, ℕ, ◌+◌, ◌^◌, ◌||◌}

-- the command is a PIN command that is neither a block nor a check
abbrev pub is_extra_pin : Command → Bool
is_extra_pin (commands.Pin request) = is_extra request
is_extra_pin other = false

-- deciding the command makes a list: the answer of CRYPT, or the body of a PIN command that is neither a block nor a check
abbrev pub decides_list : Command → Bool
decides_list command = is_crypt command || is_extra_pin command

-- the request in work is of such a command, or of RESET
abbrev pub makes_lists : Option (Request Command) → Bool
makes_lists None = false
makes_lists (Some request) = decides_list request.command || is_reset request.command

-- the answer is made of memory: the names of keys, and a reply once more
abbrev pub makes_answer : Question → Bool
makes_answer questions.Names = true
makes_answer (questions.Reply id) = true
makes_answer other = false

-- the step takes memory beside the places that it fills: Submit, which keeps the request; the Finish of CRYPT, which makes its answer, and of a PIN command that is neither a block nor a check, whose body is copied; Boot and the Finish of RESET, whose word has the rows; Ask of names and of a reply, which makes the answer; and a Tick whose clock would not fit in 64 bits, for which there is none
abbrev pub takes_memory : Shared → Step → Bool
takes_memory shared (steps.Submit session limit command) = true
takes_memory shared steps.Finish = makes_lists (request_in_work shared.requests)
takes_memory shared (steps.Tick ticks) = nat_le (2 ^ 64) (shared.clock + ticks)
takes_memory shared (steps.Ask session question) = makes_answer question
takes_memory shared steps.Boot = true
takes_memory shared other = false

-- how many requests are pending
abbrev pub pending_in_all : List (RequestRow Command Reply) → ℕ
pending_in_all requests = length (pending_where (λ request. true) requests)

-- the most places that the step fills: where the power goes and at a Tick, a reply for each pending request; at a Close one for each of the session, and two of the closing and of the lock; at a Cancel one for each that it means, and their number
abbrev pub places_for : Shared → Step → ℕ
places_for shared (steps.Close session) = pending_count session shared.requests + 2
places_for shared (steps.Unlock session) = 2
places_for shared (steps.Cancel session id) = length (pending_where (is_canceled shared session id) shared.requests) + 1
places_for shared (steps.Tick ticks) = pending_in_all shared.requests
places_for shared steps.Finish = max (length shared.sessions + 1) (pending_in_all shared.requests)
places_for shared steps.Off = pending_in_all shared.requests
places_for shared steps.Boot = pending_in_all shared.requests
places_for shared (steps.Press key) = 2
places_for shared other = 1
