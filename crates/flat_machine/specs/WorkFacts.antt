-- Words for what is so of each work that a command comes to.
use Rattle.flat_machine.specs.Commands.{work_of}
use Rattle.flat_machine.specs.State.{Flat, Shared}
use Rattle.request_queue.specs.Requests.{request_in_work}
use Rattle.request_queue.specs.declared.requests.Request.{Request}
use Rattle.flat_machine.specs.Settings.{Setting}
use Rattle.flat_machine.specs.declared.types.Work.{Work}
use Rattle.flat_machine.specs.declared.types.Work.TheVariants as work
use Rattle.key_table.specs.KeyRows.{slot_for, slot_of}
use Rattle.pad_steps.specs.declared.commands.Command.{Command}
use Rattle.pad_steps.specs.declared.commands.PinRequest.{PinRequest}
use Rattle.pin_blocks.specs.PinRules.{PinRules}
use Rattle.pad_steps.specs.declared.commands.Command.TheVariants as commands
use Rattle.std.specs.Prelude.{Bool, List, Ok, Option, Some, false, is_some, length, option_map, true, ℕ, ◌≡◌}

-- what is released is of the command's request; there is a second key exactly where the request wants one; and at these lengths the PIN work is ready and draws so many fill words
pub record IsReleased (pin_rules : PinRules) (count : ℕ) (command : Command) (request : PinRequest) (first : List ℕ) (second : Option (List ℕ)) (draws : ℕ) : Type 0 where
  pub of : command ≡ commands.Pin request
  pub keys : is_some second ≡ is_some (pin_rules.wants request).second
  pub ready : pin_rules.ready request count (length first) (option_map length second) ≡ Ok draws

-- the work suits the command, the state and the number of digits held: a row that is kept goes into the slot of its name; a slot that is emptied is that of a name; and what is released is ready
abbrev pub Suits : Setting → Shared → ℕ → Command → Work → Type 0
Suits set shared count command (work.Keep slot row check from_part) = slot_for row.name shared.keys ≡ Some slot
Suits set shared count command (work.Erase slot) = (name : List ℕ) × (slot_of name shared.keys ≡ Some slot)
Suits set shared count command (work.Release request first second draws) = IsReleased set.pin_rules count command request first second draws
Suits set shared count command other = Unit {0}

-- a work after which the request in work is gone: all but that of an entry
abbrev pub is_done : Work → Bool
is_done work.Waits = false
is_done other = true

-- the work is an answer
abbrev pub is_answer : Work → Bool
is_answer (work.Answer answer) = true
is_answer other = false

-- the command is CRYPT
abbrev pub is_crypt : Command → Bool
is_crypt (commands.Crypt request) = true
is_crypt other = false

-- the work sets whether a used PIN is maintained, empties all slots, or loads the store
abbrev pub is_management : Work → Bool
is_management (work.Maintain on) = true
is_management work.EraseAll = true
is_management work.Load = true
is_management other = false

-- the command is MAINTAIN_PIN, INITIALIZATION or RESET
abbrev pub manages : Command → Bool
manages (commands.MaintainPin on) = true
manages commands.Init = true
manages commands.Reset = true
manages other = false

-- the work is a refusal
abbrev pub is_refusal : Work → Bool
is_refusal (work.Refuse refusal accused) = true
is_refusal other = false

-- the work releases an answer of the held PIN
abbrev pub is_release : Work → Bool
is_release (work.Release request first second draws) = true
is_release other = false

-- the command in work comes to a work of this kind
pub record WorkIs (of_kind : Work → Bool) (set : Setting) (state : Flat) : Type 0 where
  pub request : Request Command
  pub in_work : request_in_work state.shared.requests ≡ Some request
  pub kind : of_kind (work_of set state.shared (length state.held) request.command) ≡ true

-- the command is RESET
abbrev pub is_reset : Command → Bool
is_reset commands.Reset = true
is_reset other = false

-- the work loads the store
abbrev pub is_load : Work → Bool
is_load work.Load = true
is_load other = false
