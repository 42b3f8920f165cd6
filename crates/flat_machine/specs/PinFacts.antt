-- Words for what is so of PINs and key parts in every run.
use Rattle.entry_core.specs.Entries.{Entry, active_seen, entered, is_pin, is_secret}
use Rattle.flat_machine.specs.Machine.{line_of, next}
use Rattle.flat_machine.specs.Settings.{Setting}
use Rattle.pad_steps.specs.declared.commands.EntryKind.{EntryKind}
use Rattle.pad_steps.specs.declared.commands.PartRules.{PartRules}
use Rattle.pad_steps.specs.declared.steps.DiskWord.{DiskWord}
use Rattle.std.specs.List.{list_all}
use Rattle.flat_machine.specs.RequestSteps.{command_refusal, is_part_count}
use Rattle.request_queue.specs.Requests.{pending_where}
use Rattle.flat_machine.specs.State.{Flat, Shared, Running, running_entry}
use Rattle.pin_blocks.specs.PinRules.{PinRules}
use Rattle.request_queue.specs.declared.requests.Request.{Request}
use Rattle.flat_machine.specs.declared.types.Device.TheVariants.{Off}
use Rattle.entry_core.specs.declared.seen.Seen.TheVariants.{Ended}
use Rattle.key_source.specs.Keys.{has_key}
use Rattle.key_source.specs.declared.Key.{Key}
use Rattle.pad_steps.specs.declared.answers.Answer.{Answer}
use Rattle.pad_steps.specs.declared.answers.Completion.{Completion}
use Rattle.pad_steps.specs.declared.answers.Event.{Event}
use Rattle.pad_steps.specs.declared.answers.Out.{Out}
use Rattle.pad_steps.specs.declared.answers.Reply.{Reply}
use Rattle.pad_steps.specs.declared.answers.Shown.{Shown}
use Rattle.pad_steps.specs.declared.commands.Command.{Command}
use Rattle.pad_steps.specs.declared.steps.Step.{Step}
use Rattle.std.specs.Prelude.{Bool, List, None, Some, [], false, is_some, length, not, true, ℕ, ◌==◌, ◌||◌, ◌∷◌, ◌≡◌, IsTrue, ◌⊎◌, ◌≤◌}
use Rattle.key_source.specs.declared.Key.TheVariants as keypad
use Rattle.pad_steps.specs.declared.answers.Answer.TheVariants as answers
use Rattle.pad_steps.specs.declared.answers.Event.TheVariants as events
use Rattle.pad_steps.specs.declared.answers.Out.TheVariants as out
use Rattle.pad_steps.specs.declared.answers.Reply.TheVariants as replied
use Rattle.pad_steps.specs.declared.answers.Shown.TheVariants as shows
use Rattle.pad_steps.specs.declared.commands.Command.TheVariants as commands
use Rattle.pad_steps.specs.declared.steps.Step.TheVariants as steps

-- the key is one of the digits 0 to 9
abbrev pub is_digit_key : Key → Bool
is_digit_key (keypad.Digit digit) = true
is_digit_key other = false

-- KEY is masked, or shows a key that is no digit
abbrev pub shows_no_digit : Shown → Bool
shows_no_digit shows.Masked = true
shows_no_digit (shows.Plain key) = not (is_digit_key key)

-- the event shows no digit
abbrev pub event_hides : Event → Bool
event_hides (events.Key shown) = shows_no_digit shown
event_hides other = true

-- the answer is the number of digits and the completion
abbrev pub is_count : Answer → Bool
is_count (answers.Entered count completion) = true
is_count other = false

-- the reply is a refusal, or has the number of digits alone
abbrev pub reply_hides : Reply → Bool
reply_hides (replied.Ok answer) = is_count answer
reply_hides (replied.No refusal) = true

-- what a PIN entry may say: events that show no digit, and a reply that has their number alone
abbrev pub hides_digits : Out → Bool
hides_digits (out.Ended session id reply) = reply_hides reply
hides_digits (out.Event session event) = event_hides event
hides_digits other = false

-- an entry of such a kind runs
pub record EntryRuns (of_kind : EntryKind → Bool) (shared : Shared) : Type 0 where
  pub current : Running
  pub runs : running_entry shared ≡ Some current
  pub kind : of_kind current.entry.kind ≡ true

-- a key that is pressed after these presses ends the entry, shown so, with this completion
abbrev pub EndsBy : Entry → List Key → Key → Shown → Completion → Type 0
EndsBy entry presses key shown completion = active_seen entry (length (entered entry presses)) key ≡ Ended shown completion

-- an active digit of a running PIN entry is pressed
pub record PressesDigit (state : Flat) (key : Key) : Type 0 where
  pub current : Running
  pub runs : running_entry state.shared ≡ Some current
  pub digit : is_secret current.entry key ≡ true

-- what a key of a running PIN entry says shows no digit
abbrev pub HidesPin : Setting → Flat → Key → DiskWord → Type 0
HidesPin set state key word = EntryRuns is_pin state.shared → IsTrue (list_all hides_digits (next set state (steps.Press key) word).outs)

-- the line of an active digit of a PIN has no key
abbrev pub HidesPress : Setting → Flat → Key → DiskWord → Type 0
HidesPress set state key word = PressesDigit state key → (line_of set state (record { step = steps.Press key; word = word })).shown ≡ None

-- each key part entry whose command passes has 16, 32 or 48 nibbles
abbrev pub PassesPartCounts : (Command → Bool) → Type 0
PassesPartCounts passes = (rules : PartRules) → IsTrue (passes (commands.SecureKeyEntry rules)) → IsTrue (is_part_count rules.count)

-- no digit, or at least the least number of them
abbrev pub HasNoneOrLeast : Entry → List ℕ → Type 0
HasNoneOrLeast entry digits = (length digits ≡ 0) ⊎ (entry.least ≤ length digits)

-- the key ends a running PIN entry with this completion
pub record EndsPin (state : Flat) (key : Key) (current : Running) (completion : Completion) : Type 0 where
  pub runs : running_entry state.shared ≡ Some current
  pub of_pin : is_pin current.entry.kind ≡ true
  pub active : has_key current.entry.active key ≡ true
  pub shown : Shown
  pub ends : EndsBy current.entry state.presses key shown completion

-- what a step may leave of the held PIN: it stays; it goes; or a key ends a PIN entry, and the digits that were entered are held
pub data PinAfter (state : Flat) (step : Step) (held : List ℕ) : Type 0 where
  PinStays : held ≡ state.held → PinAfter state step held
  PinGoes : held ≡ [] → PinAfter state step held
  PinEntered : (key : Key) (current : Running) (completion : Completion) → step ≡ steps.Press key → EndsPin state key current completion
      → held ≡ entered current.entry (key ∷ state.presses) → PinAfter state step held

-- these kinds of step leave the held PIN as it is
abbrev pub leaves_pin : Step → Bool
leaves_pin steps.Begin = false
leaves_pin steps.Finish = false
leaves_pin (steps.Press key) = false
leaves_pin steps.Off = false
leaves_pin steps.Boot = false
leaves_pin other = true

-- the device is off, and nothing is pending or held: no PIN, no key part, and maintain is off
pub record PoweredOff (state : Flat) : Type 0 where
  pub device : state.shared.device ≡ Off
  pub pending : pending_where (λ (request : Request Command). true) state.shared.requests ≡ []
  pub held : state.held ≡ []
  pub part : state.shared.part ≡ []
  pub maintain : state.shared.maintain ≡ false

-- the part buffer is empty, or has the nibbles of a key of 8, 16 or 24 bytes
abbrev pub is_part_length : ℕ → Bool
is_part_length count = (count == 0) || is_part_count count

-- a command passes Submit
abbrev pub passes_submit : PinRules → Command → Bool
passes_submit pin_rules command = not (is_some (command_refusal pin_rules command))
