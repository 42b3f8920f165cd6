-- What outs tell of the digits of PINs and key parts: words for the laws of what has left the device.
use Rattle.entry_core.specs.Entries.{Entry, digit_in, entered, is_key_part}
use Rattle.flat_machine.specs.PinFacts.{EntryRuns}
use Rattle.flat_machine.specs.Clearing.{CommandInWork, EndsPart}
use Rattle.flat_machine.specs.EntrySteps.{part_check}
use Rattle.flat_machine.specs.Facts.{outs_of}
use Rattle.flat_machine.specs.Machine.{Act, lines_from, next, release}
use Rattle.flat_machine.specs.RequestFacts.{Ending, endings}
use Rattle.flat_machine.specs.Settings.{Setting}
use Rattle.flat_machine.specs.State.{Flat, Running, running_entry}
use Rattle.key_source.specs.Keys.{has_key}
use Rattle.key_source.specs.declared.Key.{Key}
use Rattle.key_source.specs.declared.Key.TheVariants as keypad
use Rattle.pad_steps.specs.Accounts.{all_decimal}
use Rattle.pad_steps.specs.Formed.{all_nibbles, is_optional_block}
use Rattle.pad_steps.specs.declared.answers.Answer.{Answer}
use Rattle.pad_steps.specs.declared.answers.Answer.TheVariants as answers
use Rattle.pad_steps.specs.declared.answers.Completion.{Completion}
use Rattle.pad_steps.specs.declared.answers.Event.{Event}
use Rattle.pad_steps.specs.declared.answers.Event.TheVariants as events
use Rattle.pad_steps.specs.declared.answers.Out.{Out}
use Rattle.pad_steps.specs.declared.answers.Out.TheVariants as out
use Rattle.pad_steps.specs.declared.answers.Reply.{Reply}
use Rattle.pad_steps.specs.declared.answers.Reply.TheVariants as replied
use Rattle.pad_steps.specs.declared.answers.Shown.{Shown}
use Rattle.pad_steps.specs.declared.answers.Shown.TheVariants as shows
use Rattle.pad_steps.specs.declared.commands.BlockRequest.{BlockRequest}
use Rattle.pad_steps.specs.declared.commands.Command.TheVariants as commands
use Rattle.pad_steps.specs.declared.commands.Form.{Form}
use Rattle.pad_steps.specs.declared.commands.Form.TheVariants as forms
use Rattle.pad_steps.specs.declared.commands.PinRequest.TheVariants as pin
use Rattle.pad_steps.specs.declared.steps.DiskWord.{DiskWord}
use Rattle.pad_steps.specs.declared.steps.Step.{Step}
use Rattle.pad_steps.specs.declared.steps.Step.TheVariants as steps
use Rattle.pin_blocks.specs.BlockWork.{admit_block}
use Rattle.std.specs.List.{list_all}
use Rattle.std.specs.Prelude.{Bool, IsTrue, List, None, Option, Some, [], false, if◌then◌else◌, is_some, length, map, nat_le, not, true, ℕ, ◌&&◌, ◌++◌, ◌∷◌, ◌≡◌, ◌⊎◌}

-- a PIN block, of 8 or of 16 bytes, or whether a check holds
abbrev pub is_pin_answer : Answer → Bool
is_pin_answer (answers.Block block) = true
is_pin_answer (answers.Wide left right) = true
is_pin_answer (answers.Checked holds) = true
is_pin_answer other = false

-- the block or check that a reply answers
abbrev pub pin_answer_in : Reply → List Answer
pin_answer_in (replied.Ok answer) = if is_pin_answer answer then answer ∷ [] else []
pin_answer_in (replied.No refusal) = []

-- the blocks and checks among the ends that are told, in order
abbrev pub pin_answers : List Ending → List Answer
pin_answers [] = []
pin_answers (ending ∷ endings) = pin_answer_in ending.reply ++ pin_answers endings

-- the blocks and checks that a run tells, each once, as the end of its request, in order
abbrev pub told_answers : Setting → Flat → List Act → List Answer
told_answers set state acts = pin_answers (endings (outs_of (lines_from set state acts)))

-- a reply without the block or check that it answers
abbrev pub without_pin_answer : Reply → Reply
without_pin_answer (replied.Ok answer) = if is_pin_answer answer then replied.Ok answers.Done else replied.Ok answer
without_pin_answer (replied.No refusal) = replied.No refusal

-- an out that tells an end, without the block or check that was answered
abbrev pub apart_from_answer : Out → Out
apart_from_answer (out.Ended session id reply) = out.Ended session id (without_pin_answer reply)
apart_from_answer other = other

-- outs without the blocks and checks that were answered
abbrev pub apart_from_answers : List Out → List Out
apart_from_answers outs = map apart_from_answer outs

-- the two steps say the same, apart from the blocks and checks that they answer
abbrev pub SayAlike : Setting → Flat → Flat → Step → Step → DiskWord → Type 0
SayAlike set first second step other word = apart_from_answers (next set second other word).outs ≡ apart_from_answers (next set first step word).outs

-- the key is one of the digits 0 to 9 and A to F
abbrev pub is_part_digit : Key → Bool
is_part_digit (keypad.Digit digit) = true
is_part_digit (keypad.Hex value) = true
is_part_digit other = false

-- KEY is masked, or shows a key that is no digit of a key part
abbrev pub hides_part_digit : Shown → Bool
hides_part_digit shows.Masked = true
hides_part_digit (shows.Plain key) = not (is_part_digit key)

-- the event shows no digit of a key part
abbrev pub event_hides_part : Event → Bool
event_hides_part (events.Key shown) = hides_part_digit shown
event_hides_part other = true

-- the answer is a number of digits, the completion, and a key check value if one was asked for
abbrev pub is_part_answer : Answer → Bool
is_part_answer (answers.Part count completion check) = true
is_part_answer other = false

-- the reply is of a key part
abbrev pub reply_hides_part : Reply → Bool
reply_hides_part (replied.Ok answer) = is_part_answer answer
reply_hides_part (replied.No refusal) = true

-- what a key of a key part entry may say: KEY that shows no digit, and a reply that has a number, the completion and a key check value
abbrev pub hides_part : Out → Bool
hides_part (out.Ended session id reply) = reply_hides_part reply
hides_part (out.Event session event) = event_hides_part event
hides_part other = false

-- the key is an active digit of a key part
abbrev pub is_active_digit : Entry → Key → Bool
is_active_digit entry key = is_some (digit_in entry.kind key) && has_key entry.active key

-- the key check value that a running key part entry asked for, of its digits after this key
abbrev pub check_after : Setting → Entry → Flat → Key → Option (List ℕ)
check_after set entry state key = part_check set.cipher entry.check (entered entry (key ∷ state.presses))

-- two states that share all but digits: a key part entry runs, of as many digits so far; two keys are the same, or two active digits; and where they end the entry, the key check value that was asked for comes out the same
pub record AlikeParts (set : Setting) (first second : Flat) (key other : Key) : Type 0 where
  pub current : Running
  pub runs : running_entry first.shared ≡ Some current
  pub of_part : is_key_part current.entry.kind ≡ true
  pub shared : second.shared ≡ first.shared
  pub count : length (entered current.entry second.presses) ≡ length (entered current.entry first.presses)
  pub keys : (key ≡ other) ⊎ (IsTrue (is_active_digit current.entry key) × IsTrue (is_active_digit current.entry other))
  pub check : (completion : Completion) → EndsPart first key current completion → check_after set current.entry second other ≡ check_after set current.entry first key

-- a key of a running key part entry shows no digit
abbrev pub HidesPart : Setting → Flat → Key → DiskWord → Type 0
HidesPart set state key word = EntryRuns is_key_part state.shared → IsTrue (list_all hides_part (next set state (steps.Press key) word).outs)

-- two keys of key part entries that are alike say the same
abbrev pub PartsSayAlike : Setting → Flat → Flat → Key → Key → DiskWord → Type 0
PartsSayAlike set first second key other word = AlikeParts set first second key other → (next set second (steps.Press other) word).outs ≡ (next set first (steps.Press key) word).outs

-- the end of a key part entry, as it is told: the number of digits, the completion, and the key check value that was asked for
abbrev pub part_ending : Setting → Flat → Key → Running → Completion → Ending
part_ending set state key current completion = record {
  id = current.id;
  session = current.session;
  reply = replied.Ok (answers.Part (length (entered current.entry (key ∷ state.presses))) completion (check_after set current.entry state key));
}

-- a key that ends a key part entry tells that end and no other
abbrev pub TellsPart : Setting → Flat → Key → DiskWord → Type 0
TellsPart set state key word = (current : Running) (completion : Completion) → EndsPart state key current completion → endings (next set state (steps.Press key) word).outs ≡ part_ending set state key current completion ∷ []

-- the PIN is padded on the right to 16 nibbles, and the block has no length of it
abbrev pub is_padded : Form → Bool
is_padded forms.Ibm3624 = true
is_padded forms.Diebold = true
is_padded forms.DieboldCo = true
is_padded other = false

-- a request for this block is in work, and the next Finish of both states releases one answer
pub record ReleaseOneBlock (set : Setting) (first second : Flat) (block : BlockRequest) : Type 0 where
  pub at : CommandInWork first.shared (commands.Pin (pin.Block block))
  pub answer : Answer
  pub of_first : release set first steps.Finish ≡ Some answer
  pub of_second : release set second steps.Finish ≡ Some answer

-- two states that share all but digits, and hold decimal ones; as many of them, where the form is padded
pub record DifferInDigits (form : Form) (first second : Flat) : Type 0 where
  pub shared : second.shared ≡ first.shared
  pub of_first : all_decimal first.held ≡ true
  pub of_second : all_decimal second.held ≡ true
  pub lengths : is_padded form ≡ true → length second.held ≡ length first.held

-- what is asked of a request for a block beside what Submit asks: a padded form has a padding nibble; a coordination number is a nibble; and XOR data, which a second key alone uses, is eight bytes
pub record IsFormedBlock (block : BlockRequest) : Type 0 where
  pub padding : is_padded block.form ≡ true → nat_le block.pad 15 ≡ true
  pub coordination : block.form ≡ forms.DieboldCo → all_nibbles block.customer ≡ true
  pub mixed : is_some block.second ≡ true → is_optional_block block.xor ≡ true

-- the request is so, and one that Submit takes
pub record IsTakenBlock (block : BlockRequest) : Type 0 where
  pub formed : IsFormedBlock block
  pub admitted : admit_block block ≡ None

-- one block of this request that both states release fixes the PIN: both hold the same
abbrev pub BlockFixesPin : Setting → BlockRequest → Flat → Flat → Type 0
BlockFixesPin set block first second = ReleaseOneBlock set first second block → second.held ≡ first.held
