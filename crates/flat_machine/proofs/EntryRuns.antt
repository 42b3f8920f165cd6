-- Entries, computed by the definitions alone.
use Rattle.pad_words.specs.Bytes.{exclusive_or, zero_block}
use Rattle.flat_machine.proofs.RunCommands.{begun_entry, block_of, checked, digit, digit_key, ending_keys, entry_keys, four_entered, get_pin, import_clear, iso0_block, masked_keys, pin_key, plain_key, press_cancel, press_enter, refused, with_pin_key, zero_check}
use Rattle.flat_machine.proofs.RunWords.{all_fit, beginning, done_on_disk, done_quietly, listening_to, quiet, replies_by, said_after, said_by, session_1}
use Rattle.flat_machine.specs.Machine.{Act}
use Rattle.flat_machine.specs.State.{opening}
use Rattle.key_source.specs.declared.Mask.{Mask}
use Rattle.pad_steps.specs.declared.answers.Out.{Out}
use Rattle.pad_steps.specs.declared.commands.Command.{Command}
use Rattle.std.specs.Prelude.{Bool, List, [], false, refl, true, ℕ, ◌++◌, ◌∷◌, ◌≡◌}
use Rattle.key_source.specs.declared.Key.TheVariants as keypad
use Rattle.pad_steps.specs.declared.answers.Answer.TheVariants as answer
use Rattle.pad_steps.specs.declared.answers.Completion.TheVariants as completion
use Rattle.pad_steps.specs.declared.answers.Event.TheVariants as event
use Rattle.pad_steps.specs.declared.answers.Out.TheVariants as out
use Rattle.pad_steps.specs.declared.answers.Refusal.TheVariants as refusal
use Rattle.pad_steps.specs.declared.answers.Reply.TheVariants as reply
use Rattle.pad_steps.specs.declared.answers.Told.TheVariants as told
use Rattle.pad_steps.specs.declared.commands.Command.TheVariants as command
use Rattle.pad_steps.specs.declared.commands.Verify.TheVariants as verify
use Rattle.pad_steps.specs.declared.steps.DiskWord.TheVariants as word
use Rattle.pad_steps.specs.declared.steps.Step.TheVariants as step

-- a key is imported, a PIN of four digits is entered, and an ISO 9564-1 format 0 block is made of it
abbrev block_of_a_pin : List Act
block_of_a_pin = beginning ++ quiet (step.Listen session_1 (record { service = false; execute = true })) ∷ done_on_disk (import_clear pin_key zero_block 2 verify.Zero) word.Done
    ++ quiet (step.Submit session_1 300 (get_pin 4 6 false)) ∷ quiet step.Begin ∷ digit 1 refl ∷ digit 2 refl ∷ digit 3 refl ∷ digit 4 refl ∷ press_enter ∷ done_quietly iso0_block

-- the whole of what it says: no digit stands in it but those of the block, which the cipher here leaves as they are
block_of_a_pin_says : said_by block_of_a_pin ≡ out.Told session_1 told.Opened ∷ out.Told session_1 (told.Listening (record { service = false; execute = true }))
    ∷ out.Request session_1 1 ∷ out.Ended session_1 1 (checked zero_check)
    ∷ out.Request session_1 2 ∷ out.Event session_1 event.EnterData ∷ masked_keys 4 ++ plain_key keypad.Enter ∷ out.Ended session_1 2 four_entered
    ∷ out.Request session_1 3 ∷ out.Ended session_1 3 (block_of (0x04 ∷ 0x12 ∷ 0x15 ∷ 0xFE ∷ 0xDC ∷ 0xBA ∷ 0x98 ∷ 0x76 ∷ [])) ∷ []
unfolding exclusive_or
block_of_a_pin_says = refl

block_of_a_pin_fits : all_fit opening block_of_a_pin ≡ true
block_of_a_pin_fits = refl

-- what an execute listener hears of an entry
abbrev heard_of : List Act → List Out
heard_of acts = said_after (listening_to false true) acts

abbrev four_digits : List Act
four_digits = digit 1 refl ∷ digit 2 refl ∷ digit 3 refl ∷ digit 4 refl ∷ []

-- a digit at the greatest length is dropped without an event
digit_at_greatest_length : heard_of (begun_entry (get_pin 4 4 false) ++ four_digits ++ digit 5 refl ∷ []) ≡ out.Request session_1 1 ∷ out.Event session_1 event.EnterData ∷ masked_keys 4
digit_at_greatest_length = refl

-- an entry that ends by itself ends with its last digit
ends_by_itself : heard_of (begun_entry (get_pin 4 4 true) ++ four_digits) ≡ out.Request session_1 1 ∷ out.Event session_1 event.EnterData ∷ masked_keys 4 ++ out.Ended session_1 1 (reply.Ok (answer.Entered 4 completion.Auto)) ∷ []
ends_by_itself = refl

-- ENTER does nothing below the least length; CANCEL ends the entry at any length, and holds nothing
ends_below_least_length : said_after with_pin_key (begun_entry (get_pin 4 6 false) ++ digit 1 refl ∷ press_enter ∷ press_cancel ∷ done_quietly iso0_block)
    ≡ out.Request session_1 2 ∷ out.Ended session_1 2 (reply.Ok (answer.Entered 0 completion.Cancel)) ∷ out.Request session_1 3 ∷ out.Ended session_1 3 (refused refusal.NoPin) ∷ []
ends_below_least_length = refl

-- BACKSPACE drops the last digit, CLEAR all of them; both are shown
corrections_are_shown : heard_of (begun_entry (get_pin 1 4 false) ++ digit 1 refl ∷ digit 2 refl ∷ quiet (step.Press keypad.Backspace) ∷ quiet (step.Press keypad.Clear) ∷ digit 3 refl ∷ press_enter ∷ [])
    ≡ out.Request session_1 1 ∷ out.Event session_1 event.EnterData ∷ masked_keys 2 ++ plain_key keypad.Backspace ∷ plain_key keypad.Clear ∷ masked_keys 1 ++ plain_key keypad.Enter ∷ out.Ended session_1 1 (reply.Ok (answer.Entered 1 completion.Enter)) ∷ []
corrections_are_shown = refl

abbrev with_masks : Mask → Mask → Command
with_masks active terminate = command.GetPin (record { min = 4; max = 4; auto_end = false; active = active; terminate = terminate })

-- an entry that is refused ends as it begins
refused_at_begin_in_order : replies_by (beginning ++ begun_entry (get_pin 5 4 false) ++ begun_entry (with_masks (record { keys = 0; fdks = 0 }) ending_keys) ++ begun_entry (with_masks entry_keys (record { keys = 1; fdks = 0 })))
    ≡ refused refusal.MinimumLength ∷ refused refusal.NoActiveKeys ∷ refused refusal.KeyNotSupported ∷ []
refused_at_begin_in_order = refl

-- a greatest length of 0 stands for 16, and one above 16 is refused as it is submitted
greatest_length_of_zero : replies_by (beginning ++ begun_entry (get_pin 17 0 false) ++ begun_entry (get_pin 4 17 false)) ≡ refused refusal.MinimumLength ∷ refused refusal.InvalidData ∷ []
greatest_length_of_zero = refl

-- data

abbrev get_data : ℕ → ℕ → Bool → Command
get_data least most auto_end = command.GetData (record { min = least; max = most; auto_end = auto_end; active = entry_keys; terminate = ending_keys })

-- the digits of data are shown and answered
data_is_shown : heard_of (begun_entry (get_data 0 3 true) ++ digit 7 refl ∷ digit 8 refl ∷ digit 9 refl ∷ [])
    ≡ out.Request session_1 1 ∷ out.Event session_1 event.EnterData ∷ plain_key (digit_key 7 refl) ∷ plain_key (digit_key 8 refl) ∷ plain_key (digit_key 9 refl) ∷ out.Ended session_1 1 (reply.Ok (answer.Figures (7 ∷ 8 ∷ 9 ∷ []) completion.Auto)) ∷ []
data_is_shown = refl

data_may_be_empty : replies_by (beginning ++ begun_entry (get_data 0 3 false) ++ press_enter ∷ []) ≡ reply.Ok (answer.Figures [] completion.Enter) ∷ []
data_may_be_empty = refl

-- a press is the entry's own: digits of a canceled entry are gone, and the next entry begins with none
presses_go_with_their_request : replies_by (beginning ++ begun_entry (get_pin 1 4 false) ++ digit 1 refl ∷ digit 2 refl ∷ quiet (step.Cancel session_1 1) ∷ begun_entry (get_pin 1 4 false) ++ digit 3 refl ∷ press_enter ∷ [])
    ≡ refused refusal.Canceled ∷ reply.Ok (answer.Entered 1 completion.Enter) ∷ []
presses_go_with_their_request = refl
