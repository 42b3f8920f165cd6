-- Commands, presses and replies, for the runs that are computed in the files beside this one.
use Rattle.flat_machine.proofs.RunWords.{beginning, done_on_disk, quiet, session_1}
use Rattle.pad_words.specs.Bytes.{zero_block}
use Rattle.flat_machine.specs.Machine.{Act}
use Rattle.key_source.specs.declared.Key.{Key}
use Rattle.key_source.specs.declared.Mask.{Mask}
use Rattle.pad_steps.specs.declared.answers.Out.{Out}
use Rattle.pad_steps.specs.declared.answers.Refusal.{Refusal}
use Rattle.pad_steps.specs.declared.answers.Reply.{Reply}
use Rattle.pad_steps.specs.declared.commands.Command.{Command}
use Rattle.pad_steps.specs.declared.commands.Form.{Form}
use Rattle.pad_steps.specs.declared.commands.Verify.{Verify}
use Rattle.pad_words.specs.Numbers.{below_ten}
use Rattle.pad_words.specs.declared.bytes.Block.{Block}
use Rattle.std.specs.Prelude.{Bool, List, None, Option, Some, [], codes, false, nat_lt, refl, replicate, suc, true, zero, ℕ, ◌++◌, ◌∷◌, ◌≡◌}
use Rattle.key_source.specs.declared.Key.TheVariants as keypad
use Rattle.pad_steps.specs.declared.answers.Answer.TheVariants as answer
use Rattle.pad_steps.specs.declared.answers.Completion.TheVariants as completion
use Rattle.pad_steps.specs.declared.answers.Event.TheVariants as event
use Rattle.pad_steps.specs.declared.answers.Out.TheVariants as out
use Rattle.pad_steps.specs.declared.answers.Reply.TheVariants as reply
use Rattle.pad_steps.specs.declared.answers.Shown.TheVariants as shown
use Rattle.pad_steps.specs.declared.commands.Algorithm.TheVariants as mode
use Rattle.pad_steps.specs.declared.commands.Command.TheVariants as command
use Rattle.pad_steps.specs.declared.commands.Form.TheVariants as form
use Rattle.pad_steps.specs.declared.commands.ImportSource.TheVariants as origin
use Rattle.pad_steps.specs.declared.commands.PinRequest.TheVariants as pin
use Rattle.pad_steps.specs.declared.commands.Start.TheVariants as started
use Rattle.pad_steps.specs.declared.commands.Verify.TheVariants as verify
use Rattle.pad_steps.specs.declared.steps.DiskWord.TheVariants as word
use Rattle.pad_steps.specs.declared.steps.Step.TheVariants as step
use Rattle.pad_words.specs.declared.Direction.TheVariants as way

-- an entry command comes into work
abbrev pub begun_entry : Command → List Act
begun_entry asked = quiet (step.Submit session_1 0 asked) ∷ quiet step.Begin ∷ []

abbrev pub digit_key : (value : ℕ) → nat_lt value 10 ≡ true → Key
digit_key value small = keypad.Digit (record { value = value; small = below_ten value small })

-- a press of a digit
abbrev pub digit : (value : ℕ) → nat_lt value 10 ≡ true → Act
digit value small = quiet (step.Press (digit_key value small))

abbrev pub press_enter : Act
press_enter = quiet (step.Press keypad.Enter)

abbrev pub press_cancel : Act
press_cancel = quiet (step.Press keypad.Cancel)

-- the digits, ENTER, CANCEL, CLEAR and BACKSPACE
abbrev pub entry_keys : Mask
entry_keys = record { keys = 0x000F03FF; fdks = 0 }

-- ENTER and CANCEL
abbrev pub ending_keys : Mask
ending_keys = record { keys = 0x00030000; fdks = 0 }

-- a PIN entry of these lengths; whether it ends by itself
abbrev pub get_pin : ℕ → ℕ → Bool → Command
get_pin least most auto_end = command.GetPin (record { min = least; max = most; auto_end = auto_end; active = entry_keys; terminate = ending_keys })

-- PINs of four digits are entered
abbrev pub entered_1234 : List Act
entered_1234 = begun_entry (get_pin 4 16 false) ++ digit 1 refl ∷ digit 2 refl ∷ digit 3 refl ∷ digit 4 refl ∷ press_enter ∷ []

abbrev pub entered_0000 : List Act
entered_0000 = begun_entry (get_pin 4 16 false) ++ digit 0 refl ∷ digit 0 refl ∷ digit 0 refl ∷ digit 0 refl ∷ press_enter ∷ []

-- the name of the key that PIN commands use here
abbrev pub pin_key : List ℕ
pin_key = codes "PPK"

-- a clear value is imported
abbrev pub import_clear : List ℕ → List ℕ → ℕ → Verify → Command
import_clear name value uses check = command.ImportKey (record { name = name; source = origin.Clear value; uses = uses; verify = check })

-- a key of zeros for FUNCTION is imported under that name
abbrev pub with_pin_key : List Act
with_pin_key = beginning ++ done_on_disk (import_clear pin_key zero_block 2 verify.Zero) word.Done

-- a PIN block
abbrev pub pin_block : Form → List ℕ → Option (List ℕ) → Option Block → List ℕ → ℕ → Command
pin_block in_form name second mixed customer pad = command.Pin (pin.Block (record { form = in_form; key = name; second = second; xor = mixed; customer = customer; pad = pad }))

-- an ISO 9564-1 format 0 block for the PAN 54321012345678 9
abbrev pub iso0_block : Command
iso0_block = pin_block form.Iso0 pin_key None None (5 ∷ 4 ∷ 3 ∷ 2 ∷ 1 ∷ 0 ∷ 1 ∷ 2 ∷ 3 ∷ 4 ∷ 5 ∷ 6 ∷ 7 ∷ 8 ∷ 9 ∷ []) 15

-- a local check of four digits with this offset
abbrev pub local_check : List ℕ → Command
local_check offset = command.Pin (pin.Check (record { key = pin_key; validation = replicate 16 0; pad = 0; offset = offset; count = 4; no_zero = false; table = 0 ∷ 1 ∷ 2 ∷ 3 ∷ 4 ∷ 5 ∷ 6 ∷ 7 ∷ 8 ∷ 9 ∷ 0 ∷ 1 ∷ 2 ∷ 3 ∷ 4 ∷ 5 ∷ [] }))

-- a message of one zero byte is authenticated
abbrev pub mac_under : List ℕ → Command
mac_under name = command.Crypt (record { algorithm = mode.Mac; direction = way.Encrypt; key = name; start = started.Zero; pad = 0; body = 0 ∷ [] })

-- replies

abbrev pub refused : Refusal → Reply
refused why = reply.No why

abbrev pub done : Reply
done = reply.Ok answer.Done

abbrev pub four_entered : Reply
four_entered = reply.Ok (answer.Entered 4 completion.Enter)

abbrev pub checked : List ℕ → Reply
checked value = reply.Ok (answer.Key (Some value))

abbrev pub unchecked : Reply
unchecked = reply.Ok (answer.Key None)

-- the check value of the key of zeros
abbrev pub zero_check : List ℕ
zero_check = 0x8C ∷ 0xA6 ∷ 0x4D ∷ []

-- the check value of the key 0123456789ABCDEF
abbrev pub counting_check : List ℕ
counting_check = 0xD5 ∷ 0xD4 ∷ 0x4F ∷ []

abbrev pub block_of : List ℕ → Reply
block_of bytes = reply.Ok (answer.Block (record { 0 = bytes }))

abbrev pub yes : Reply
yes = reply.Ok (answer.Checked true)

-- so many masked KEY events to session 1
abbrev pub masked_keys : ℕ → List Out
masked_keys zero = []
masked_keys (suc count) = out.Event session_1 (event.Key shown.Masked) ∷ masked_keys count

-- a KEY event to session 1 that shows its key
abbrev pub plain_key : Key → Out
plain_key key = out.Event session_1 (event.Key (shown.Plain key))
