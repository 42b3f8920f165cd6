-- PIN blocks and checks, and how long a PIN is held, computed by the definitions alone.
use Rattle.pad_words.specs.Bytes.{exclusive_or}
use Rattle.flat_machine.proofs.RunCommands.{begun_entry, block_of, checked, digit, done, ending_keys, entered_0000, entered_1234, entry_keys, four_entered, get_pin, iso0_block, local_check, pin_block, pin_key, press_cancel, press_enter, refused, with_pin_key, yes, zero_check}
use Rattle.flat_machine.proofs.RunWords.{done_quietly, quiet, replies_by, said_after, session_1, zero_encrypted}
use Rattle.flat_machine.specs.Machine.{Act}
use Rattle.std.specs.Prelude.{List, None, Some, [], false, refl, replicate, true, ◌++◌, ◌∷◌, ◌≡◌}
use Rattle.pad_steps.specs.declared.answers.Answer.TheVariants as answer
use Rattle.pad_steps.specs.declared.answers.Completion.TheVariants as completion
use Rattle.pad_steps.specs.declared.answers.Out.TheVariants as out
use Rattle.pad_steps.specs.declared.answers.Refusal.TheVariants as refusal
use Rattle.pad_steps.specs.declared.answers.Reply.TheVariants as reply
use Rattle.pad_steps.specs.declared.answers.Told.TheVariants as told
use Rattle.pad_steps.specs.declared.commands.Command.TheVariants as command
use Rattle.pad_steps.specs.declared.commands.Form.TheVariants as form
use Rattle.pad_steps.specs.declared.steps.Question.TheVariants as question
use Rattle.pad_steps.specs.declared.steps.Step.TheVariants as step

-- an IBM 3624 block of the PIN 0000 under the key of zeros, padded with 0
ibm_3624_block : replies_by (with_pin_key ++ entered_0000 ++ done_quietly (pin_block form.Ibm3624 pin_key None None [] 0)) ≡ checked zero_check ∷ four_entered ∷ block_of zero_encrypted ∷ []
ibm_3624_block = refl

-- the same under a second key, with XOR data that undoes the first encryption; XOR data without a second key is refused
second_key_and_xor_data : replies_by (with_pin_key ++ entered_0000 ++ done_quietly (pin_block form.Ibm3624 pin_key (Some pin_key) (Some (record { 0 = zero_encrypted })) [] 0) ++ done_quietly (pin_block form.Ibm3624 pin_key None (Some (record { 0 = zero_encrypted })) [] 0))
    ≡ checked zero_check ∷ four_entered ∷ block_of zero_encrypted ∷ refused refusal.InvalidData ∷ []
unfolding exclusive_or
second_key_and_xor_data = refl

-- ISO 9564-1 format 1: the transaction digits follow the PIN. Format 3: fill nibbles from the fill words 0 to 9, ten for a PIN of four digits
iso_1_and_3_blocks : replies_by (with_pin_key ++ entered_1234 ++ done_quietly (pin_block form.Iso1 pin_key None None (0 ∷ 1 ∷ 2 ∷ 3 ∷ 4 ∷ 5 ∷ 6 ∷ 7 ∷ 8 ∷ 9 ∷ []) 0)
    ++ entered_1234 ++ done_quietly (pin_block form.Iso3 pin_key None None (5 ∷ 4 ∷ 3 ∷ 2 ∷ 1 ∷ 0 ∷ 1 ∷ 2 ∷ 3 ∷ 4 ∷ 5 ∷ 6 ∷ 7 ∷ 8 ∷ 9 ∷ []) 0))
    ≡ checked zero_check ∷ four_entered ∷ block_of (0x14 ∷ 0x12 ∷ 0x34 ∷ 0x01 ∷ 0x23 ∷ 0x45 ∷ 0x67 ∷ 0x89 ∷ []) ∷ four_entered ∷ block_of (0x34 ∷ 0x12 ∷ 0x15 ∷ 0xAA ∷ 0xEE ∷ 0xAA ∷ 0xCC ∷ 0x44 ∷ []) ∷ []
unfolding exclusive_or
iso_1_and_3_blocks = refl

-- the natural digits are 8206 here, and with the offset 3038 they are 1234. The PIN goes with its first use; with maintain on it stays until maintain is off
used_pin_goes_unless_maintained : replies_by (with_pin_key ++ entered_1234 ++ done_quietly (local_check (3 ∷ 0 ∷ 3 ∷ 8 ∷ [])) ++ done_quietly (local_check []) ++ done_quietly (command.MaintainPin true)
    ++ entered_1234 ++ done_quietly (local_check (3 ∷ 0 ∷ 3 ∷ 8 ∷ [])) ++ done_quietly (local_check (3 ∷ 0 ∷ 3 ∷ 8 ∷ [])) ++ done_quietly (command.MaintainPin false) ++ done_quietly (local_check []))
    ≡ checked zero_check ∷ four_entered ∷ yes ∷ refused refusal.NoPin ∷ done ∷ four_entered ∷ yes ∷ yes ∷ done ∷ refused refusal.NoPin ∷ []
used_pin_goes_unless_maintained = refl

-- thirteen digits are too many for format 0, and the refusal keeps the PIN; they are not too many for Diebold
abbrev entered_13_digits : List Act
entered_13_digits = begun_entry (get_pin 4 16 false) ++ digit 1 refl ∷ digit 2 refl ∷ digit 3 refl ∷ digit 4 refl ∷ digit 5 refl ∷ digit 6 refl ∷ digit 7 refl ∷ digit 8 refl ∷ digit 9 refl ∷ digit 0 refl ∷ digit 1 refl ∷ digit 2 refl ∷ digit 3 refl ∷ press_enter ∷ []

refused_by_length : replies_by (with_pin_key ++ entered_13_digits ++ done_quietly iso0_block ++ done_quietly (pin_block form.Diebold pin_key None None [] 15) ++ done_quietly (pin_block form.Iso0 pin_key None None (replicate 11 1) 15))
    ≡ checked zero_check ∷ reply.Ok (answer.Entered 13 completion.Enter) ∷ refused refusal.LengthError ∷ block_of (0x12 ∷ 0x34 ∷ 0x56 ∷ 0x78 ∷ 0x90 ∷ 0x12 ∷ 0x3F ∷ 0xFF ∷ []) ∷ refused refusal.InvalidData ∷ []
refused_by_length = refl

-- another PIN entry clears the held PIN as it starts, and a data entry does not
entries_and_the_held_pin : replies_by (with_pin_key ++ entered_0000 ++ begun_entry (command.GetData (record { min = 0; max = 3; auto_end = false; active = entry_keys; terminate = ending_keys })) ++ press_enter ∷ done_quietly (pin_block form.Ibm3624 pin_key None None [] 0)
    ++ entered_0000 ++ begun_entry (get_pin 4 4 false) ++ press_cancel ∷ done_quietly (pin_block form.Ibm3624 pin_key None None [] 0))
    ≡ checked zero_check ∷ four_entered ∷ reply.Ok (answer.Figures [] completion.Enter) ∷ block_of zero_encrypted ∷ four_entered ∷ reply.Ok (answer.Entered 0 completion.Cancel) ∷ refused refusal.NoPin ∷ []
entries_and_the_held_pin = refl

-- a held PIN shows in the answer to `status`
held_pin_in_status : said_after (with_pin_key ++ entered_1234) (quiet (step.Ask session_1 question.Status) ∷ []) ≡ out.Told session_1 (told.Status (record { state = 1; keys = 1; holder = None; entry = false; pin = true; pending = 0 })) ∷ []
held_pin_in_status = refl
