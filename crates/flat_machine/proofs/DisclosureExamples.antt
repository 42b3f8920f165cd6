-- Runs that come near to breaking what is said of what leaves the device, computed by the definitions alone.
use Rattle.flat_machine.proofs.RunCommands.{begun_entry, block_of, digit, entered_0000, entered_1234, get_pin, local_check, masked_keys, pin_block, pin_key, press_enter, with_pin_key}
use Rattle.flat_machine.proofs.RunWords.{done_quietly, listening_to, quiet, said_after, session_1, setting}
use Rattle.flat_machine.specs.Disclosure.{apart_from_answers, told_answers}
use Rattle.flat_machine.specs.Machine.{Act, release, releases_from, run}
use Rattle.flat_machine.specs.Settings.{Setting, standard_setting}
use Rattle.flat_machine.specs.State.{opening}
use Rattle.pad_words.specs.Bytes.{exclusive_or}
use Rattle.pad_steps.specs.declared.commands.Command.{Command}
use Rattle.pad_steps.specs.declared.commands.Verify.{Verify}
use Rattle.std.specs.Prelude.{List, None, Some, [], false, length, refl, suc, true, zero, ℕ, ◌++◌, ◌∷◌, ◌≡◌}
use Rattle.key_source.specs.declared.Key.TheVariants as keypad
use Rattle.pad_steps.specs.declared.answers.Answer.TheVariants as answer
use Rattle.pad_steps.specs.declared.answers.Completion.TheVariants as completion
use Rattle.pad_steps.specs.declared.answers.Event.TheVariants as event
use Rattle.pad_steps.specs.declared.answers.Out.TheVariants as out
use Rattle.pad_steps.specs.declared.answers.Reply.TheVariants as reply
use Rattle.pad_steps.specs.declared.answers.Told.TheVariants as told
use Rattle.pad_steps.specs.declared.commands.Command.TheVariants as command
use Rattle.pad_steps.specs.declared.commands.Form.TheVariants as form
use Rattle.pad_steps.specs.declared.commands.Verify.TheVariants as verify
use Rattle.pad_steps.specs.declared.steps.Question.TheVariants as question
use Rattle.pad_steps.specs.declared.steps.Step.TheVariants as step

-- an IBM 3624 block padded with 5
abbrev ibm_block : Command
ibm_block = pin_block form.Ibm3624 pin_key None None [] 5

abbrev block_of_1234 : List ℕ
block_of_1234 = 0x12 ∷ 0x34 ∷ 0x55 ∷ 0x55 ∷ 0x55 ∷ 0x55 ∷ 0x55 ∷ 0x55 ∷ []

-- a session that asks for the reply of a block hears the block twice; it was released once, and its end was told once
abbrev asked_again : List Act
asked_again = with_pin_key ++ entered_1234 ++ done_quietly ibm_block

heard_again : said_after asked_again (quiet (step.Ask session_1 (question.Reply 3)) ∷ []) ≡ out.Told session_1 (told.Reply 3 (block_of block_of_1234)) ∷ []
heard_again = refl

released_once : releases_from setting opening (asked_again ++ quiet (step.Ask session_1 (question.Reply 3)) ∷ []) ≡ answer.Block (record { 0 = block_of_1234 }) ∷ []
released_once = refl

told_once : told_answers setting opening (asked_again ++ quiet (step.Ask session_1 (question.Reply 3)) ∷ []) ≡ answer.Block (record { 0 = block_of_1234 }) ∷ []
told_once = refl

-- two PINs, two blocks: what is said differs in the block alone
says_another_block : said_after (with_pin_key ++ entered_0000 ++ begun_entry ibm_block) (quiet step.Finish ∷ []) ≡ out.Ended session_1 3 (block_of (0x00 ∷ 0x00 ∷ 0x55 ∷ 0x55 ∷ 0x55 ∷ 0x55 ∷ 0x55 ∷ 0x55 ∷ [])) ∷ []
says_another_block = refl

says_the_same_apart_from_it : apart_from_answers (said_after (with_pin_key ++ entered_0000 ++ begun_entry ibm_block) (quiet step.Finish ∷ [])) ≡ apart_from_answers (said_after (with_pin_key ++ entered_1234 ++ begun_entry ibm_block) (quiet step.Finish ∷ []))
says_the_same_apart_from_it = refl

-- PIN 1234 padded with 5 and PIN 12345 have one block, under DES as under any cipher, and are two PINs: their lengths, which were told, differ
abbrev pad : Setting
pad = standard_setting (λ number. number)

abbrev entered_12345 : List Act
entered_12345 = begun_entry (get_pin 4 16 false) ++ digit 1 refl ∷ digit 2 refl ∷ digit 3 refl ∷ digit 4 refl ∷ digit 5 refl ∷ press_enter ∷ []

abbrev due_after : List Act → Command → List Act
due_after entered asked = with_pin_key ++ entered ++ begun_entry asked

one_padded_block : release pad (run pad (due_after entered_12345 ibm_block)) step.Finish ≡ release pad (run pad (due_after entered_1234 ibm_block)) step.Finish
one_padded_block = refl

two_padded_pins : length (run pad (due_after entered_12345 ibm_block)).held ≡ 5
two_padded_pins = refl

-- under a second key with XOR data of no bytes all PINs would have one block; no request has such data, for the code's type of it is eight bytes
abbrev short_data_block : Command
short_data_block = pin_block form.Ibm3624 pin_key (Some pin_key) (Some (record { 0 = [] })) [] 5

one_block_by_short_data : release setting (run setting (due_after entered_0000 short_data_block)) step.Finish ≡ release setting (run setting (due_after entered_1234 short_data_block)) step.Finish
unfolding exclusive_or
one_block_by_short_data = refl

-- in format 1 PINs 1234 and 12345 have two blocks, for the length stands in the block
abbrev iso_1_block : Command
iso_1_block = pin_block form.Iso1 pin_key None None (5 ∷ 5 ∷ 5 ∷ 5 ∷ 5 ∷ 5 ∷ 5 ∷ 5 ∷ 5 ∷ 5 ∷ []) 0

iso_1_of_1234 : release setting (run setting (due_after entered_1234 iso_1_block)) step.Finish ≡ Some (answer.Block (record { 0 = 0x14 ∷ 0x12 ∷ 0x34 ∷ 0x55 ∷ 0x55 ∷ 0x55 ∷ 0x55 ∷ 0x55 ∷ [] }))
iso_1_of_1234 = refl

iso_1_of_12345 : release setting (run setting (due_after entered_12345 iso_1_block)) step.Finish ≡ Some (answer.Block (record { 0 = 0x15 ∷ 0x12 ∷ 0x34 ∷ 0x55 ∷ 0x55 ∷ 0x55 ∷ 0x55 ∷ 0x55 ∷ [] }))
iso_1_of_12345 = refl

-- a check fixes no PIN: it answers no of both
check_of_1234 : release setting (run setting (due_after entered_1234 (local_check []))) step.Finish ≡ Some (answer.Checked false)
check_of_1234 = refl

check_of_0000 : release setting (run setting (due_after entered_0000 (local_check []))) step.Finish ≡ Some (answer.Checked false)
check_of_0000 = refl

-- key parts

abbrev key_part_entry : Verify → List Act
key_part_entry check = begun_entry (command.SecureKeyEntry (record { count = 16; auto_end = true; active = record { keys = 0x0002FFFF; fdks = 0 }; terminate = record { keys = 0x00020000; fdks = 0 }; verify = check }))

abbrev times : ℕ → Act → List Act
times zero act = []
times (suc count) act = act ∷ times count act

-- a digit fifteen times, and then A
abbrev part_says : Verify → Act → List Act
part_says check act = key_part_entry check ++ times 15 act ++ quiet (step.Press (keypad.Hex 10)) ∷ []

-- where no check value was asked for, the number alone is told
masked_part : said_after (listening_to false true) (part_says verify.Nothing (digit 3 refl)) ≡ out.Request session_1 1 ∷ out.Event session_1 event.EnterData ∷ masked_keys 16 ++ out.Ended session_1 1 (reply.Ok (answer.Part 16 completion.Auto None)) ∷ []
masked_part = refl

-- two key parts say the same where none was asked for. Where one was, of the first eight bytes of the key itself, it tells them apart here (the cipher of these runs leaves such a block as it is)
parts_say_the_same : said_after (listening_to false true) (part_says verify.Nothing (digit 4 refl)) ≡ said_after (listening_to false true) (part_says verify.Nothing (digit 3 refl))
parts_say_the_same = refl

own_check_of_threes : said_after [] (with_pin_key ++ part_says verify.Own (digit 3 refl)) ≡ said_after [] with_pin_key ++ out.Request session_1 2 ∷ out.Ended session_1 2 (reply.Ok (answer.Part 16 completion.Auto (Some (0x33 ∷ 0x33 ∷ 0x33 ∷ [])))) ∷ []
own_check_of_threes = refl

own_check_of_fours : said_after [] (with_pin_key ++ part_says verify.Own (digit 4 refl)) ≡ said_after [] with_pin_key ++ out.Request session_1 2 ∷ out.Ended session_1 2 (reply.Ok (answer.Part 16 completion.Auto (Some (0x44 ∷ 0x44 ∷ 0x44 ∷ [])))) ∷ []
own_check_of_fours = refl
