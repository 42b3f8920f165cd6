-- Two runs that are twins until a block is due. The first has all that the law of released blocks asks; the second holds another PIN, and releases another block. The cipher is DES itself, and the blocks were computed by another program.
use Rattle.des_core.specs.Bits.{bits_of, bits_of_bytes, bytes_of_bits, number_from, number_of}
use Rattle.pad_words.specs.Bytes.{exclusive_or}
use Rattle.des_core.specs.Des.{after_rounds, bits_by_table, cipher_function, column_of, des, des_back, left_rotation, output_block, preoutput, round_keys, round_keys_from, row_of, selection, selections}
use Rattle.des_core.specs.TripleDes.{tdea_bytes}
use Rattle.flat_machine.proofs.RunCommands.{begun_entry, entered_0000, entered_1234, iso0_block, pin_key, with_pin_key}
use Rattle.flat_machine.proofs.RunWords.{session_1}
use Rattle.flat_machine.specs.Machine.{Act, release, run}
use Rattle.flat_machine.specs.Clearing.{CommandInWork}
use Rattle.flat_machine.specs.Settings.{standard_setting, Setting}
use Rattle.flat_machine.specs.State.{opening}
use Rattle.flat_machine.specs.Twins.{Twins}
use Rattle.pad_steps.specs.declared.commands.BlockRequest.{BlockRequest}
use Rattle.std.proofs.Common.{inl, inr}
use Rattle.std.specs.Prelude.{List, None, Some, [], refl, ◌++◌, ◌∷◌, ◌≡◌}
use Rattle.pad_steps.specs.declared.answers.Answer.TheVariants as answer
use Rattle.pad_steps.specs.declared.commands.Command.TheVariants as command
use Rattle.pad_steps.specs.declared.commands.Form.TheVariants as form
use Rattle.pad_steps.specs.declared.commands.PinRequest.TheVariants as pin
use Rattle.pad_steps.specs.declared.steps.Step.TheVariants as step

abbrev pad : Setting
pad = standard_setting (λ number. number)

-- a PIN is entered, and a block of it is in work
abbrev block_due_of_1234 : List Act
block_due_of_1234 = with_pin_key ++ entered_1234 ++ begun_entry iso0_block

abbrev block_due_of_0000 : List Act
block_due_of_0000 = with_pin_key ++ entered_0000 ++ begun_entry iso0_block

abbrev block : BlockRequest
block = record { form = form.Iso0; key = pin_key; second = None; xor = None; customer = 5 ∷ 4 ∷ 3 ∷ 2 ∷ 1 ∷ 0 ∷ 1 ∷ 2 ∷ 3 ∷ 4 ∷ 5 ∷ 6 ∷ 7 ∷ 8 ∷ 9 ∷ []; pad = 15 }

-- the two differ in four masked presses, and have released nothing yet
twins_so_far : Twins pad opening block_due_of_1234 block_due_of_0000
twins_so_far = ((refl, inl refl, (refl, inl refl, (refl, inl refl, (refl, inl refl, (refl, inl refl, (refl, inl refl, (refl, inl refl, (refl, inr (refl, refl), (refl, inr (refl, refl), (refl, inr (refl, refl), (refl, inr (refl, refl), (refl, inl refl, (refl, inl refl, (refl, inl refl, tt)))))))))))))), refl)

-- a block of format 0 under one key is in work
block_in_work : CommandInWork (run pad block_due_of_1234).shared (command.Pin (pin.Block block))
block_in_work = record { request = record { id = 3; session = session_1; submitted = 0; limit = 0; command = iso0_block }; in_work = refl; asked = refl }

-- 041215FEDCBA9876 and 040021FEDCBA9876 under the key of zeros
released_of_1234 : release pad (run pad block_due_of_1234) step.Finish ≡ Some (answer.Block (record { 0 = 0xDF ∷ 0xB4 ∷ 0xF4 ∷ 0x53 ∷ 0xC7 ∷ 0x86 ∷ 0xCC ∷ 0xBB ∷ [] }))
unfolding tdea_bytes des des_back output_block preoutput bits_by_table after_rounds cipher_function selections selection row_of column_of round_keys round_keys_from left_rotation bits_of bits_of_bytes bytes_of_bits exclusive_or number_of number_from
released_of_1234 = refl

released_of_0000 : release pad (run pad block_due_of_0000) step.Finish ≡ Some (answer.Block (record { 0 = 0x3A ∷ 0xC0 ∷ 0xB3 ∷ 0xD4 ∷ 0x02 ∷ 0x43 ∷ 0x82 ∷ 0x98 ∷ [] }))
unfolding tdea_bytes des des_back output_block preoutput bits_by_table after_rounds cipher_function selections selection row_of column_of round_keys round_keys_from left_rotation bits_of bits_of_bytes bytes_of_bits exclusive_or number_of number_from
released_of_0000 = refl
