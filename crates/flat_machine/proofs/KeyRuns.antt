-- Keys, computed by the definitions alone.
use Rattle.pad_words.specs.Bytes.{exclusive_or, zero_block}
use Rattle.flat_machine.proofs.RunCommands.{begun_entry, checked, counting_check, digit, done, import_clear, mac_under, pin_block, pin_key, refused, unchecked, zero_check}
use Rattle.flat_machine.proofs.RunWords.{beginning, counting_key, done_on_disk, done_quietly, listening_to, quiet, replies_by, said_after, session_1, zero_encrypted}
use Rattle.cbc_mac.specs.Modes.{blocks, cbc, last_or, padded}
use Rattle.flat_machine.specs.Machine.{Act}
use Rattle.pad_steps.specs.declared.commands.Command.{Command}
use Rattle.pad_steps.specs.declared.commands.Verify.{Verify}
use Rattle.std.specs.Prelude.{List, None, Some, [], codes, false, refl, replicate, suc, true, zero, ℕ, ◌++◌, ◌∷◌, ◌≡◌}
use Rattle.key_source.specs.declared.Key.TheVariants as keypad
use Rattle.pad_steps.specs.declared.answers.Answer.TheVariants as answer
use Rattle.pad_steps.specs.declared.answers.Completion.TheVariants as completion
use Rattle.pad_steps.specs.declared.answers.Event.TheVariants as event
use Rattle.pad_steps.specs.declared.answers.Out.TheVariants as out
use Rattle.pad_steps.specs.declared.answers.Refusal.TheVariants as refusal
use Rattle.pad_steps.specs.declared.answers.Reply.TheVariants as reply
use Rattle.pad_steps.specs.declared.answers.Told.TheVariants as told
use Rattle.pad_steps.specs.declared.commands.Command.TheVariants as command
use Rattle.pad_steps.specs.declared.commands.Form.TheVariants as form
use Rattle.pad_steps.specs.declared.commands.ImportSource.TheVariants as origin
use Rattle.pad_steps.specs.declared.commands.Verify.TheVariants as verify
use Rattle.pad_steps.specs.declared.steps.DiskWord.TheVariants as word
use Rattle.pad_steps.specs.declared.steps.Question.TheVariants as question
use Rattle.pad_steps.specs.declared.steps.Step.TheVariants as step

abbrev import_sealed : List ℕ → List ℕ → ℕ → Verify → Command
import_sealed name kek uses check = command.ImportKey (record { name = name; source = origin.Sealed kek zero_encrypted; uses = uses; verify = check })

-- a key sealed under a key-encrypting key; under a key without that use, which service listeners hear of; and one that may not have a double
sealed_imports : said_after (listening_to true false) (done_on_disk (import_clear (codes "KEK") zero_block 8 verify.Zero) word.Done ++ done_on_disk (import_sealed (codes "W") (codes "KEK") 1 verify.Own) word.Done ++ done_quietly (import_sealed (codes "X") (codes "W") 1 verify.Nothing) ++ done_quietly (import_sealed (codes "N") (codes "KEK") 17 verify.Nothing) ++ quiet (step.Submit session_1 0 command.RsaImport) ∷ [])
    ≡ out.Request session_1 1 ∷ out.Ended session_1 1 (checked zero_check) ∷ out.Request session_1 2 ∷ out.Ended session_1 2 (checked zero_check)
    ∷ out.Request session_1 3 ∷ out.Ended session_1 3 (refused refusal.UseViolation) ∷ out.Event session_1 (event.IllegalKeyAccess (codes "W") refusal.UseViolation)
    ∷ out.Request session_1 4 ∷ out.Ended session_1 4 (refused (refusal.DuplicateKey (codes "KEK"))) ∷ out.Refused session_1 refusal.UnsuppCommand ∷ []
unfolding blocks
sealed_imports = refl

-- key parts from the pad

abbrev hex : ℕ → Act
hex value = quiet (step.Press (keypad.Hex value))

abbrev key_entry : List Act
key_entry = begun_entry (command.SecureKeyEntry (record { count = 16; auto_end = true; active = record { keys = 0x0002FFFF; fdks = 0 }; terminate = record { keys = 0x00020000; fdks = 0 }; verify = verify.Zero }))

abbrev import_part : ℕ → Verify → Command
import_part uses check = command.ImportKey (record { name = codes "MEK"; source = origin.Part; uses = uses; verify = check })

abbrev counting_digits : List Act
counting_digits = digit 0 refl ∷ digit 1 refl ∷ digit 2 refl ∷ digit 3 refl ∷ digit 4 refl ∷ digit 5 refl ∷ digit 6 refl ∷ digit 7 refl ∷ digit 8 refl ∷ digit 9 refl ∷ hex 10 ∷ hex 11 ∷ hex 12 ∷ hex 13 ∷ hex 14 ∷ hex 15 ∷ []

abbrev sixteen_zeros : List Act
sixteen_zeros = digit 0 refl ∷ digit 0 refl ∷ digit 0 refl ∷ digit 0 refl ∷ digit 0 refl ∷ digit 0 refl ∷ digit 0 refl ∷ digit 0 refl ∷ digit 0 refl ∷ digit 0 refl ∷ digit 0 refl ∷ digit 0 refl ∷ digit 0 refl ∷ digit 0 refl ∷ digit 0 refl ∷ digit 0 refl ∷ []

-- a key of two parts, which has no value before its second part is there; each import empties the part buffer
key_of_two_parts : replies_by (beginning ++ key_entry ++ counting_digits ++ done_on_disk (import_part 0x84 verify.Nothing) word.Done
    ++ done_quietly (mac_under (codes "MEK")) ++ done_quietly (import_part 4 verify.Nothing) ++ done_quietly (import_part 0x84 verify.Nothing) ++ key_entry ++ sixteen_zeros ++ done_on_disk (import_part 4 verify.Zero) word.Done)
    ≡ reply.Ok (answer.Part 16 completion.Auto (Some counting_check)) ∷ unchecked ∷ refused refusal.KeyNoValue ∷ refused refusal.AccessDenied ∷ refused refusal.AccessDenied ∷ reply.Ok (answer.Part 16 completion.Auto (Some zero_check)) ∷ checked counting_check ∷ []
unfolding exclusive_or blocks cbc last_or padded
key_of_two_parts = refl

abbrev construct_name : List ℕ
construct_name = codes "C"

-- a key under construction from outside: no value yet, other uses, another length, and completed
key_under_construction : replies_by (beginning ++ done_on_disk (import_clear construct_name counting_key 0x44 verify.Nothing) word.Done ++ done_quietly (mac_under construct_name)
    ++ done_quietly (import_clear construct_name zero_block 1 verify.Nothing) ++ done_quietly (import_clear construct_name (replicate 16 0) 4 verify.Nothing) ++ done_on_disk (import_clear construct_name zero_block 4 verify.Zero) word.Done)
    ≡ unchecked ∷ refused refusal.KeyNoValue ∷ refused refusal.AccessDenied ∷ refused refusal.InvalidKeyLength ∷ checked counting_check ∷ []
unfolding exclusive_or blocks cbc last_or padded
key_under_construction = refl

-- a value of one byte, and both construct bits
refused_imports : replies_by (beginning ++ done_quietly (import_clear (codes "D") (0 ∷ []) 4 verify.Nothing) ++ done_quietly (import_clear (codes "D") counting_key 0xC4 verify.Nothing)) ≡ refused refusal.InvalidKeyLength ∷ refused refusal.InvalidData ∷ []
refused_imports = refl

-- so many keys are imported, the last of them first
abbrev many_keys : ℕ → List Act
many_keys zero = []
many_keys (suc count) = done_on_disk (import_clear (suc count ∷ []) zero_block 2 verify.Nothing) word.Done ++ many_keys count

-- 64 keys fill the table: a new name finds no slot, a present one is replaced, and a deleted one leaves its slot
table_of_64_keys : said_after (beginning ++ many_keys 64) (done_quietly (import_clear (65 ∷ []) zero_block 2 verify.Nothing) ++ done_on_disk (import_clear (64 ∷ []) zero_block 2 verify.Zero) word.Done ++ done_on_disk (command.DeleteKey (1 ∷ [])) word.Done ++ done_on_disk (import_clear (65 ∷ []) zero_block 2 verify.Zero) word.Done)
    ≡ out.Request session_1 65 ∷ out.Ended session_1 65 (refused refusal.TableFull) ∷ out.Request session_1 66 ∷ out.Ended session_1 66 (checked zero_check)
    ∷ out.Request session_1 67 ∷ out.Ended session_1 67 done ∷ out.Request session_1 68 ∷ out.Ended session_1 68 (checked zero_check) ∷ []
table_of_64_keys = refl

-- INITIALIZATION empties every slot and is heard of; over an empty table it makes no device call and is heard of too
initialization : said_after (listening_to true false ++ done_on_disk (import_clear pin_key zero_block 2 verify.Zero) word.Done) (done_on_disk command.Init word.Done ++ done_quietly command.Init ++ quiet (step.Ask session_1 question.Names) ∷ [])
    ≡ out.Request session_1 2 ∷ out.Ended session_1 2 done ∷ out.Event session_1 event.Initialized ∷ out.Request session_1 3 ∷ out.Ended session_1 3 done ∷ out.Event session_1 event.Initialized ∷ out.Told session_1 (told.Names []) ∷ []
initialization = refl

-- one that the disk failed is not
failed_initialization : said_after (listening_to true false ++ done_on_disk (import_clear pin_key zero_block 2 verify.Zero) word.Done) (done_on_disk command.Init (word.Failed 0))
    ≡ out.Request session_1 2 ∷ out.Ended session_1 2 (refused refusal.HardwareError) ∷ []
failed_initialization = refl

-- a deletion of an absent key accuses no key
deletion_of_an_absent_key : said_after (listening_to true false) (done_quietly (command.DeleteKey (codes "GONE"))) ≡ out.Request session_1 1 ∷ out.Ended session_1 1 (refused refusal.KeyNotFound) ∷ []
deletion_of_an_absent_key = refl

-- the second key of a PIN block is asked for the same use as the first, before it is asked whether a PIN is held
second_key_without_its_use : said_after (listening_to true false ++ done_on_disk (import_clear pin_key zero_block 2 verify.Zero) word.Done ++ done_on_disk (import_clear (codes "B") counting_key 4 verify.Nothing) word.Done) (done_quietly (pin_block form.Ibm3624 pin_key (Some (codes "B")) None [] 0))
    ≡ out.Request session_1 3 ∷ out.Ended session_1 3 (refused refusal.UseViolation) ∷ out.Event session_1 (event.IllegalKeyAccess (codes "B") refusal.UseViolation) ∷ []
second_key_without_its_use = refl
