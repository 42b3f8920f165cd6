-- Power, cuts and faults, computed by the definitions alone.
use Rattle.flat_machine.proofs.RunCommands.{begun_entry, block_of, checked, done, entered_0000, four_entered, import_clear, pin_block, pin_key, refused, unchecked, with_pin_key, zero_check}
use Rattle.flat_machine.proofs.RunWords.{all_fit, beginning, counting_key, done_on_disk, done_quietly, fates_by, quiet, replies_by, said_after, said_by, session_1, setting, with_word, zero_encrypted}
use Rattle.flat_machine.specs.Arms.{Cuts, Due}
use Rattle.pad_words.specs.Bytes.{zero_block}
use Rattle.flat_machine.specs.Machine.{Act, plan, run}
use Rattle.flat_machine.specs.Power.{Plan}
use Rattle.flat_machine.specs.State.{opening}
use Rattle.key_attributes.specs.declared.KeyRow.{KeyRow}
use Rattle.pad_steps.specs.declared.commands.Command.{Command}
use Rattle.std.proofs.Common.{arith}
use Rattle.std.specs.Prelude.{List, None, Some, [], codes, false, refl, true, ℕ, ◌++◌, ◌∷◌, ◌≡◌}
use Rattle.pad_steps.specs.declared.answers.Out.TheVariants as out
use Rattle.pad_steps.specs.declared.answers.Refusal.TheVariants as refusal
use Rattle.pad_steps.specs.declared.answers.Told.TheVariants as told
use Rattle.pad_steps.specs.declared.commands.Command.TheVariants as command
use Rattle.pad_steps.specs.declared.commands.Form.TheVariants as form
use Rattle.pad_steps.specs.declared.commands.Verify.TheVariants as verify
use Rattle.pad_steps.specs.declared.steps.DiskWord.TheVariants as word
use Rattle.pad_steps.specs.declared.steps.Fate.TheVariants as fates
use Rattle.pad_steps.specs.declared.steps.Question.TheVariants as question
use Rattle.pad_steps.specs.declared.steps.Step.TheVariants as step

abbrev row_of_pin_key : KeyRow
row_of_pin_key = record { name = pin_key; value = zero_block; uses = 2 }

abbrev import_pin_key : Command
import_pin_key = import_clear pin_key zero_block 2 verify.Nothing

-- an import is cut, and then the store shows these rows
abbrev cut_then : List (ℕ × KeyRow) → List Act
cut_then rows = beginning ++ done_on_disk import_pin_key (word.Cut 0) ++ with_word step.Boot (word.Loaded rows) ∷ []

cut_ends_the_request : said_after beginning (done_on_disk import_pin_key (word.Cut 0)) ≡ out.Request session_1 1 ∷ out.Ended session_1 1 (refused refusal.ConnectionLost) ∷ []
cut_ends_the_request = refl

-- the key is whole either way: old rows, or the new row
cut_leaves_old_rows : fates_by (cut_then []) ≡ fates.First ∷ fates.Old ∷ []
cut_leaves_old_rows = refl

cut_leaves_new_row : fates_by (cut_then ((0, row_of_pin_key) ∷ [])) ≡ fates.First ∷ fates.New ∷ []
cut_leaves_new_row = refl

-- rows that are neither are other ones
cut_leaves_other_rows : fates_by (cut_then ((1, row_of_pin_key) ∷ [])) ≡ fates.First ∷ fates.Other ∷ []
cut_leaves_other_rows = refl

cut_run_fits : all_fit opening (cut_then []) ≡ true
cut_run_fits = refl

-- an import that was answered outlives a cut in the next boot
answered_import_stays : fates_by (beginning ++ done_on_disk import_pin_key word.Done ++ quiet step.Off ∷ with_word step.Boot (word.Cut 0) ∷ with_word step.Boot (word.Loaded ((0, row_of_pin_key) ∷ [])) ∷ []) ≡ fates.First ∷ fates.Old ∷ []
answered_import_stays = refl

-- the calls of an import are 1 to 4: a cut armed at call 4 strikes it, one armed at call 5 strikes the next call after it
abbrev import_calls : Plan
import_calls = plan setting (run setting (beginning ++ begun_entry import_pin_key)).shared step.Finish

cut_at_the_last_call : Due import_calls (Some (4, Cuts)) (word.Cut 0) None
cut_at_the_last_call = record { as_armed = refl; within = omega arith; slots = refl; spent = refl }

cut_after_the_last_call : Due import_calls (Some (5, Cuts)) word.Done (Some (1, Cuts))
cut_after_the_last_call = record { beyond = omega arith; nearer = refl }

-- a fault stops the device until RESET loads the store
fault_stops_the_device : replies_by (beginning ++ done_on_disk import_pin_key (word.Failed 0) ++ done_quietly (command.MaintainPin true) ++ done_on_disk command.Reset (word.Loaded [])) ≡ refused refusal.HardwareError ∷ refused refusal.HardwareError ∷ done ∷ []
fault_stops_the_device = refl

-- the slot in doubt stays in doubt through a loading that failed, and through a cut
doubt_stays_until_loaded : fates_by (beginning ++ done_on_disk import_pin_key (word.Failed 0) ++ done_on_disk command.Reset (word.Failed 0) ++ quiet step.Off ∷ with_word step.Boot (word.Cut 0) ∷ with_word step.Boot (word.Loaded ((0, row_of_pin_key) ∷ [])) ∷ []) ≡ fates.First ∷ fates.New ∷ []
doubt_stays_until_loaded = refl

-- and through a loading that found a bad slot
doubt_stays_through_a_bad_loading : fates_by (beginning ++ done_on_disk import_pin_key (word.Failed 0) ++ done_on_disk command.Reset (word.Bad 3) ++ done_on_disk command.Reset (word.Loaded ((0, row_of_pin_key) ∷ []))) ≡ fates.First ∷ fates.New ∷ []
doubt_stays_through_a_bad_loading = refl

-- INITIALIZATION that failed after one slot: the first row is gone, the second in doubt
init_failed_after_one_slot : fates_by (beginning ++ done_on_disk import_pin_key word.Done ++ done_on_disk (import_clear (codes "B") counting_key 4 verify.Nothing) word.Done ++ done_on_disk command.Init (word.Failed 1) ++ done_on_disk command.Reset (word.Loaded [])) ≡ fates.First ∷ fates.New ∷ []
init_failed_after_one_slot = refl

-- a cut clears PIN and maintain: the PIN that was held is gone, and a PIN entered after it goes with its first use
cut_clears_pin_and_maintain : replies_by (with_pin_key ++ done_quietly (command.MaintainPin true) ++ entered_0000 ++ done_on_disk (import_clear (codes "B") counting_key 4 verify.Nothing) (word.Cut 0) ++ with_word step.Boot (word.Loaded ((0, row_of_pin_key) ∷ []))
    ∷ done_quietly (pin_block form.Ibm3624 pin_key None None [] 0) ++ entered_0000 ++ done_quietly (pin_block form.Ibm3624 pin_key None None [] 0) ++ done_quietly (pin_block form.Ibm3624 pin_key None None [] 0))
    ≡ checked zero_check ∷ done ∷ four_entered ∷ refused refusal.ConnectionLost ∷ refused refusal.NoPin ∷ four_entered ∷ block_of zero_encrypted ∷ refused refusal.NoPin ∷ []
cut_clears_pin_and_maintain = refl

-- Off clears them too
off_clears_pin_and_maintain : replies_by (with_pin_key ++ done_quietly (command.MaintainPin true) ++ entered_0000 ++ quiet step.Off ∷ with_word step.Boot (word.Loaded ((0, row_of_pin_key) ∷ []))
    ∷ done_quietly (pin_block form.Ibm3624 pin_key None None [] 0) ++ entered_0000 ++ done_quietly (pin_block form.Ibm3624 pin_key None None [] 0) ++ done_quietly (pin_block form.Ibm3624 pin_key None None [] 0))
    ≡ checked zero_check ∷ done ∷ four_entered ∷ refused refusal.NoPin ∷ four_entered ∷ block_of zero_encrypted ∷ refused refusal.NoPin ∷ []
off_clears_pin_and_maintain = refl

-- RESET clears PIN and maintain, also where its loading failed
reset_clears_pin_and_maintain : replies_by (with_pin_key ++ done_quietly (command.MaintainPin true) ++ entered_0000 ++ done_on_disk command.Reset (word.Failed 0) ++ done_on_disk command.Reset (word.Loaded ((0, row_of_pin_key) ∷ []))
    ++ done_quietly (pin_block form.Ibm3624 pin_key None None [] 0) ++ entered_0000 ++ done_quietly (pin_block form.Ibm3624 pin_key None None [] 0) ++ done_quietly (pin_block form.Ibm3624 pin_key None None [] 0))
    ≡ checked zero_check ∷ done ∷ four_entered ∷ refused refusal.HardwareError ∷ done ∷ refused refusal.NoPin ∷ four_entered ∷ block_of zero_encrypted ∷ refused refusal.NoPin ∷ []
reset_clears_pin_and_maintain = refl

-- INITIALIZATION clears the PIN and keeps maintain
init_keeps_maintain : replies_by (beginning ++ done_quietly (command.MaintainPin true) ++ entered_0000 ++ done_quietly command.Init ++ done_on_disk import_pin_key word.Done ++ done_quietly (pin_block form.Ibm3624 pin_key None None [] 0)
    ++ entered_0000 ++ done_quietly (pin_block form.Ibm3624 pin_key None None [] 0) ++ done_quietly (pin_block form.Ibm3624 pin_key None None [] 0))
    ≡ done ∷ four_entered ∷ done ∷ unchecked ∷ refused refusal.NoPin ∷ four_entered ∷ block_of zero_encrypted ∷ block_of zero_encrypted ∷ []
init_keeps_maintain = refl

-- a store that reads as bad: every command is refused by it, and it shows in the answer to `status`
bad_store : said_by (with_word step.Boot (word.Bad 0) ∷ quiet (step.Open session_1) ∷ done_quietly command.Init ++ quiet (step.Ask session_1 question.Status) ∷ [])
    ≡ out.Told session_1 told.Opened ∷ out.Request session_1 1 ∷ out.Ended session_1 1 (refused (refusal.BadStore 0)) ∷ out.Told session_1 (told.Status (record { state = 3; keys = 0; holder = None; entry = false; pin = false; pending = 0 })) ∷ []
bad_store = refl

-- Off ends what is pending, and a device that is off takes no request
off_ends_requests : said_after beginning (quiet (step.Submit session_1 0 command.Init) ∷ quiet (step.Submit session_1 0 command.Init) ∷ quiet step.Off ∷ quiet (step.Submit session_1 0 command.Init) ∷ [])
    ≡ out.Request session_1 1 ∷ out.Request session_1 2 ∷ out.Ended session_1 1 (refused refusal.ConnectionLost) ∷ out.Ended session_1 2 (refused refusal.ConnectionLost) ∷ out.Refused session_1 refusal.ConnectionLost ∷ []
off_ends_requests = refl
