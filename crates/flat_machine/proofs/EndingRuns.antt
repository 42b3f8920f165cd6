-- Runs that come near to breaking the laws of endings and of completeness, computed by the definitions alone.
use Rattle.flat_machine.proofs.RunCommands.{done, import_clear, mac_under, refused, with_pin_key, pin_key}
use Rattle.flat_machine.proofs.RunWords.{beginning, done_on_disk, done_quietly, listening_to, quiet, replies_by, said_after, session_1, session_2, with_word}
use Rattle.pad_words.specs.Bytes.{zero_block}
use Rattle.pad_steps.specs.declared.answers.Event.TheVariants as event
use Rattle.pad_steps.specs.declared.answers.Out.TheVariants as out
use Rattle.pad_steps.specs.declared.answers.Refusal.TheVariants as refusal
use Rattle.pad_steps.specs.declared.answers.Told.TheVariants as told
use Rattle.pad_steps.specs.declared.commands.Command.TheVariants as command
use Rattle.pad_steps.specs.declared.commands.Verify.TheVariants as verify
use Rattle.pad_steps.specs.declared.steps.DiskWord.TheVariants as word
use Rattle.pad_steps.specs.declared.steps.Step.TheVariants as step
use Rattle.std.specs.Prelude.{[], codes, false, refl, true, ◌++◌, ◌∷◌, ◌≡◌}

-- a limit counts from the Submit: at the second tick after it the request ends, and not at the fifth of the run
limit_from_the_submit : said_after beginning (quiet (step.Tick 5) ∷ quiet (step.Submit session_1 2 command.Reset) ∷ quiet (step.Tick 1) ∷ quiet (step.Submit session_1 2 command.Reset) ∷ quiet (step.Tick 1) ∷ [])
    ≡ out.Request session_1 1 ∷ out.Request session_1 2 ∷ out.Ended session_1 1 (refused refusal.Timeout) ∷ []
limit_from_the_submit = refl

-- the Cancel of another session names no request, and its Close ends none
cancel_by_another : said_after (beginning ++ quiet (step.Open session_2) ∷ quiet (step.Submit session_1 0 command.Reset) ∷ []) (quiet (step.Cancel session_2 1) ∷ quiet (step.Cancel session_2 0) ∷ quiet (step.Close session_2) ∷ [])
    ≡ out.Told session_2 (told.No refusal.InvalidReqId) ∷ out.Told session_2 (told.Canceled 0) ∷ out.Told session_2 told.Closed ∷ []
cancel_by_another = refl

-- a device that a failed call stopped refuses all but RESET; a Boot while it is on loads nothing, whatever its word; and a RESET that loads makes it ready
stopped_until_it_loads : replies_by (beginning ++ done_on_disk (import_clear pin_key zero_block 2 verify.Nothing) (word.Failed 0) ++ done_quietly (command.MaintainPin true) ++ with_word step.Boot (word.Loaded []) ∷ done_quietly (command.MaintainPin true)
    ++ done_on_disk command.Reset (word.Failed 0) ++ done_on_disk command.Reset (word.Loaded []) ++ done_quietly (command.MaintainPin true))
    ≡ refused refusal.HardwareError ∷ refused refusal.HardwareError ∷ refused refusal.HardwareError ∷ refused refusal.HardwareError ∷ done ∷ done ∷ []
stopped_until_it_loads = refl

-- a RESET whose word is neither failed nor cut is refused, where it reads a bad slot
reset_of_a_bad_store : replies_by (beginning ++ done_on_disk command.Reset (word.Bad 3) ++ done_quietly (command.MaintainPin true)) ≡ refused (refusal.BadStore 3) ∷ refused (refusal.BadStore 3) ∷ []
reset_of_a_bad_store = refl

-- a key that is used against its uses is accused to those that listen; an absent one of a deletion is not, though both are refused
accused_and_not : said_after (listening_to true false ++ done_on_disk (import_clear pin_key zero_block 2 verify.Nothing) word.Done) (done_quietly (mac_under pin_key) ++ done_quietly (command.DeleteKey (codes "GONE")))
    ≡ out.Request session_1 2 ∷ out.Ended session_1 2 (refused refusal.UseViolation) ∷ out.Event session_1 (event.IllegalKeyAccess pin_key refusal.UseViolation) ∷ out.Request session_1 3 ∷ out.Ended session_1 3 (refused refusal.KeyNotFound) ∷ []
accused_and_not = refl

-- where no session listens, the reply alone is told
nobody_listens : said_after with_pin_key (done_quietly (mac_under pin_key)) ≡ out.Request session_1 2 ∷ out.Ended session_1 2 (refused refusal.UseViolation) ∷ []
nobody_listens = refl
