-- Runs that come near to breaking the laws of the lock and of the queue, computed by the definitions alone.
use Rattle.flat_machine.proofs.RunWords.{beginning, quiet, said_after, session_1, session_2, setting, with_word}
use Rattle.flat_machine.specs.Machine.{Act, run}
use Rattle.flat_machine.specs.QueueFacts.{brought_from}
use Rattle.flat_machine.specs.State.{opening}
use Rattle.request_queue.specs.declared.requests.Request.{Request}
use Rattle.pad_steps.specs.declared.commands.Command.{Command}
use Rattle.pad_steps.specs.declared.answers.Out.TheVariants as out
use Rattle.pad_steps.specs.declared.answers.Refusal.TheVariants as refusal
use Rattle.pad_steps.specs.declared.answers.Told.TheVariants as told
use Rattle.pad_steps.specs.declared.commands.Command.TheVariants as command
use Rattle.pad_steps.specs.declared.steps.DiskWord.TheVariants as word
use Rattle.pad_steps.specs.declared.steps.Step.TheVariants as step
use Rattle.std.specs.Prelude.{List, [], map, refl, true, ◌++◌, ◌∷◌, ◌≡◌}

-- session 1 holds the lock, and session 2 waits for it
abbrev both_in_line : List Act
both_in_line = beginning ++ quiet (step.Open session_2) ∷ quiet (step.Lock session_1) ∷ quiet (step.Lock session_2) ∷ []

-- a session that waits does so through Off and a cut, and through an Unlock of its own, which is refused; then it is granted the lock
waits_through_a_cut : said_after both_in_line (quiet step.Off ∷ with_word step.Boot (word.Cut 0) ∷ with_word step.Boot (word.Loaded []) ∷ quiet (step.Unlock session_2) ∷ quiet (step.Unlock session_1) ∷ [])
    ≡ out.Told session_2 (told.No refusal.NotLocked) ∷ out.Told session_1 told.Released ∷ out.Told session_2 told.Granted ∷ []
waits_through_a_cut = refl

-- a session that waits and locks again keeps its place
locks_twice : (run setting (both_in_line ++ quiet (step.Lock session_2) ∷ quiet (step.Lock session_1) ∷ [])).shared.line ≡ session_1 ∷ session_2 ∷ []
locks_twice = refl

-- a session that leaves the line and locks again stands behind the one that was behind it
locks_again : (run setting (both_in_line ++ quiet (step.Unlock session_1) ∷ quiet (step.Lock session_1) ∷ [])).shared.line ≡ session_2 ∷ session_1 ∷ []
locks_again = refl

-- under a lock a greater id comes into work before a lower one of another session
abbrev lower_id_waits : List Act
lower_id_waits = beginning ++ quiet (step.Open session_2) ∷ quiet (step.Submit session_1 0 (command.MaintainPin true)) ∷ quiet (step.Lock session_2) ∷ quiet (step.Submit session_2 0 (command.MaintainPin true))
    ∷ quiet step.Begin ∷ quiet step.Finish ∷ quiet (step.Unlock session_2) ∷ quiet step.Begin ∷ quiet step.Finish ∷ []

order_under_a_lock : map (λ (a : Request Command). a.id) (brought_from setting opening lower_id_waits) ≡ 2 ∷ 1 ∷ []
order_under_a_lock = refl

-- a Submit that is refused draws no id
no_id_is_left_out : said_after both_in_line (quiet (step.Submit session_1 0 command.Init) ∷ quiet (step.Submit session_2 0 command.Init) ∷ quiet (step.Unlock session_1) ∷ quiet (step.Submit session_2 0 command.Init) ∷ [])
    ≡ out.Request session_1 1 ∷ out.Refused session_2 (refusal.Locked session_1) ∷ out.Told session_1 told.Released ∷ out.Told session_2 told.Granted ∷ out.Request session_2 2 ∷ []
no_id_is_left_out = refl
