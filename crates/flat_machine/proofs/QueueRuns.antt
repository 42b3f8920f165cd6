-- Sessions, the lock, the queue and time, computed by the definitions alone.
use Rattle.flat_machine.proofs.RunCommands.{begun_entry, digit, done, get_pin, pin_block, pin_key, press_cancel, refused, with_pin_key}
use Rattle.flat_machine.proofs.RunWords.{beginning, done_quietly, quiet, said_after, session_1, session_2, setting}
use Rattle.flat_machine.specs.Machine.{Act, next_work, run, status}
use Rattle.pad_steps.specs.declared.answers.Out.{Out}
use Rattle.std.specs.Prelude.{List, None, Some, [], false, refl, suc, true, zero, ℕ, ◌++◌, ◌+◌, ◌∷◌, ◌≡◌}
use Rattle.pad_steps.specs.declared.answers.Answer.TheVariants as answer
use Rattle.pad_steps.specs.declared.answers.Completion.TheVariants as completion
use Rattle.pad_steps.specs.declared.answers.Out.TheVariants as out
use Rattle.pad_steps.specs.declared.answers.Refusal.TheVariants as refusal
use Rattle.pad_steps.specs.declared.answers.Reply.TheVariants as reply
use Rattle.pad_steps.specs.declared.answers.Told.TheVariants as told
use Rattle.pad_steps.specs.declared.commands.Command.TheVariants as command
use Rattle.pad_steps.specs.declared.commands.Form.TheVariants as form
use Rattle.pad_steps.specs.declared.steps.Question.TheVariants as question
use Rattle.pad_steps.specs.declared.steps.Step.TheVariants as step

-- session 2 waits for the lock and may not submit; a canceled entry holds nothing; the lock goes on
lock_line : said_after (with_pin_key ++ quiet (step.Open session_2) ∷ []) (quiet (step.Lock session_1) ∷ quiet (step.Lock session_2) ∷ quiet (step.Ask session_2 question.Names) ∷ quiet (step.Submit session_2 0 command.Init)
    ∷ begun_entry (get_pin 4 6 false) ++ digit 5 refl ∷ quiet (step.Cancel session_1 2) ∷ done_quietly (pin_block form.Ibm3624 pin_key None None [] 0) ++ quiet (step.Unlock session_1) ∷ quiet (step.Unlock session_1) ∷ [])
    ≡ out.Told session_1 told.Granted ∷ out.Told session_2 (told.Waiting session_1) ∷ out.Told session_2 (told.Names (pin_key ∷ [])) ∷ out.Refused session_2 (refusal.Locked session_1) ∷ out.Request session_1 2
    ∷ out.Told session_1 (told.Canceled 1) ∷ out.Ended session_1 2 (refused refusal.Canceled) ∷ out.Request session_1 3 ∷ out.Ended session_1 3 (refused refusal.NoPin) ∷ out.Told session_1 told.Released ∷ out.Told session_2 told.Granted ∷ out.Told session_1 (told.No refusal.NotLocked) ∷ []
lock_line = refl

-- a lock keeps Begin from the requests of others: none is due, and Begin does nothing
abbrev locked_by_other : List Act
locked_by_other = beginning ++ quiet (step.Open session_2) ∷ quiet (step.Submit session_1 0 (command.MaintainPin true)) ∷ quiet (step.Lock session_2) ∷ []

lock_keeps_begin_from_others : next_work (run setting locked_by_other).shared ≡ None
lock_keeps_begin_from_others = refl

begin_under_a_lock : said_after locked_by_other (quiet step.Begin ∷ quiet step.Finish ∷ quiet (step.Unlock session_2) ∷ quiet step.Begin ∷ quiet step.Finish ∷ []) ≡ out.Told session_2 told.Released ∷ out.Ended session_1 1 done ∷ []
begin_under_a_lock = refl

-- Close ends the entry of its session, and the next request of another is due
abbrev two_requests : List Act
two_requests = beginning ++ quiet (step.Open session_2) ∷ begun_entry (get_pin 4 6 false) ++ quiet (step.Submit session_2 0 (command.MaintainPin true)) ∷ []

close_ends_the_entry : said_after two_requests (quiet (step.Close session_1) ∷ quiet step.Begin ∷ quiet step.Finish ∷ []) ≡ out.Ended session_1 1 (refused refusal.Canceled) ∷ out.Told session_1 told.Closed ∷ out.Ended session_2 2 done ∷ []
close_ends_the_entry = refl

next_request_is_due : next_work (run setting (two_requests ++ quiet (step.Close session_1) ∷ [])).shared ≡ Some step.Begin
next_request_is_due = refl

-- Close by the lock's holder grants the next in the line
close_grants_the_next : said_after (beginning ++ quiet (step.Open session_2) ∷ quiet (step.Lock session_1) ∷ quiet (step.Lock session_2) ∷ []) (quiet (step.Close session_1) ∷ []) ≡ out.Told session_1 told.Closed ∷ out.Told session_2 told.Granted ∷ []
close_grants_the_next = refl

-- no second request begins while one is in work
one_request_in_work : said_after two_requests (quiet step.Begin ∷ quiet step.Finish ∷ press_cancel ∷ quiet step.Begin ∷ quiet step.Finish ∷ []) ≡ out.Ended session_1 1 (reply.Ok (answer.Entered 0 completion.Cancel)) ∷ out.Ended session_2 2 done ∷ []
one_request_in_work = refl

-- a session that was opened again sees none of its requests from before
requests_below_the_floor : said_after (beginning ++ quiet (step.Submit session_1 0 command.Init) ∷ quiet (step.Close session_1) ∷ quiet (step.Open session_1) ∷ []) (quiet (step.Ask session_1 (question.Reply 1)) ∷ quiet (step.Cancel session_1 1) ∷ [])
    ≡ out.Told session_1 (told.No refusal.InvalidReqId) ∷ out.Told session_1 (told.No refusal.InvalidReqId) ∷ []
requests_below_the_floor = refl

-- sixteen requests

abbrev repeated : ℕ → Act → List Act
repeated zero act = []
repeated (suc count) act = act ∷ repeated count act

abbrev sixteen_requests : List Act
sixteen_requests = beginning ++ repeated 16 (quiet (step.Submit session_1 3 command.Reset))

abbrev timeouts_from : ℕ → ℕ → List Out
timeouts_from id zero = []
timeouts_from id (suc count) = out.Ended session_1 id (refused refusal.Timeout) ∷ timeouts_from (id + 1) count

-- a limit of three ticks ends nothing at the second tick
no_timeout_before_the_limit : said_after sixteen_requests (quiet (step.Tick 2) ∷ []) ≡ []
no_timeout_before_the_limit = refl

-- a seventeenth is refused; the limit ends all at the third tick
queue_and_time : said_after sixteen_requests (quiet (step.Submit session_1 3 command.Reset) ∷ quiet (step.Tick 2) ∷ quiet (step.Tick 1) ∷ quiet (step.Ask session_1 (question.Reply 4)) ∷ quiet (step.Ask session_1 (question.Reply 17)) ∷ [])
    ≡ out.Refused session_1 (refusal.QueueFull 16) ∷ timeouts_from 1 16 ++ out.Told session_1 (told.Reply 4 (refused refusal.Timeout)) ∷ out.Told session_1 (told.No refusal.InvalidReqId) ∷ []
queue_and_time = refl

-- the status of a ready device in which an entry runs
status_in_an_entry : status (run setting (beginning ++ begun_entry (get_pin 4 16 false))) ≡ 5
status_in_an_entry = refl
