-- Which pending requests end together, and what is told of them; and what the steps do that end requests or hand on the lock.
use Rattle.device_lock.specs.LockLine.{in_line, locked_out, out_of_line}
use Rattle.flat_machine.specs.Sessions.{grants, grants_after, told_lock}
use Rattle.flat_machine.specs.State.{Said, Shared, ends, said, says, with_outs_after, with_outs_before}
use Rattle.pad_machine.specs.declared.endings.Ending.TheVariants as ending
use Rattle.pad_machine.specs.declared.endings.Ending.{Ending}
use Rattle.pad_steps.specs.declared.answers.Out.TheVariants as out
use Rattle.pad_steps.specs.declared.answers.Out.{Out}
use Rattle.pad_steps.specs.declared.answers.Refusal.TheVariants as refusals
use Rattle.pad_steps.specs.declared.answers.Refusal.{Refusal}
use Rattle.pad_steps.specs.declared.answers.Reply.TheVariants as replied
use Rattle.pad_steps.specs.declared.answers.Reply.{Reply}
use Rattle.pad_steps.specs.declared.answers.Told.TheVariants as told
use Rattle.pad_steps.specs.declared.commands.Command.{Command}
use Rattle.pad_words.specs.Numbers.{same_session}
use Rattle.pad_words.specs.declared.numbers.Session.{Session}
use Rattle.request_queue.specs.Requests.{ended_where, is_due, pending_where}
use Rattle.request_queue.specs.declared.requests.Request.{Request}
use Rattle.request_queue.specs.declared.requests.RequestRow.{RequestRow}
use Rattle.session_book.specs.Sessions.{without_session}
use Rattle.std.specs.Prelude.{Bool, List, None, Option, Some, [], map, nat_lt, true, ℕ, ◌&&◌, ◌==◌, ◌||◌, ◌∷◌}

-- the request is one that ends: any; one of the session; one of the session that it names, where 0 names all of its own and another id the one above its floor; or one that is due at this clock
abbrev pub is_meant : Ending → Request Command → Bool
is_meant ending.All request = true
is_meant (ending.Of session) request = same_session request.session session
is_meant (ending.Named session floor id) request = same_session request.session session && ((id == 0) || ((request.id == id) && nat_lt floor request.id))
is_meant (ending.Due clock) request = is_due clock request

-- the pending requests that end, in order of ids
abbrev pub meant_in : Ending → List (RequestRow Command Reply) → List (Request Command)
meant_in which requests = pending_where (is_meant which) requests

-- they end with this refusal
abbrev pub all_ended : Ending → Refusal → List (RequestRow Command Reply) → List (RequestRow Command Reply)
all_ended which refusal requests = ended_where (is_meant which) (replied.No refusal) requests

-- and each is told so, in order of ids
abbrev pub endings_told : Ending → Refusal → List (RequestRow Command Reply) → List Out
endings_told which refusal requests = map (λ request. out.Ended request.session request.id (replied.No refusal)) (meant_in which requests)

-- the session to whom the lock is handed is told that it is granted it
abbrev pub granted_to : Option Session → List Out
granted_to None = []
granted_to (Some next) = out.Told next told.Granted ∷ []

-- the pending requests of the session end CANCELED, it is told closed, and where it held the lock the next is granted it
abbrev pub closes : Session → Shared → Said
closes session shared = with_outs_after (out.Told session told.Closed ∷ grants_after session shared.line)
    (ends (is_meant (ending.Of session)) refusals.Canceled (record shared { sessions = without_session session shared.sessions; line = out_of_line session shared.line }))

-- the session stands in the line for the lock, and is told so
abbrev pub lines_up : Session → Shared → Said
lines_up session shared = says (record shared { line = in_line session shared.line }) (out.Told session (told_lock (locked_out session shared.line)))

-- the session that holds the lock lets go of it, and the next is granted it
abbrev pub unlocks : Session → Shared → Said
unlocks session shared = said (record shared { line = out_of_line session shared.line }) (out.Told session told.Released ∷ grants (out_of_line session shared.line))

-- the session is told how many requests end, and those that it names by this id end CANCELED
abbrev pub cancels : Session → ℕ → ℕ → ℕ → Shared → Said
cancels session floor id count shared = with_outs_before (out.Told session (told.Canceled count) ∷ []) (ends (is_meant (ending.Named session floor id)) refusals.Canceled shared)

-- the clock shows so many ticks, and the requests that are due then end TIMEOUT
abbrev pub ticks_to : ℕ → Shared → Said
ticks_to clock shared = ends (is_meant (ending.Due clock)) refusals.Timeout (record shared { clock = clock })
