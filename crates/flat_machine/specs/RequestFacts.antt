-- Words for what is so of the requests of every run.
use Rattle.flat_machine.specs.Facts.{outs_of}
use Rattle.flat_machine.specs.Machine.{Act, lines_from}
use Rattle.flat_machine.specs.Settings.{Setting}
use Rattle.flat_machine.specs.State.{After, Flat, after_said, says}
use Rattle.pad_steps.specs.declared.answers.Refusal.TheVariants as refusals
use Rattle.pad_steps.specs.declared.answers.Told.TheVariants as told
use Rattle.session_book.specs.Sessions.{floor_of, is_open}
use Rattle.request_queue.specs.declared.requests.Request.{Request}
use Rattle.request_queue.specs.declared.requests.RequestRow.{RequestRow}
use Rattle.request_queue.specs.declared.requests.RequestRow.TheVariants.{Gone, InWork, Waiting}
use Rattle.pad_steps.specs.declared.answers.Out.{Out}
use Rattle.pad_steps.specs.declared.answers.Reply.{Reply}
use Rattle.pad_steps.specs.declared.commands.Command.{Command}
use Rattle.pad_steps.specs.declared.steps.Step.{Step}
use Rattle.pad_steps.specs.declared.steps.Step.TheVariants as steps
use Rattle.pad_words.specs.declared.numbers.Session.{Session}
use Rattle.std.specs.Prelude.{List, [], filter, ℕ, ◌++◌, ◌+◌, ◌==◌, ◌∷◌, IsTrue, Some, slice_get, ◌≡◌, ◌≤◌}
use Rattle.pad_steps.specs.declared.answers.Out.TheVariants as out

-- the id of a row
abbrev pub row_id : RequestRow Command Reply → ℕ
row_id (Waiting request) = request.id
row_id (InWork request) = request.id
row_id (Gone id session reply) = id

-- all requests in work
abbrev pub in_work : List (RequestRow Command Reply) → List (Request Command)
in_work [] = []
in_work (Waiting request ∷ rows) = in_work rows
in_work (InWork request ∷ rows) = request ∷ in_work rows
in_work (Gone id session reply ∷ rows) = in_work rows

-- the end of a request: its id, the session that it was submitted by, and its reply
pub record Ending : Type 0 where
  pub id : ℕ
  pub session : Session
  pub reply : Reply

-- the end that an out tells of
abbrev pub ending_in : Out → List Ending
ending_in (out.Ended session id reply) = record { id = id; session = session; reply = reply } ∷ []
ending_in other = []

-- the ends that outs tell of, in order
abbrev pub endings : List Out → List Ending
endings [] = []
endings (first ∷ outs) = ending_in first ++ endings outs

-- the ends that the rows keep
abbrev pub kept_endings : List (RequestRow Command Reply) → List Ending
kept_endings [] = []
kept_endings (Waiting request ∷ rows) = kept_endings rows
kept_endings (InWork request ∷ rows) = kept_endings rows
kept_endings (Gone id session reply ∷ rows) = record { id = id; session = session; reply = reply } ∷ kept_endings rows

-- those of one request
abbrev pub of_id : ℕ → List Ending → List Ending
of_id id ends = filter (λ ending. ending.id == id) ends

-- how much work the requests still want: two steps while they wait, one while they are in work
abbrev pub work_left : List (RequestRow Command Reply) → ℕ
work_left [] = 0
work_left (Waiting request ∷ rows) = 2 + work_left rows
work_left (InWork request ∷ rows) = 1 + work_left rows
work_left (Gone id session reply ∷ rows) = work_left rows

-- the ids that a step may draw
abbrev pub draws : Step → ℕ
draws (steps.Submit session limit command) = 1
draws other = 0

-- the ends that a run tells of, in order
abbrev pub endings_told : Setting → Flat → List Act → List Ending
endings_told set start acts = endings (outs_of (lines_from set start acts))

-- the ends that a state keeps
abbrev pub endings_kept : Flat → List Ending
endings_kept state = kept_endings state.shared.requests

-- each request that ended stands in the later state as it does in the earlier
abbrev pub KeepsEnded : Flat → Flat → Type 0
KeepsEnded earlier later = (place id : ℕ) (session : Session) (reply : Reply)
    → slice_get earlier.shared.requests place ≡ Some (Gone id session reply) → slice_get later.shared.requests place ≡ Some (Gone id session reply)

-- the session is open, and the id is not above its floor
pub record IsBelowFloor (state : Flat) (session : Session) (id : ℕ) : Type 0 where
  pub session_open : IsTrue (is_open session state.shared.sessions)
  pub below : id ≤ floor_of session state.shared.sessions

-- the session is told INVALIDREQID, and nothing changes
abbrev pub no_such_request : Flat → Session → After
no_such_request state session = after_said state (says state.shared (out.Told session (told.No refusals.InvalidReqId)))
