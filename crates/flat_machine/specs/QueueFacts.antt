-- Words for what is so of the lock and of the queue in every run.
use Rattle.flat_machine.specs.Machine.{Act, next, run_from}
use Rattle.flat_machine.specs.Settings.{Setting}
use Rattle.flat_machine.specs.State.{After, Flat}
use Rattle.flat_machine.specs.declared.types.Owner.{Owner}
use Rattle.device_lock.specs.LockLine.{holder_of, holds}
use Rattle.request_queue.specs.Requests.{may_begin, request_in_work}
use Rattle.request_queue.specs.declared.requests.Request.{Request}
use Rattle.request_queue.specs.declared.requests.RequestRow.{RequestRow}
use Rattle.request_queue.specs.declared.requests.RequestRow.TheVariants.{Gone, InWork, Waiting}
use Rattle.pad_steps.specs.declared.answers.Out.{Out}
use Rattle.pad_steps.specs.declared.answers.Refusal.{Refusal}
use Rattle.pad_steps.specs.declared.answers.Reply.{Reply}
use Rattle.pad_steps.specs.declared.commands.Command.{Command}
use Rattle.pad_steps.specs.declared.steps.Step.{Step}
use Rattle.pad_words.specs.Numbers.{same_session}
use Rattle.pad_words.specs.declared.numbers.Session.{Session}
use Rattle.std.specs.List.{list_any, slice_get}
use Rattle.std.specs.Prelude.{Bool, IsTrue, List, None, Option, Some, [], false, filter, map, option_to_list, ℕ, ◌&&◌, ◌++◌, ◌||◌, ◌∷◌, ◌≡◌, ◌<◌}
use Rattle.pad_steps.specs.declared.answers.Out.TheVariants as out
use Rattle.pad_steps.specs.declared.answers.Told.TheVariants as told
use Rattle.pad_steps.specs.declared.steps.Step.TheVariants as steps

-- the session stands in the line for the lock: it holds the lock or waits for it
abbrev pub stands_in : Session → List Session → Bool
stands_in session line = list_any (λ other. same_session other session) line

-- the first session stands in the line before the second
abbrev pub is_ahead : Session → Session → List Session → Bool
is_ahead first second [] = false
is_ahead first second (session ∷ line) = (same_session session first && stands_in second line) || is_ahead first second line

-- the step takes the session out of the line: it is the session's own Close, or its Unlock while it holds the lock
abbrev pub leaves_line : Session → List Session → Step → Bool
leaves_line session line (steps.Close other) = same_session other session
leaves_line session line (steps.Unlock other) = same_session other session && holds session line
leaves_line session line other = false

-- the step is a Lock of the session
abbrev pub locks : Session → Step → Bool
locks session (steps.Lock other) = same_session other session
locks session other = false

-- both sessions stand in the line at every moment of the run
abbrev pub BothStand : Setting → Flat → Session → Session → List Act → Type 0
BothStand set state first second acts = (before after : List Act) → before ++ after ≡ acts
    → IsTrue (stands_in first (run_from set state before).shared.line && stands_in second (run_from set state before).shared.line)

-- the session that an out tells that it is granted the lock
abbrev pub granted_in : Out → List Session
granted_in (out.Told session told.Granted) = session ∷ []
granted_in other = []

-- the sessions that outs tell that they are granted the lock, in order
abbrev pub granted : List Out → List Session
granted [] = []
granted (first ∷ outs) = granted_in first ++ granted outs

-- the lock goes on: the line is those that waited, and the first of them, and no other, is told that it is granted the lock
pub record LockGoesTo (waiting : List Session) (after : After) : Type 0 where
  pub line : after.state.shared.line ≡ waiting
  pub told : granted after.outs ≡ option_to_list (holder_of waiting)

-- where a session holds the lock and the step takes it out of the line, the lock goes on to those that wait
abbrev pub PassesLock : Flat → Step → After → Type 0
PassesLock state step after = (session : Session) (waiting : List Session) → state.shared.line ≡ session ∷ waiting → IsTrue (leaves_line session state.shared.line step) → LockGoesTo waiting after

-- the first session stays before the second, if both go on to stand in the line
abbrev pub KeepsOrder : Session → Session → List Session → List Session → Type 0
KeepsOrder first second before after = IsTrue (is_ahead first second before) → IsTrue (stands_in first after) → IsTrue (stands_in second after) → IsTrue (is_ahead first second after)

-- the Submit of the session is refused: nothing changes, and that alone is said
pub record IsRefusedSubmit (state : Flat) (session : Session) (after : After) : Type 0 where
  pub why : Refusal
  pub stays : after.state ≡ state
  pub said : after.outs ≡ out.Refused session why ∷ []

-- the request that stands at this place waits before, and does so no more after
pub record IsTaken (before after : List (RequestRow Command Reply)) (place : ℕ) (request : Request Command) : Type 0 where
  pub waited : slice_get before place ≡ Some (Waiting request)
  pub taken : slice_get after place ≡ Some (Waiting request) → ⊥

-- of the requests that wait, one with a lower id than the request that is taken may not begin: the lock keeps it from work
abbrev pub TakesTheLeast : Flat → List (RequestRow Command Reply) → Type 0
TakesTheLeast state after = (place other_place : ℕ) (request other : Request Command) → IsTaken state.shared.requests after place request
    → slice_get state.shared.requests other_place ≡ Some (Waiting other) → other.id < request.id → may_begin (holder_of state.shared.line) other ≡ false

-- the request that comes into work between these two moments: it is in work at the second, and none was at the first
abbrev pub brought_into : Option (Request Command) → Option (Request Command) → List (Request Command)
brought_into None later = option_to_list later
brought_into (Some current) later = []

-- the step is Begin, and it brings into work the request, which waits before
pub record IsBegun (step : Step) (before after : List (RequestRow Command Reply)) (request : Request Command) : Type 0 where
  pub begin : step ≡ steps.Begin
  pub place : ℕ
  pub waited : slice_get before place ≡ Some (Waiting request)
  pub works : slice_get after place ≡ Some (InWork request)

module _ (set : Setting) where
  -- the requests that a run brings into work, in order
  abbrev pub brought_from : Flat → List Act → List (Request Command)
  brought_from state [] = []
  brought_from state (act ∷ acts) = brought_into (request_in_work state.shared.requests) (request_in_work (next set state act.step act.word).state.shared.requests)
      ++ brought_from (next set state act.step act.word).state acts

-- the ids of the requests of a session, in order
abbrev pub ids_of : Session → List (Request Command) → List ℕ
ids_of session requests = map (λ request. request.id) (filter (λ request. same_session request.session session) requests)

-- the id that an out tells for a request that was taken, and the session that it is told to
abbrev pub owner_in : Out → List Owner
owner_in (out.Request session id) = record { id = id; session = session } ∷ []
owner_in other = []

-- the ids that outs tell for requests that were taken, each with its session, in order
abbrev pub owners_in : List Out → List Owner
owners_in [] = []
owners_in (first ∷ outs) = owner_in first ++ owners_in outs

-- the id and the session of a row
abbrev pub row_owner : RequestRow Command Reply → Owner
row_owner (Waiting request) = record { id = request.id; session = request.session }
row_owner (InWork request) = record { id = request.id; session = request.session }
row_owner (Gone id session reply) = record { id = id; session = session }

-- the step is a Submit of the session
abbrev pub submits : Session → Step → Bool
submits session (steps.Submit other limit command) = same_session other session
submits session other = false
