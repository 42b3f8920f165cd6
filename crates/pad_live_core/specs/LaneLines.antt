-- Which events are those of a lane's lines.
use Rattle.pad_desk.specs.Histories.{DeskEntry}
use Rattle.pad_desk.specs.declared.outcome.StepOut.{StepOut}
use Rattle.pad_live_core.specs.LaneEvents.{LaneEvent, made, opened, passed, polled}
use Rattle.pad_steps.specs.declared.answers.Out.TheVariants as out
use Rattle.pad_steps.specs.declared.answers.Out.{Out}
use Rattle.pad_steps.specs.declared.answers.Told.TheVariants as telling
use Rattle.pad_steps.specs.declared.answers.Told.{Told}
use Rattle.pad_steps.specs.declared.steps.Question.TheVariants as asked
use Rattle.pad_steps.specs.declared.steps.Step.TheVariants as steps
use Rattle.pad_steps.specs.declared.steps.Step.{Step}
use Rattle.pad_words.specs.declared.numbers.Session.{Session}
use Rattle.script_lang.specs.declared.lane_kinds.LaneId.TheVariants as named
use Rattle.script_lang.specs.declared.lane_kinds.LaneId.{LaneId}
use Rattle.script_lang.specs.declared.lane_kinds.LaneStep.TheVariants as lane
use Rattle.script_lang.specs.declared.lane_kinds.LaneStep.{LaneStep}
use Rattle.std.specs.Prelude.{Bool, List, [], false, get_or, if◌then◌else◌, true, ℕ, ◌++◌, ◌-◌, ◌==◌, ◌∷◌, ◌≡◌, ◌⊎◌}
use Rattle.turnstile.specs.Entries.{entry}
use Rattle.turnstile.specs.Numbers.{Each}

-- the id that no request has
abbrev pub no_id : ℕ
no_id = 4294967295

-- what was told is that the request is pending
abbrev pub is_pending_told : Told → Bool
is_pending_told telling.Pending = true
is_pending_told other = false

abbrev pub is_pending_out : Out → Bool
is_pending_out (out.Told session told) = is_pending_told told
is_pending_out other = false

-- a step was told first that a request is pending
abbrev pub tells_pending : List Out → Bool
tells_pending [] = false
tells_pending (first ∷ rest) = is_pending_out first

-- an ask was told that the request is pending
abbrev pub is_pending : StepOut → Bool
is_pending outcome = tells_pending outcome.outs.items

-- the id of a request that was taken; 4294967295 of one that was refused
abbrev pub id_out : Out → ℕ
id_out (out.Request session id) = id
id_out other = no_id

abbrev pub first_id : List Out → ℕ
first_id [] = no_id
first_id (first ∷ rest) = id_out first

-- the id that a step drew, if it is a Submit
abbrev pub id_drawn : Step → StepOut → List ℕ
id_drawn (steps.Submit session limit command) outcome = first_id outcome.outs.items ∷ []
id_drawn other outcome = []

-- the ids of the lane's Submits, in order
abbrev pub ids_of : List LaneEvent → List ℕ
ids_of [] = []
ids_of (made place e ∷ events) = id_drawn e.op e.outcome ++ ids_of events
ids_of (polled place e ∷ events) = ids_of events
ids_of (passed k ∷ events) = ids_of events
ids_of (opened ∷ events) = ids_of events

-- the id of the lane's K-th Submit; 4294967295 where it was refused, comes later or is not there
abbrev pub id_at : List ℕ → ℕ → ℕ
id_at ids k = if k == 0 then no_id else get_or ids (k - 1) no_id

-- the id that a Cancel names
abbrev pub id_named : List ℕ → LaneId → ℕ
id_named ids named.Zero = 0
id_named ids (named.Nth k) = id_at ids k

-- one entry of this step
abbrev pub IsMade : Step → List LaneEvent → Type 0
IsMade step now = (place : ℕ) × (outcome : StepOut) × (now ≡ made place (entry step outcome) ∷ [])

-- an ask of a session for the reply of a request
abbrev pub reply_asked : Session → ℕ → Step
reply_asked session id = steps.Ask session (asked.Reply id)

-- an ask for this reply that was told pending
abbrev pub IsPoll : Session → ℕ → LaneEvent → Type 0
IsPoll session id (polled place e) = (e.op ≡ reply_asked session id) × (is_pending e.outcome ≡ true)
IsPoll session id other = ⊥

-- polls, and then an ask that was told something else
pub record Replied (session : Session) (id : ℕ) (now : List LaneEvent) : Type 0 where
  pub polls : List LaneEvent
  pub pending : Each (IsPoll session id) polls
  pub place : ℕ
  pub outcome : StepOut
  pub told : is_pending outcome ≡ false
  pub is : now ≡ opened ∷ polls ++ made place (entry (reply_asked session id) outcome) ∷ []

-- these events are those of the line; the ids are those of the Submits before it
abbrev pub FollowsLine : List ℕ → LaneStep → List LaneEvent → Type 0
FollowsLine ids (lane.Plain step) now = IsMade step now
FollowsLine ids (lane.Cancel session id) now = IsMade (steps.Cancel session (id_named ids id)) now
FollowsLine ids (lane.AskReply session k) now = IsMade (reply_asked session (id_at ids k)) now
FollowsLine ids lane.AwaitEntry now = (k : ℕ) × (now ≡ passed k ∷ [])
FollowsLine ids (lane.AwaitReply session k) now = Replied session (id_at ids k) now

-- these events are those of the lines, in order
abbrev pub Follows : List ℕ → List LaneStep → List LaneEvent → Type 0
Follows ids [] events = events ≡ []
Follows ids (line ∷ lines) events = (now : List LaneEvent) × (rest : List LaneEvent) × (events ≡ now ++ rest)
    × FollowsLine ids line now × Follows (ids ++ ids_of now) lines rest

-- polls of an await that was left
pub record LeftAwait (ids : List ℕ) (line : LaneStep) (now : List LaneEvent) : Type 0 where
  pub session : Session
  pub k : ℕ
  pub awaits : line ≡ lane.AwaitReply session k
  pub polls : List LaneEvent
  pub pending : Each (IsPoll session (id_at ids k)) polls
  pub is : now ≡ opened ∷ polls

-- a line that was not done: nothing, or an await of a reply with polls alone
abbrev pub Breaks : List ℕ → LaneStep → List LaneEvent → Type 0
Breaks ids line now = (now ≡ []) ⊎ LeftAwait ids line now

-- the lines whose steps are entered: all but the awaits of an entry. The steps of these entries are the lines' in order:
-- of an await of a reply, the ask whose answer is not pending
abbrev pub LineSteps : List ℕ → LaneStep → List DeskEntry → Type 0
LineSteps ids (lane.Plain step) now = (outcome : StepOut) × (now ≡ entry step outcome ∷ [])
LineSteps ids (lane.Cancel session id) now =
    (outcome : StepOut) × (now ≡ entry (steps.Cancel session (id_named ids id)) outcome ∷ [])
LineSteps ids (lane.AskReply session k) now =
    (outcome : StepOut) × (now ≡ entry (reply_asked session (id_at ids k)) outcome ∷ [])
LineSteps ids lane.AwaitEntry now = now ≡ []
LineSteps ids (lane.AwaitReply session k) now = (outcome : StepOut) × (is_pending outcome ≡ false)
    × (now ≡ entry (reply_asked session (id_at ids k)) outcome ∷ [])

-- the ids that these entries drew
abbrev pub ids_drawn : List DeskEntry → List ℕ
ids_drawn [] = []
ids_drawn (e ∷ entries) = id_drawn e.op e.outcome ++ ids_drawn entries

-- the steps of these entries are the lane's lines, in order
abbrev pub LaneList : List ℕ → List LaneStep → List DeskEntry → Type 0
LaneList ids [] entries = entries ≡ []
LaneList ids (line ∷ lines) entries = (now : List DeskEntry) × (rest : List DeskEntry) × (entries ≡ now ++ rest)
    × LineSteps ids line now × LaneList (ids ++ ids_drawn now) lines rest
