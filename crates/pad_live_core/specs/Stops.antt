-- How a lane goes past its lines, how the worker works, and why each of them stops.
use Rattle.pad_desk.specs.Desks.{noted}
use Rattle.pad_desk.specs.Histories.{Legal, status_after}
use Rattle.pad_desk.specs.declared.outcome.StepOut.{StepOut}
use Rattle.pad_live_core.specs.LaneEvents.{DeskView, LaneEvent, Moves, opened, passed}
use Rattle.pad_live_core.specs.LaneLines.{Breaks, Follows, FollowsLine, IsPoll, Replied, id_drawn, ids_of, is_pending, reply_asked}
use Rattle.pad_desk.specs.Statuses.{ended_at, entry_runs_at}
use Rattle.pad_live_core.specs.Workers.{IsIdle}
use Rattle.pad_live_core.specs.declared.stop.Stop.{Stop}
use Rattle.pad_live_core.specs.declared.stop.Stop.TheVariants as why
use Rattle.pad_steps.specs.Formed.{is_well_formed}
use Rattle.pad_steps.specs.declared.steps.Step.{Step}
use Rattle.pad_words.specs.declared.numbers.Session.{Session}
use Rattle.pin_blocks.specs.PinRules.{PinRules}
use Rattle.script_lang.specs.declared.lane_kinds.LaneStep.TheVariants as lane
use Rattle.script_lang.specs.declared.lane_kinds.LaneStep.{LaneStep}
use Rattle.std.specs.Prelude.{Bool, Err, IsTrue, List, None, Ok, Option, Result, Some, [], false, length, nat_lt, true, ℕ, ◌++◌, ◌∷◌, ◌≡◌}
use Rattle.turnstile.specs.Numbers.{Each}
use Rattle.turnstile.specs.Turns.{Enters, Sees}

-- a step of the line that names no id has its form
abbrev pub IsFormedLine : LaneStep → Type 0
IsFormedLine (lane.Plain step) = IsTrue (is_well_formed step)
IsFormedLine other = Unit {0}

-- so it is of each of these lines
abbrev pub AreFormed : List LaneStep → Type 0
AreFormed = Each IsFormedLine

-- where the history was full, it had 1,048,576 entries
abbrev pub FullAt : Stop → DeskView → Type 0
FullAt why.Full view = length view.seen ≡ 1048576
FullAt other view = Unit {0}

-- where the lane stopped at a full history, it had 1,048,576 entries
abbrev pub LaneFull : Option Stop → DeskView → Type 0
LaneFull None view = Unit {0}
LaneFull (Some stop) view = FullAt stop view

-- one glance, which shows whether more requests ended than these
pub record ShowsMore (last : ℕ) (more : Bool) (before after : DeskView) : Type 0 where
  pub shown : ℕ
  pub status : ℕ
  pub note : after ≡ noted before shown status
  pub is : more ≡ nat_lt last (ended_at status)

-- one glance, which shows whether an entry runs
pub record ShowsEntry (runs : Bool) (before after : DeskView) : Type 0 where
  pub shown : ℕ
  pub status : ℕ
  pub note : after ≡ noted before shown status
  pub is : runs ≡ entry_runs_at status

-- the last glance showed that more requests ended than these
pub record SawMore (last : ℕ) (view : DeskView) : Type 0 where
  pub front : List (ℕ × ℕ)
  pub shown : ℕ
  pub status : ℕ
  pub notes : view.notes ≡ front ++ (shown, status) ∷ []
  pub more : IsTrue (nat_lt last (ended_at status))

-- the last glance showed that an entry runs
pub record SawEntry (view : DeskView) : Type 0 where
  pub front : List (ℕ × ℕ)
  pub shown : ℕ
  pub status : ℕ
  pub notes : view.notes ≡ front ++ (shown, status) ∷ []
  pub runs : IsTrue (entry_runs_at status)

-- the reason that counts more where one of a lane or the worker had none: a full history, and then any other
abbrev pub full_or : Option Stop → Option Stop
full_or (Some why.Full) = Some why.Full
full_or other = Some why.NoMemory

-- the reason that counts more: a full history, and then any other
abbrev pub worse : Option Stop → Option Stop → Option Stop
worse one None = one
worse one (Some why.Full) = Some why.Full
worse one (Some why.NoMemory) = full_or one
worse one (Some why.Told) = full_or one

module _ (pin_rules : PinRules) where
  -- nothing was entered and no line gone past
  abbrev pub Rests : DeskView → DeskView → Type 0
  Rests before after = (last : ℕ) → Moves pin_rules 0 last before [] 0 last after

  -- an await of an entry was gone past
  abbrev pub PassesEntry : DeskView → DeskView → Type 0
  PassesEntry before after = (k : ℕ) × ((last : ℕ) → Moves pin_rules 0 last before (passed k ∷ []) 0 last after)

  -- an await of an entry was gone past, or nothing was done
  abbrev pub Went : Bool → DeskView → DeskView → Type 0
  Went true before after = PassesEntry before after
  Went false before after = Rests before after

  -- an await of a reply is under way: it polled so far, and has room for so many polls more
  pub record Polling (session : Session) (id room last : ℕ) (before : DeskView) (last_after : ℕ) (after : DeskView) : Type 0 where
    pub polls : List LaneEvent
    pub pending : Each (IsPoll session id) polls
    pub moves : Moves pin_rules 0 last before (opened ∷ polls) room last_after after

  -- an await of a reply has its answer
  pub record Replying (session : Session) (id last : ℕ) (before : DeskView) (last_after : ℕ) (after : DeskView) : Type 0 where
    pub now : List LaneEvent
    pub replied : Replied session id now
    pub moves : Moves pin_rules 0 last before now 0 last_after after

  -- an ask was entered, and was told that the request is pending, or something else
  pub record AskTold (session : Session) (id : ℕ) (pending : Bool) (before after : DeskView) : Type 0 where
    pub place : ℕ
    pub outcome : StepOut
    pub told : is_pending outcome ≡ pending
    pub entered : Enters (Legal pin_rules) (status_after pin_rules) before place (reply_asked session id) outcome after

  -- an ask has another answer than pending, or pending; or it was refused
  abbrev pub Asked : Session → ℕ → Result Bool Stop → DeskView → DeskView → Type 0
  Asked session id (Ok true) before after = AskTold session id false before after
  Asked session id (Ok false) before after = AskTold session id true before after
  Asked session id (Err stop) before after = Sees (Legal pin_rules) (status_after pin_rules) before after

  -- a step was made, and its id kept if it drew one
  pub record Stepped (ids : List ℕ) (step : Step) (before : DeskView) (ids_after : List ℕ) (after : DeskView) : Type 0 where
    pub place : ℕ
    pub outcome : StepOut
    pub entered : Enters (Legal pin_rules) (status_after pin_rules) before place step outcome after
    pub drew : ids_after ≡ ids ++ id_drawn step outcome

  -- a line was done
  pub record LineDone (ids : List ℕ) (last : ℕ) (line : LaneStep) (before : DeskView) (ids_after : List ℕ) (last_after : ℕ) (after : DeskView) : Type 0 where
    pub now : List LaneEvent
    pub follows : FollowsLine ids line now
    pub drew : ids_after ≡ ids ++ ids_of now
    pub moves : Moves pin_rules 0 last before now 0 last_after after

  -- a line was not done
  pub record LineBroken (ids : List ℕ) (last : ℕ) (line : LaneStep) (before : DeskView) (last_after : ℕ) (after : DeskView) : Type 0 where
    pub now : List LaneEvent
    pub breaks : Breaks ids line now
    pub moves : Moves pin_rules 0 last before now 0 last_after after

  -- these lines were done
  pub record LinesDone (lines : List LaneStep) (before : DeskView) (ids : List ℕ) (last : ℕ) (after : DeskView) : Type 0 where
    pub events : List LaneEvent
    pub follows : Follows [] lines events
    pub drew : ids ≡ ids_of events
    pub moves : Moves pin_rules 0 0 before events 0 last after

  -- all lines were done
  pub record LaneWhole (lines : List LaneStep) (before after : DeskView) : Type 0 where
    pub events : List LaneEvent
    pub last : ℕ
    pub follows : Follows [] lines events
    pub moves : Moves pin_rules 0 0 before events 0 last after

  -- some lines were done, and the next was not
  pub record LaneCut (lines : List LaneStep) (before after : DeskView) : Type 0 where
    pub done : List LaneStep
    pub line : LaneStep
    pub rest : List LaneStep
    pub cut : lines ≡ done ++ line ∷ rest
    pub events : List LaneEvent
    pub now : List LaneEvent
    pub last : ℕ
    pub follows : Follows [] done events
    pub breaks : Breaks (ids_of events) line now
    pub moves : Moves pin_rules 0 0 before (events ++ now) 0 last after

  -- what a lane did
  abbrev pub LaneRan : List LaneStep → DeskView → Option Stop → DeskView → Type 0
  LaneRan lines before None after = LaneWhole lines before after
  LaneRan lines before (Some stop) after = LaneCut lines before after × FullAt stop after

-- one glance, and the step that was due at its status, if any: whether there was one
abbrev pub WorkTold : Result Bool Stop → DeskView → Type 0
WorkTold (Ok true) after = Unit {0}
WorkTold (Ok false) after = IsIdle after
WorkTold (Err stop) after = FullAt stop after

-- why the worker ended: its last glance said that no work is due, or it had to stop
abbrev pub WorkEnds : Option Stop → DeskView → Type 0
WorkEnds None after = IsIdle after
WorkEnds (Some stop) after = FullAt stop after

-- the last work was done; or it was left, since a lane or the worker had stopped before
abbrev pub FinishEnds : Option Stop → Option Stop → DeskView → Type 0
FinishEnds None stop after = WorkEnds stop after
FinishEnds (Some early) stop after = stop ≡ Some early
