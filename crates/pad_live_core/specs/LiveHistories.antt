-- The history of lanes and a worker.
use Rattle.pad_desk.specs.Answers.{due_at}
use Rattle.pad_desk.specs.Histories.{DeskEntry, Legal, status_after}
use Rattle.pad_live_core.specs.LaneEvents.{DeskLog, DeskView, Holds, LaneEvent, PassedTrue, Rising, ended_in, opens_of, placed_from, placed_of, polls_of, steps_of}
use Rattle.pad_live_core.specs.LaneLines.{Breaks, Follows, LaneList, ids_of}
use Rattle.pad_live_core.specs.Bounds.{awaits}
use Rattle.pad_live_core.specs.Shuffles.{Shuffle}
use Rattle.pad_live_core.specs.Workers.{IsWorked}
use Rattle.pad_live_core.specs.declared.stop.Stop.TheVariants as why
use Rattle.pad_live_core.specs.declared.stop.Stop.{Stop}
use Rattle.pin_blocks.specs.PinRules.{PinRules}
use Rattle.script_lang.specs.declared.lane_kinds.LaneStep.{LaneStep}
use Rattle.std.specs.Prelude.{List, None, Option, Some, [], length, map, ℕ, ◌+◌, ◌++◌, ◌∷◌, ◌≡◌, ◌≤◌}
use Rattle.turnstile.specs.Numbers.{Each}
use Rattle.turnstile.specs.Rules.{StartsWith, entries_of, known_self}
use Rattle.turnstile.specs.declared.view.KnownPass.{KnownPass}

-- a lane: its lines, why it stopped if it did, and what its pass knew at its end
pub record Lane : Type 0 where
  pub lines : List LaneStep
  pub stop : Option Stop
  pub view : DeskView

-- some lines were done, and of the next at most a part
pub record FollowsPart (lines : List LaneStep) (all : List LaneEvent) : Type 0 where
  pub done : List LaneStep
  pub line : LaneStep
  pub rest : List LaneStep
  pub cut : lines ≡ done ++ line ∷ rest
  pub events : List LaneEvent
  pub now : List LaneEvent
  pub follows : Follows [] done events
  pub breaks : Breaks (ids_of events) line now
  pub is : all ≡ events ++ now

-- the events are those of all lines; or, of a lane that stopped, those of some
abbrev pub FollowsTo : List LaneStep → Option Stop → List LaneEvent → Type 0
FollowsTo lines None events = Follows [] lines events
FollowsTo lines (Some stop) events = FollowsPart lines events

-- the entries are those of the first of these lines
pub record IsLaneFront (lines : List LaneStep) (entries : List DeskEntry) : Type 0 where
  pub done : List LaneStep
  pub rest : List LaneStep
  pub cut : lines ≡ done ++ rest
  pub list : LaneList [] done entries

-- the entries are those of all lines; or, of a lane that stopped, those of the first
abbrev pub HasLaneList : List LaneStep → Option Stop → List DeskEntry → Type 0
HasLaneList lines None entries = LaneList [] lines entries
HasLaneList lines (Some stop) entries = IsLaneFront lines entries

-- the steps of each lane, and then its polls
abbrev pub lists_of : List (List LaneEvent) → List (List DeskEntry)
lists_of [] = []
lists_of (events ∷ others) = steps_of events ∷ polls_of events ∷ lists_of others

-- the notes of all lanes
abbrev pub notes_of : List Lane → List (ℕ × ℕ)
notes_of [] = []
notes_of (lane ∷ lanes) = lane.view.notes ++ notes_of lanes

-- the passes of all lanes
abbrev pub passes_of : List Lane → List KnownPass
passes_of [] = []
passes_of (lane ∷ lanes) = known_self lane.view ∷ passes_of lanes

-- the worker's pass after these lanes were joined into it
pub record JoinsLanes (before : DeskView) (lanes : List Lane) (after : DeskView) : Type 0 where
  pub number : after.number ≡ before.number
  pub seated : after.seated ≡ before.seated
  pub mine : after.mine ≡ before.mine
  pub ended : after.ended ≡ before.ended ++ passes_of lanes
  pub seen : StartsWith after.seen before.seen
  pub each : Each (λ (lane : Lane). StartsWith after.seen lane.view.seen) lanes
  pub notes : after.notes ≡ before.notes ++ notes_of lanes

module _ (pin_rules : PinRules) where
  -- the history has just these events of the lane with this number
  pub record LaneStands (number : List ℕ) (log : DeskLog) (events : List LaneEvent) : Type 0 where
    -- its entries stand at their places
    pub placed : placed_from 0 number log ≡ placed_of events
    pub rising : Rising 0 events (length log)
    -- where it went past an await of an entry, one ran
    pub passed : PassedTrue pin_rules log events
    -- it was told pending at most as often as it began to await a reply and requests ended
    pub polls : length (polls_of events) ≤ opens_of events + ended_in pin_rules log

  -- the lane with this number did its lines, or those before it stopped
  pub record LaneRuns (number : List ℕ) (log : DeskLog) (lane : Lane) (events : List LaneEvent) : Type 0 where
    pub stands : LaneStands number log events
    pub follows : FollowsTo lane.lines lane.stop events
    -- its polls are at most as many as its awaits of a reply and the requests that ended, taken together
    pub polls : length (polls_of events) ≤ awaits lane.lines + ended_in pin_rules log
    -- its steps are those of its lines, in the plain form
    pub list : HasLaneList lane.lines lane.stop (steps_of events)

  -- so it is of each lane, whose numbers count up
  abbrev pub LanesRun : DeskLog → ℕ → List Lane → List (List LaneEvent) → Type 0
  LanesRun log k [] [] = Unit {0}
  LanesRun log k [] (events ∷ others) = ⊥
  LanesRun log k (lane ∷ lanes) [] = ⊥
  LanesRun log k (lane ∷ lanes) (events ∷ others) =
      LaneRuns (k ∷ []) log lane events × LanesRun log (k + 1) lanes others

  -- what the whole history is: legal, a shuffle of the worker's entries and of the steps and the polls of each lane
  pub record LiveHistory (lines : List (List LaneStep)) (stop : Option Stop) (history : List DeskEntry) : Type 0 where
    pub log : DeskLog
    pub bare : history ≡ entries_of log
    pub legal : Legal pin_rules history
    pub lanes : List Lane
    pub lines_are : map (λ (lane : Lane). lane.lines) lanes ≡ lines
    pub events : List (List LaneEvent)
    pub run : LanesRun log 1 lanes events
    pub worked : IsWorked pin_rules (0 ∷ []) log
    pub work : List DeskEntry
    pub work_is : work ≡ map (λ (placed : ℕ × DeskEntry). placed.1) (placed_from 0 (0 ∷ []) log)
    pub shuffle : Shuffle history (work ∷ lists_of events)
    -- where nothing stopped, each lane did all its lines and no work is due
    pub done : stop ≡ None → Each (λ (lane : Lane). lane.stop ≡ None) lanes
    pub idle : stop ≡ None → due_at (status_after pin_rules history) ≡ None
    -- where a full history stopped the run, it has 1,048,576 entries; and where one stopped a lane, it stopped the run
    pub full : stop ≡ Some why.Full → length history ≡ 1048576
    pub met : Each (λ (lane : Lane). lane.stop ≡ Some why.Full → stop ≡ Some why.Full) lanes

  -- a lane's pass at its end, of this number: it knows its events
  pub record LaneKnows (k : ℕ) (lane : Lane) : Type 0 where
    pub number : lane.view.number ≡ k ∷ []
    pub seated : lane.view.seated ≡ 0
    pub ended : lane.view.ended ≡ []
    pub events : List LaneEvent
    pub last : ℕ
    pub holds : Holds pin_rules 0 last events lane.view
    pub follows : FollowsTo lane.lines lane.stop events

  -- so it is of each lane, whose numbers count up
  abbrev pub LanesKnow : ℕ → List Lane → Type 0
  LanesKnow k [] = Unit {0}
  LanesKnow k (lane ∷ lanes) = LaneKnows k lane × LanesKnow (k + 1) lanes
