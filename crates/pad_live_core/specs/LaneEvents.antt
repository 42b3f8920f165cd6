-- What a lane did, event by event, and how the history has it.
use Rattle.pad_desk.specs.Histories.{DeskEntry, status_after}
use Rattle.pad_desk.specs.declared.outcome.StepOut.{StepOut}
use Rattle.pad_desk.specs.Statuses.{ended_at, entry_runs_at}
use Rattle.pad_steps.specs.declared.steps.Step.{Step}
use Rattle.pin_blocks.specs.PinRules.{PinRules}
use Rattle.std.specs.Prelude.{IsTrue, List, [], bytes_eq, if◌then◌else◌, length, take, ℕ, ◌+◌, ◌++◌, ◌∷◌, ◌≡◌, ◌≤◌}
use Rattle.turnstile.specs.Numbers.{places_from}
use Rattle.turnstile.specs.Rules.{NotesTrue, NotesWithin, entries_of, entry_in}
use Rattle.turnstile.specs.declared.machine.Entry.{Entry}
use Rattle.turnstile.specs.declared.view.MadeEntry.{MadeEntry}
use Rattle.turnstile.specs.declared.view.PassView.{PassView}

-- what a pass at a desk knows
abbrev pub DeskView : Type 0
DeskView = PassView Step StepOut

-- a history of a desk with the numbers of its makers
abbrev pub DeskLog : Type 0
DeskLog = List (MadeEntry Step StepOut)

module _ {O R : Type 0} where
  -- the entries of this number, each with its place, where the first entry of all has the place k
  abbrev pub placed_from : ℕ → List ℕ → List (MadeEntry O R) → List (ℕ × Entry O R)
  placed_from k number [] = []
  placed_from k number (made ∷ log) =
      if bytes_eq made.by number then (k, entry_in made) ∷ placed_from (k + 1) number log
      else placed_from (k + 1) number log

-- a lane made a step of its own, with its entry at this place; it asked there for a reply that it awaits, and was told
-- pending; it went past an await of an entry when the history had so many entries; it began to await a reply
pub data LaneEvent : Type 0 where
  made : ℕ → DeskEntry → LaneEvent
  polled : ℕ → DeskEntry → LaneEvent
  passed : ℕ → LaneEvent
  opened : LaneEvent

-- all entries of the lane, with their places
abbrev pub placed_of : List LaneEvent → List (ℕ × DeskEntry)
placed_of [] = []
placed_of (made place entry ∷ events) = (place, entry) ∷ placed_of events
placed_of (polled place entry ∷ events) = (place, entry) ∷ placed_of events
placed_of (passed k ∷ events) = placed_of events
placed_of (opened ∷ events) = placed_of events

-- its steps
abbrev pub steps_of : List LaneEvent → List DeskEntry
steps_of [] = []
steps_of (made place entry ∷ events) = entry ∷ steps_of events
steps_of (polled place entry ∷ events) = steps_of events
steps_of (passed k ∷ events) = steps_of events
steps_of (opened ∷ events) = steps_of events

-- its polls that were told pending
abbrev pub polls_of : List LaneEvent → List DeskEntry
polls_of [] = []
polls_of (made place entry ∷ events) = polls_of events
polls_of (polled place entry ∷ events) = entry ∷ polls_of events
polls_of (passed k ∷ events) = polls_of events
polls_of (opened ∷ events) = polls_of events

-- how many replies it began to await
abbrev pub opens_of : List LaneEvent → ℕ
opens_of [] = 0
opens_of (made place entry ∷ events) = opens_of events
opens_of (polled place entry ∷ events) = opens_of events
opens_of (passed k ∷ events) = opens_of events
opens_of (opened ∷ events) = 1 + opens_of events

-- from a length of the history on, the places rise; an await was gone past when the history was longer than the place of
-- the entry before it, and no longer than that of the next, or than the last length
abbrev pub Rising : ℕ → List LaneEvent → ℕ → Type 0
Rising from [] last = from ≤ last
Rising from (made place entry ∷ events) last = (from ≤ place) × Rising (place + 1) events last
Rising from (polled place entry ∷ events) last = (from ≤ place) × Rising (place + 1) events last
Rising from (passed k ∷ events) last = (from ≤ k) × Rising k events last
Rising from (opened ∷ events) last = Rising from events last

-- the pass is the same, with its number and the passes that it seated and knows
pub record SamePass (before after : DeskView) : Type 0 where
  pub number : after.number ≡ before.number
  pub seated : after.seated ≡ before.seated
  pub ended : after.ended ≡ before.ended

module _ (pin_rules : PinRules) where
  -- an entry runs after the first k entries
  abbrev pub EntryRunsAfter : ℕ → DeskLog → Type 0
  EntryRunsAfter k log = IsTrue (entry_runs_at (status_after pin_rules (entries_of (take k log))))

  -- how many requests ended in the history
  abbrev pub ended_in : DeskLog → ℕ
  ended_in log = ended_at (status_after pin_rules (entries_of log))

  -- where an await was gone past, an entry ran after so many entries
  abbrev pub PassedTrue : DeskLog → List LaneEvent → Type 0
  PassedTrue log [] = Unit {0}
  PassedTrue log (made place entry ∷ events) = PassedTrue log events
  PassedTrue log (polled place entry ∷ events) = PassedTrue log events
  PassedTrue log (passed k ∷ events) = EntryRunsAfter k log × PassedTrue log events
  PassedTrue log (opened ∷ events) = PassedTrue log events

  -- what a lane's pass knows of its events: `last` requests had ended at the glance before its last ask, and `room` polls
  -- more are allowed
  pub record Holds (room last : ℕ) (events : List LaneEvent) (view : DeskView) : Type 0 where
    pub placed : placed_from 0 view.number view.seen ≡ placed_of events
    pub mine : places_from 0 view.number view.seen ≡ view.mine
    pub rising : (n : ℕ) → length view.seen ≤ n → NotesWithin n view.notes → Rising 0 events n
    pub passed : (log : DeskLog) → NotesTrue (status_after pin_rules) log view.notes → PassedTrue log events
    pub polls : length (polls_of events) + room ≤ opens_of events + last
    pub told : (log : DeskLog) → NotesTrue (status_after pin_rules) log view.notes → last ≤ ended_in log

  -- these events were added
  pub record Moves (room last : ℕ) (before : DeskView) (new : List LaneEvent) (room_after last_after : ℕ) (after : DeskView) : Type 0 where
    pub same : SamePass before after
    pub holds : (events : List LaneEvent) → Holds room last events before → Holds room_after last_after (events ++ new) after
