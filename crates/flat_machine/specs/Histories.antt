-- Histories: steps with what came of each. A history is legal where the machine, step by step, gives just these outcomes.
use Rattle.flat_machine.specs.Machine.{Act, fits, is_masked, next}
use Rattle.flat_machine.specs.Power.{word_fate}
use Rattle.flat_machine.specs.State.{Flat, opening}
use Rattle.flat_machine.specs.Settings.{Setting}
use Rattle.pad_steps.specs.Lines.{Line}
use Rattle.pad_steps.specs.declared.answers.Out.{Out}
use Rattle.pad_steps.specs.declared.steps.DiskWord.{DiskWord}
use Rattle.pad_steps.specs.declared.steps.Fate.{Fate}
use Rattle.pad_steps.specs.declared.steps.Step.{Step}
use Rattle.std.specs.Prelude.{Bool, IsTrue, List, None, Option, Some, [], if◌then◌else◌, ◌∷◌, ◌≡◌}

-- what came of a step: its word, what it said, whether it was masked, and the fate of a loading
pub record Outcome : Type 0 where
  pub word : DiskWord
  pub outs : List Out
  pub is_masked : Bool
  pub fate : Option Fate

-- an entry of a history
pub record HistoryEntry : Type 0 where
  pub op : Step
  pub outcome : Outcome

-- the step and the word of an entry
abbrev pub act_of : HistoryEntry → Act
act_of entry = record { step = entry.op; word = entry.outcome.word }

-- what is printed of an entry: its step, unless it was masked, and its outcome
abbrev pub line_of_entry : HistoryEntry → Line
line_of_entry entry = record {
  shown = if entry.outcome.is_masked then None else Some entry.op;
  word = entry.outcome.word;
  fate = entry.outcome.fate;
  outs = entry.outcome.outs;
}

module _ (set : Setting) where
  -- the outcome that the machine gives in a state
  abbrev pub outcome_of : Flat → Act → Outcome
  outcome_of state act = record { word = act.word; outs = (next set state act.step act.word).outs; is_masked = is_masked state.shared act.step; fate = word_fate state.shared act.word }

  -- from this state every word fits, and each outcome is the machine's after the entries before it
  abbrev pub LegalFrom : Flat → List HistoryEntry → Type 0
  LegalFrom state [] = Unit {0}
  LegalFrom state (entry ∷ rest) = IsTrue (fits set state.shared entry.op entry.outcome.word)
      × (entry.outcome ≡ outcome_of state (act_of entry))
      × LegalFrom (next set state entry.op entry.outcome.word).state rest

  -- legal from the opening
  abbrev pub Legal : List HistoryEntry → Type 0
  Legal history = LegalFrom opening history

  -- from this state every word of the run fits
  abbrev pub FitsFrom : Flat → List Act → Type 0
  FitsFrom state [] = Unit {0}
  FitsFrom state (act ∷ acts) = IsTrue (fits set state.shared act.step act.word) × FitsFrom (next set state act.step act.word).state acts
