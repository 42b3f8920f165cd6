-- The histories of a desk: steps, each with what the pad said of it; and which of them are legal.
use Rattle.flat_machine.specs.Machine.{Act, fits, is_masked, next, run, status}
use Rattle.flat_machine.specs.Power.{word_fate}
use Rattle.flat_machine.specs.Settings.{Setting}
use Rattle.flat_machine.specs.State.{Flat, opening}
use Rattle.pad_desk.specs.declared.outcome.StepOut.{StepOut}
use Rattle.pad_machine.specs.Stands.{set_by}
use Rattle.pad_steps.specs.Formed.{is_well_formed}
use Rattle.pad_steps.specs.declared.steps.Step.{Step}
use Rattle.pin_blocks.specs.PinRules.{PinRules}
use Rattle.std.specs.Prelude.{IsTrue, List, [], map, ℕ, ◌∷◌, ◌≡◌}
use Rattle.turnstile.specs.declared.machine.Entry.{Entry}

-- a step with what the pad said of it
abbrev pub DeskEntry : Type 0
DeskEntry = Entry Step StepOut

-- the step and its word
abbrev pub act_of : DeskEntry → Act
act_of entry = record { step = entry.op; word = entry.outcome.word }

-- the steps and their words
abbrev pub acts_of : List DeskEntry → List Act
acts_of history = map act_of history

-- the step is well formed, in this state it may have this word, and its outs, whether it is masked, and its fate are those of the machine
pub record IsEntryAt (set : Setting) (state : Flat) (entry : DeskEntry) : Type 0 where
  pub formed : IsTrue (is_well_formed entry.op)
  pub fits : IsTrue (fits set state.shared entry.op entry.outcome.word)
  pub outs : entry.outcome.outs.items ≡ (next set state entry.op entry.outcome.word).outs
  pub masked : entry.outcome.masked ≡ is_masked state.shared entry.op
  pub fate : entry.outcome.fate ≡ word_fate state.shared entry.outcome.word

-- each entry is that of the machine after the entries before it, from this state on
abbrev pub LegalFrom : Setting → Flat → List DeskEntry → Type 0
LegalFrom set state [] = Unit {0}
LegalFrom set state (entry ∷ rest) = IsEntryAt set state entry × LegalFrom set (next set state entry.op entry.outcome.word).state rest

-- the seed of the run, which its entries tell
abbrev pub seed_of : List DeskEntry → List ℕ
seed_of [] = []
seed_of (entry ∷ rest) = entry.outcome.outs.seed

-- the entries are of a run of this seed
abbrev pub HasSeed : List ℕ → List DeskEntry → Type 0
HasSeed seed [] = Unit {0}
HasSeed seed (entry ∷ rest) = (entry.outcome.outs.seed ≡ seed) × HasSeed seed rest

-- what a pad of this PIN work has from outside in this history
abbrev pub setting_of : PinRules → List DeskEntry → Setting
setting_of pin_rules history = set_by pin_rules (seed_of history)

-- the state after the history
abbrev pub state_after : PinRules → List DeskEntry → Flat
state_after pin_rules history = run (setting_of pin_rules history) (acts_of history)

-- the history is legal: it is of one seed, and each entry is that of the machine after those before it, from the opening on
pub record Legal (pin_rules : PinRules) (history : List DeskEntry) : Type 0 where
  pub seed : HasSeed (seed_of history) history
  pub entries : LegalFrom (setting_of pin_rules history) opening history

-- the status after the history
abbrev pub status_after : PinRules → List DeskEntry → ℕ
status_after pin_rules history = status (state_after pin_rules history)
