-- What a step of the pad is.
use Rattle.disk_core.specs.DiskStates.{DiskState, EachImage}
use Rattle.flat_machine.specs.DiskSteps.{IsTied, StepOnDisk}
use Rattle.flat_machine.specs.Kept.{kept_next}
use Rattle.flat_machine.specs.KeyLayout.{key_layout}
use Rattle.flat_machine.specs.Machine.{Act, next, next_work, release, run}
use Rattle.flat_machine.specs.Power.{word_fate}
use Rattle.flat_machine.specs.RequestFacts.{draws, work_left}
use Rattle.flat_machine.specs.State.{Flat, is_off}
use Rattle.flat_machine.specs.StoreHistory.{Holds}
use Rattle.flat_machine.specs.Twins.{Alike, AlikeAfter, TwinSteps}
use Rattle.pad_machine.specs.Stands.{PadState, StandsFor, set_by, set_of}
use Rattle.pad_machine.specs.declared.pad.Stepped.{Stepped}
use Rattle.pad_steps.specs.declared.answers.Out.{Out}
use Rattle.pad_steps.specs.declared.steps.DiskWord.{DiskWord}
use Rattle.pad_steps.specs.declared.steps.Step.{Step}
use Rattle.pin_blocks.specs.PinRules.{PinRules}
use Rattle.std.specs.Prelude.{List, Some, [], false, length, ℕ, ◌++◌, ◌+◌, ◌<◌, ◌∷◌, ◌≡◌, ◌≤◌}

-- from this state, in a run of this seed, the step is the machine's: the pad stands for the machine's next state, says what the machine says, and answers the fate of a loading
pub record IsMachineStep (pin_rules : PinRules) (new : PadState) (before after : List Out) (step : Step) (stepped : Stepped) (seed : List ℕ) (state : Flat) : Type 0 where
  pub stands : StandsFor new seed (next (set_by pin_rules seed) state step stepped.word).state
  pub outs : after ≡ before ++ (next (set_by pin_rules seed) state step stepped.word).outs
  pub fate : stepped.fate ≡ word_fate state.shared stepped.word

-- pad and disk belong together
abbrev pub PadIsTied : PadState → DiskState → Type 0
PadIsTied pad disk = IsTied pad.kept.shared pad.stored disk

-- the step on the disk: its word fits, the disk did it, and what the disk has now is what the store's history allows
abbrev pub PadStepOnDisk : PinRules → PadState → PadState → Step → DiskWord → DiskState → DiskState → Type 0
PadStepOnDisk pin_rules old new step word s t = StepOnDisk key_layout (set_of pin_rules old.kept) old.kept.shared new.kept.shared step word s t

-- the history of the store goes on: where a run came to this state, and each image of the disk held what the history of this run allows, each image of now holds what that of the run with this step allows
abbrev pub HistoryGoesOn : PinRules → Step → DiskWord → List ℕ → Flat → DiskState → DiskState → Type 0
HistoryGoesOn pin_rules step word seed state s t = (acts : List Act) (first : List ℕ) → run (set_by pin_rules seed) acts ≡ state
    → EachImage s (Holds key_layout (set_by pin_rules seed) first acts) → EachImage t (Holds key_layout (set_by pin_rules seed) first (acts ++ record { step = step; word = word } ∷ []))

-- a state that is alike takes a twin of the step and releases the same: then it says the same, and stays alike
abbrev pub Unwinds : PinRules → Step → DiskWord → List ℕ → Flat → Type 0
Unwinds pin_rules step word seed state = (other : Flat) (twin : Step) → Alike state other → TwinSteps state.shared step twin
    → release (set_by pin_rules seed) other twin ≡ release (set_by pin_rules seed) state step
    → AlikeAfter (next (set_by pin_rules seed) state step word) (next (set_by pin_rules seed) other twin word)

-- one step of the pad over its disk, with the outs before and after it and its answer
pub record IsPadStep (pin_rules : PinRules) (old new : PadState) (before after : List Out) (step : Step) (stepped : Stepped) (s t : DiskState) : Type 0 where
  pub tied : PadIsTied new t
  pub machine : (seed : List ℕ) (state : Flat) → StandsFor old seed state → IsMachineStep pin_rules new before after step stepped seed state
  pub on_disk : PadStepOnDisk pin_rules old new step stepped.word s t
  pub history : (seed : List ℕ) (state : Flat) → StandsFor old seed state → HistoryGoesOn pin_rules step stepped.word seed state s t
  pub unwinding : (seed : List ℕ) (state : Flat) → StandsFor old seed state → Unwinds pin_rules step stepped.word seed state
  -- a step that was due leaves less to do, and a step draws one id at most
  pub less : is_off old.kept.shared.device ≡ false → next_work old.kept.shared ≡ Some step → work_left new.kept.shared.requests < work_left old.kept.shared.requests
  pub ids : length new.kept.shared.requests ≤ length old.kept.shared.requests + draws step

-- what is kept and what is said are those of the step on what was kept
pub record IsKeptStep (pin_rules : PinRules) (old new : PadState) (before after : List Out) (step : Step) (word : DiskWord) : Type 0 where
  pub state : new.kept ≡ (kept_next (set_of pin_rules old.kept) old.kept step word).state
  pub outs : after ≡ before ++ (kept_next (set_of pin_rules old.kept) old.kept step word).outs
