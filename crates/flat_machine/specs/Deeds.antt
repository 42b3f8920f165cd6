-- Steps and armings, one after another: what a script does to a machine and its disk.
use Rattle.disk_core.specs.DiskStates.{Arming}
use Rattle.disk_core.specs.declared.disk.Strike.{Strike}
use Rattle.flat_machine.specs.Arms.{Due}
use Rattle.flat_machine.specs.DiskSteps.{armed_as, is_cut, is_failed, is_loaded, switched}
use Rattle.flat_machine.specs.Machine.{Act, fits, next, plan, run_from}
use Rattle.flat_machine.specs.Power.{fate_of}
use Rattle.flat_machine.specs.Settings.{Setting}
use Rattle.flat_machine.specs.State.{Flat, Shared}
use Rattle.pad_steps.specs.declared.steps.DiskWord.{DiskWord}
use Rattle.pad_steps.specs.declared.steps.DiskWord.TheVariants as words
use Rattle.pad_steps.specs.declared.steps.Fate.TheVariants as fates
use Rattle.std.specs.Prelude.{Bool, IsTrue, List, None, Option, Some, [], false, if◌then◌else◌, true, ℕ, ◌+◌, ◌∷◌, ◌≡◌, ◌≢◌, ◌||◌}

-- a step with its word, or the arming of a call of the disk
pub data Deed : Type 0 where
  Takes : Act → Deed
  Arms : ℕ → Strike → Deed

-- the steps
abbrev pub acts_in : List Deed → List Act
acts_in [] = []
acts_in (Takes act ∷ deeds) = act ∷ acts_in deeds
acts_in (Arms call strike ∷ deeds) = acts_in deeds

-- how many words say that a call failed
abbrev pub failed_words : List Deed → ℕ
failed_words [] = 0
failed_words (Takes act ∷ deeds) = (if is_failed act.word then 1 else 0) + failed_words deeds
failed_words (Arms call strike ∷ deeds) = failed_words deeds

-- how many words say that the power was cut
abbrev pub cut_words : List Deed → ℕ
cut_words [] = 0
cut_words (Takes act ∷ deeds) = (if is_cut act.word then 1 else 0) + cut_words deeds
cut_words (Arms call strike ∷ deeds) = cut_words deeds

-- a word loaded rows
abbrev pub loads_rows : List Deed → Bool
loads_rows [] = false
loads_rows (Takes act ∷ deeds) = is_loaded act.word || loads_rows deeds
loads_rows (Arms call strike ∷ deeds) = loads_rows deeds

-- a word that can come where every fault and cut leaves a slot whole: once rows were loaded the store does not read as bad, and no fate is other
abbrev pub IsCalm : Shared → DiskWord → Type 0
IsCalm shared (words.Loaded rows) = fate_of shared rows ≢ fates.Other
IsCalm shared (words.Bad slot) = shared.loaded ≡ true → ⊥
IsCalm shared other = Unit {0}

module _ (set : Setting) where
  -- the state after
  abbrev pub after_deeds : Flat → List Deed → Flat
  after_deeds state deeds = run_from set state (acts_in deeds)

  -- each word fits its step
  abbrev pub FitsDeeds : Flat → List Deed → Type 0
  FitsDeeds state [] = Unit {0}
  FitsDeeds state (Takes act ∷ deeds) = IsTrue (fits set state.shared act.step act.word) × FitsDeeds (next set state act.step act.word).state deeds
  FitsDeeds state (Arms call strike ∷ deeds) = FitsDeeds state deeds

  -- whether the disk is off after, where it was so before or not: after a cut or an Off until the next Boot
  abbrev pub off_along : Flat → List Deed → Bool → Bool
  off_along state [] was = was
  off_along state (Takes act ∷ deeds) was = off_along (next set state act.step act.word).state deeds (if is_cut act.word then true else switched state.shared act.step was)
  off_along state (Arms call strike ∷ deeds) was = off_along state deeds was

  -- each word is due by what is armed when its step comes, and this is armed after
  abbrev pub DueAlong : Flat → List Deed → Option Arming → Option Arming → Type 0
  DueAlong state [] armed after = after ≡ armed
  DueAlong state (Takes act ∷ deeds) armed after = (between : Option Arming) × Due (plan set state.shared act.step) (armed_as armed) act.word (armed_as between)
      × DueAlong (next set state act.step act.word).state deeds between after
  DueAlong state (Arms call strike ∷ deeds) armed after = DueAlong state deeds (Some (call, strike)) after

  -- the same, where the disk tells what is armed
  abbrev pub DueFrom : Flat → List Deed → Option (Option Arming) → Option (Option Arming) → Type 0
  DueFrom state deeds None after = after ≡ None
  DueFrom state deeds (Some armed) after = (new : Option Arming) × (after ≡ Some new) × DueAlong state deeds armed new

  -- each word can come where every fault and cut leaves a slot whole
  abbrev pub CalmFrom : Flat → List Deed → Type 0
  CalmFrom state [] = Unit {0}
  CalmFrom state (Takes act ∷ deeds) = IsCalm state.shared act.word × CalmFrom (next set state act.step act.word).state deeds
  CalmFrom state (Arms call strike ∷ deeds) = CalmFrom state deeds
