-- A disk that fails the calls of a list, and hands all others to a disk inside.
use Rattle.std.specs.Prelude.{◌≡◌, ℕ, ◌+◌, ◌-◌, ◌^◌, ◌||◌, Bool, min, true, false, List, Contains, Option, Some, None}
use Rattle.disk_core.specs.Causes.{next_count}
use Rattle.disk_core.specs.DiskStates.{DiskState, IsDiskState}
use Rattle.disk_core.specs.Disks.{DeviceCalls}
use Rattle.disk_core.specs.declared.disk.DiskError.{DiskError}
use Rattle.disk_core.specs.declared.disk.DiskError.TheVariants.{Failed, Off}

pub record FlakyState (D : Type 0) : Type 0 where
  -- the disk inside
  pub inner : D
  -- the numbers of the calls that are to fail, counted from 1
  pub fails : List ℕ
  -- how many calls there were, those that found the disk off not counted
  pub calls : ℕ
  -- how many of them were failed here
  pub faults : ℕ
  -- the last call was failed here, of those that found the disk on
  pub failed : Bool

-- the state of the disk inside, but for the faults that were made here; what is armed is not told
abbrev pub flaky_state : {D : Type 0} → (D → DiskState) → FlakyState D → DiskState
flaky_state state f = record (state f.inner) {
  faults = min ((state f.inner).faults + f.faults) (2 ^ 64 - 1);
  failed = f.failed || (state f.inner).failed;
  armed = None;
}

-- what is so of every disk is so of it
pub flaky_laws : {D : Type 0} → (state : D → DiskState) → ((d : D) → IsDiskState (state d))
    → (f : FlakyState D) → IsDiskState (flaky_state state f)
flaky_laws state laws f = record {
  told = (laws f.inner).told;
  sized = (laws f.inner).sized;
  armed = λ a e. absurd (cc);
}

-- the next call is to fail
abbrev pub IsToFail : {D : Type 0} → FlakyState D → Type 0
IsToFail f = Contains f.fails (next_count f.calls)

-- one more call
abbrev pub with_call : {D : Type 0} → FlakyState D → FlakyState D
with_call f = record f { calls = next_count f.calls; failed = false }

-- one more call, which was failed here
abbrev pub with_failed_call : {D : Type 0} → FlakyState D → FlakyState D
with_failed_call f = record (with_call f) { faults = next_count f.faults; failed = true }

-- what a call does to a disk's state, beside the fault that it answers
abbrev pub DiskStep : Type 1
DiskStep = DiskState → DiskState → Option DiskError → Type 0

module _ {D : Type 0} (state : D → DiskState) (Step : DiskStep) where
  -- one more call, which is a call of the disk inside and such a step of it
  pub record PassesCall (f g : FlakyState D) (fault : Option DiskError) : Type 0 where
    pub calls : DeviceCalls 1 (state f.inner) (state g.inner) fault
    pub step : Step (state f.inner) (state g.inner) fault
    pub rest : g ≡ record (with_call f) { inner = g.inner }

  -- a call does nothing where it finds the disk off, and is failed where it is to fail; every other is handed on
  pub record CountsFlakyCall (f g : FlakyState D) (fault : Option DiskError) : Type 0 where
    pub off : (state f.inner).off ≡ true → (fault ≡ Some Off) × (g ≡ f)
    pub failed : (state f.inner).off ≡ false → IsToFail f → (fault ≡ Some Failed) × (g ≡ with_failed_call f)
    pub passed : (state f.inner).off ≡ false → (IsToFail f → ⊥) → PassesCall f g fault
