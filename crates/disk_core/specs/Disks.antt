-- What the calls of a disk do to its state.
use Rattle.std.specs.Prelude.{◌≡◌, ℕ, ◌+◌, ◌-◌, ◌≤◌, nat_le, Bool, true, false, if◌then◌else◌, List, length, slice_range, Option, Some, None, IfSome, is_some, suc, zero, Result, Ok, Err}
use Rattle.std.specs.Option.{option_map}
use Rattle.disk_core.specs.Causes.{Rose}
use Rattle.disk_core.specs.DiskStates.{Arming, DiskState, IsOnlyImage, Shrinks, TearsWithin, TornWithin, splice}
use Rattle.disk_core.specs.declared.disk.DiskError.{DiskError}
use Rattle.disk_core.specs.declared.disk.DiskError.TheVariants.{Failed, Off}
use Rattle.disk_core.specs.declared.disk.Strike.{Strike}
use Rattle.disk_core.specs.declared.disk.Strike.TheVariants.{Fail, Cut}

-- the fault that a call answered
abbrev pub fault_in : {T : Type 0} → Result T DiskError → Option DiskError
fault_in (Ok x) = None
fault_in (Err e) = Some e

-- the power is off after this answer
abbrev pub is_cut : Option DiskError → Bool
is_cut None = false
is_cut (Some Failed) = false
is_cut (Some Off) = true

-- what a call answers that is struck
abbrev pub strike_fault : Strike → DiskError
strike_fault Fail = Failed
strike_fault (Cut keep) = Off

-- whether the last call failed, after n more, of which the last may have answered a fault
abbrev pub failed_after : ℕ → Bool → Option DiskError → Bool
failed_after zero before None = before
failed_after (suc n) before None = false
failed_after n before (Some Failed) = true
failed_after n before (Some Off) = false

-- the strike of the next call
abbrev pub strike_of : Option Arming → Option Strike
strike_of None = None
strike_of (Some a) = if nat_le a.0 1 then Some a.1 else None

-- the fault by which one of the next n calls is struck
abbrev pub struck_within : ℕ → Option Arming → Option DiskError
struck_within n None = None
struck_within n (Some a) = if nat_le a.0 n then Some (strike_fault a.1) else None

-- what is armed after n calls, the last of which may have been struck
abbrev pub armed_after : ℕ → Option Arming → Option Arming
armed_after n None = None
armed_after n (Some a) = if nat_le a.0 n then None else Some (a.0 - n, a.1)

-- where the disk tells what is armed, n calls fail as armed and in no other way
abbrev pub ObeysArming : ℕ → Option (Option Arming) → Option (Option Arming) → Option DiskError → Type 0
ObeysArming n None new fault = new ≡ None
ObeysArming n (Some a) new fault = (new ≡ Some (armed_after n a)) × (fault ≡ struck_within n a)

-- both counts stay
pub record KeepsCounts (s t : DiskState) : Type 0 where
  pub faults : t.faults ≡ s.faults
  pub cuts : t.cuts ≡ s.cuts

-- n calls that led from s to t, of which the last may have answered a fault
pub record DeviceCalls (n : ℕ) (s t : DiskState) (fault : Option DiskError) : Type 0 where
  -- no count falls, and each fault has its cause
  pub faults : s.faults ≤ t.faults
  pub cuts : s.cuts ≤ t.cuts
  pub failed : fault ≡ Some Failed → Rose s.faults t.faults
  pub cut : s.off ≡ false → fault ≡ Some Off → Rose s.cuts t.cuts
  -- where no call answered a fault, both counts stay
  pub done : fault ≡ None → KeepsCounts s t
  -- no call follows one that failed
  pub last : s.off ≡ false → t.failed ≡ failed_after n s.failed fault
  -- a disk that is off answers so, and an answer of it is what makes it off
  pub was_off : s.off ≡ true → fault ≡ Some Off
  pub now_off : t.off ≡ is_cut fault
  pub tells : is_some t.content ≡ is_some s.content
  -- a call that finds the disk off does not count
  pub armed : s.off ≡ false → ObeysArming n s.armed t.armed fault
  pub armed_off : s.off ≡ true → t.armed ≡ s.armed
  pub last_off : s.off ≡ true → t.failed ≡ s.failed

-- what a read gives stays, unless the power is off
abbrev pub KeepsContent : DiskState → DiskState → Type 0
KeepsContent s t = t.off ≡ false → t.content ≡ s.content

-- a read at this place, which left these bytes in the buffer
pub record Reads (at : ℕ) (bytes : List ℕ) (s t : DiskState) (fault : Option DiskError) : Type 0 where
  pub content : KeepsContent s t
  pub image : Shrinks s t
  pub given : fault ≡ None → IfSome s.content (λ c. bytes ≡ slice_range c at (at + length bytes))

-- a write of these bytes at this place, which may tear the range until a sync
pub record Writes (at : ℕ) (bytes : List ℕ) (s t : DiskState) (fault : Option DiskError) : Type 0 where
  pub image : TearsWithin at (length bytes) s t
  pub image_off : s.off ≡ true → Shrinks s t
  pub written : fault ≡ None → t.content ≡ option_map (λ c. splice c at bytes) s.content
  pub failed : fault ≡ Some Failed → IfSome s.content (λ b. IfSome t.content (λ c. TornWithin at (length bytes) b c))

-- a sync, which makes what a read gives the only crash image
pub record Syncs (s t : DiskState) (fault : Option DiskError) : Type 0 where
  pub content : KeepsContent s t
  pub image : Shrinks s t
  pub durable : fault ≡ None → IfSome s.content (λ c. IsOnlyImage c t)

-- the disk goes off, or stays so
pub record StopsDisk (s t : DiskState) : Type 0 where
  pub off : t.off ≡ true
  pub image : Shrinks s t
  pub counts : KeepsCounts s t
  pub tells : is_some t.content ≡ is_some s.content
  pub armed : t.armed ≡ s.armed

-- a disk that is off starts with one of its crash images, which is then the only one; a disk that is on stays as it is
pub record StartsDisk (s t : DiskState) : Type 0 where
  pub off : t.off ≡ false
  pub image : Shrinks s t
  pub stable : s.off ≡ true → IfSome t.content (λ c. IsOnlyImage c t)
  pub content : s.off ≡ false → t.content ≡ s.content
  pub image_on : s.off ≡ false → Shrinks t s
  pub counts : KeepsCounts s t
  pub tells : is_some t.content ≡ is_some s.content
  pub armed : t.armed ≡ s.armed

-- what was armed before is replaced, where the disk tells it, and all else stays
pub record ArmsDisk (call : ℕ) (strike : Strike) (s t : DiskState) : Type 0 where
  pub armed : IfSome s.armed (λ _. t.armed ≡ Some (Some (call, strike)))
  pub armed_untold : s.armed ≡ None → t.armed ≡ None
  pub off : t.off ≡ s.off
  pub content : t.content ≡ s.content
  pub image : Shrinks s t
  pub image_kept : Shrinks t s
  pub counts : KeepsCounts s t
