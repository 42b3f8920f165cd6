-- A disk in a file, as contracts see it.
use Rattle.std.specs.Prelude.{◌≡◌, ℕ, nat_lt, Bool, true, false, if◌then◌else◌, length, Option, Some, None, Result}
use Rattle.std.specs.Option.{option_map}
use Rattle.disk_core.specs.Causes.{next_count}
use Rattle.disk_core.specs.DiskStates.{Arming, DiskState, IsDiskState}
use Rattle.disk_core.specs.Disks.{armed_after, strike_fault, strike_of, DeviceCalls}
use Rattle.disk_core.specs.declared.disk.DiskError.{DiskError}
use Rattle.disk_core.specs.declared.disk.DiskError.TheVariants.{Failed, Off}
use Rattle.disk_core.specs.declared.disk.Strike.{Strike}
use Rattle.disk_core.specs.declared.disk.TheConstants.{DISK_BYTES}
use Rattle.file_disk.specs.Files.{FileContent, FileState, after_resize}

-- the file, its counts, whether the last call failed, whether it is off, and what is armed
pub record FileDiskState (F : Type 0) : Type 0 where
  pub file : F
  pub faults : ℕ
  pub cuts : ℕ
  pub failed : Bool
  pub off : Bool
  pub armed : Option Arming

-- the disk that it is: it tells neither its bytes nor what is armed, since the host may fail any call
abbrev pub as_disk : {F : Type 0} → FileDiskState F → DiskState
as_disk f = record {
  content = None;
  image = λ c. length c ≡ DISK_BYTES;
  faults = f.faults;
  cuts = f.cuts;
  failed = f.failed;
  off = f.off;
  armed = None;
}

-- what is so of every disk is so of it
pub disk_laws : {F : Type 0} → (f : FileDiskState F) → IsDiskState (as_disk f)
disk_laws f = record { told = tt; sized = λ c long. long; armed = λ a e. absurd (cc) }

-- one call more, which did not fail, and one less up to the one that is to be struck
abbrev pub with_call_counted : {F : Type 0} → FileDiskState F → FileDiskState F
with_call_counted f = record f { failed = false; armed = armed_after 1 f.armed }

-- one failed call more
abbrev pub with_fault : {F : Type 0} → FileDiskState F → FileDiskState F
with_fault f = record f { faults = next_count f.faults; failed = true }

-- one power cut more, which made it off
abbrev pub with_cut : {F : Type 0} → FileDiskState F → FileDiskState F
with_cut f = record f { cuts = next_count f.cuts; off = true }

-- a disk over a file of which no call was made
abbrev pub fresh_disk : {F : Type 0} → F → FileDiskState F
fresh_disk file = record { file = file; faults = 0; cuts = 0; failed = false; off = false; armed = None }

-- lengthened with zero bytes to those of a disk, where it is shorter
abbrev pub lengthened : FileContent → FileContent
lengthened f = if nat_lt (length f.bytes) DISK_BYTES then after_resize DISK_BYTES f else f

-- a file was lengthened, where it was shorter than a disk, and no call failed
pub record IsLengthened (s t : FileState) : Type 0 where
  pub told : t.told ≡ option_map lengthened s.told
  pub faults : t.faults ≡ s.faults

module _ {F : Type 0} (f g : FileDiskState F) where
  -- one call: what it counts, and how it is struck
  pub record CountsCall (fault : Option DiskError) : Type 0 where
    pub off : f.off ≡ true → g ≡ f
    pub struck : f.off ≡ false → (strike : Strike) → strike_of f.armed ≡ Some strike →
        fault ≡ Some (strike_fault strike)
    pub done : f.off ≡ false → fault ≡ None → g ≡ record (with_call_counted f) { file = g.file }
    pub failed : f.off ≡ false → fault ≡ Some Failed →
        g ≡ record (with_fault (with_call_counted f)) { file = g.file }
    pub cut : f.off ≡ false → fault ≡ Some Off → g ≡ with_cut (with_call_counted f)

  -- a call of a disk that is on and does not strike it is this step of the file, and no other touches the file
  pub record CallsFile {T : Type 0} (state : F → FileState)
      (Step : FileState → FileState → Result T DiskError → Type 0) (result : Result T DiskError) : Type 0 where
    pub off : f.off ≡ true → g.file ≡ f.file
    pub struck : (strike : Strike) → strike_of f.armed ≡ Some strike → g.file ≡ f.file
    pub passed : f.off ≡ false → strike_of f.armed ≡ None → Step (state f.file) (state g.file) result

  -- a call that goes on to the file
  pub record PassesCall : Type 0 where
    pub on : f.off ≡ false
    pub unstruck : strike_of f.armed ≡ None
    pub counted : g ≡ with_call_counted f

  -- a call that does not go on to the file
  pub record StopsCall (fault : Option DiskError) : Type 0 where
    pub calls : DeviceCalls 1 (as_disk f) (as_disk g) fault
    pub counts : CountsCall fault
    pub file : g.file ≡ f.file
    pub why : f.off ≡ false → strike_of f.armed ≡ None → ⊥
