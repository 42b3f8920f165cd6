-- The memory of a disk in memory, and what each call does to it.
use Rattle.std.specs.Prelude.{◌≡◌, ℕ, ◌<◌, Bool, true, false, List, length, replicate, slice_index, slice_index_or, Option, Some, None}
use Rattle.disk_core.specs.Causes.{next_count}
use Rattle.disk_core.specs.DiskStates.{Arming, DiskState, splice}
use Rattle.disk_core.specs.Disks.{armed_after, strike_of}
use Rattle.disk_core.specs.declared.disk.Keep.{Keep}
use Rattle.disk_core.specs.declared.disk.Keep.TheVariants.{Old, New, Fill}
use Rattle.disk_core.specs.declared.disk.Strike.TheVariants.{Fail, Cut}
use Rattle.disk_core.specs.declared.disk.TheConstants.{DISK_BYTES}

pub record DiskMemory : Type 0 where
  -- what a read gives, what it was at the last sync, and which bytes were written since
  pub bytes : List ℕ
  pub synced : List ℕ
  pub dirty : List Bool
  pub faults : ℕ
  pub cuts : ℕ
  pub failed : Bool
  pub off : Bool
  pub armed : Option Arming

-- the byte was not written since the last sync
abbrev pub IsClean : List Bool → ℕ → Type 0
IsClean dirty i = slice_index_or dirty i true ≡ false

-- c is the bytes, but for those that were written since the last sync
pub record IsCrashImage (bytes : List ℕ) (dirty : List Bool) (c : List ℕ) : Type 0 where
  pub size : length c ≡ length bytes
  pub same : (i : ℕ) → IsClean dirty i → slice_index c i ≡ slice_index bytes i

-- the disk that has this memory tells its bytes and what is armed
abbrev pub memory_state : DiskMemory → DiskState
memory_state m = record {
  content = Some m.bytes;
  image = IsCrashImage m.bytes m.dirty;
  faults = m.faults;
  cuts = m.cuts;
  failed = m.failed;
  off = m.off;
  armed = Some m.armed;
}

-- these bytes, all of them synced, on and unarmed, with no fault and no cut
abbrev pub fresh_memory : List ℕ → DiskMemory
fresh_memory bytes = record {
  bytes = bytes;
  synced = bytes;
  dirty = replicate DISK_BYTES false;
  faults = 0;
  cuts = 0;
  failed = false;
  off = false;
  armed = None;
}

-- with these bytes written at this place
abbrev pub with_written : ℕ → List ℕ → DiskMemory → DiskMemory
with_written at part m = record m { bytes = splice m.bytes at part; dirty = splice m.dirty at (replicate (length part) true) }

-- with all bytes synced
abbrev pub with_all_synced : DiskMemory → DiskMemory
with_all_synced m = record m { synced = m.bytes; dirty = replicate (length m.dirty) false }

-- what a power cut makes of a byte
abbrev pub settled_byte : Keep → Bool → ℕ → ℕ → ℕ
settled_byte keep false old new = new
settled_byte Old true old new = old
settled_byte New true old new = new
settled_byte (Fill b) true old new = b

-- each byte is as a power cut leaves it
abbrev pub IsSettledBy : Keep → List ℕ → List ℕ → List Bool → List ℕ → Type 0
IsSettledBy keep old new dirty after = (i : ℕ) → i < length new → slice_index after i ≡ settled_byte keep (slice_index_or dirty i true) (slice_index old i) (slice_index new i)

-- the power goes: each byte is settled, all are synced, and the disk is off
pub record LosesPower (keep : Keep) (m n : DiskMemory) : Type 0 where
  pub bytes : IsSettledBy keep m.synced m.bytes m.dirty n.bytes
  pub synced : n.synced ≡ n.bytes
  pub dirty : n.dirty ≡ replicate (length m.dirty) false
  pub off : n.off ≡ true

-- a call that is struck by a power cut, which finds this memory
pub record IsCut (keep : Keep) (m n : DiskMemory) : Type 0 where
  pub power : LosesPower keep m n
  pub faults : n.faults ≡ m.faults
  pub cuts : n.cuts ≡ next_count m.cuts
  pub failed : n.failed ≡ false
  pub armed : n.armed ≡ None

-- a call that leaves `done` if it is not struck, and in which a power cut finds `found`
pub record HasEffect (found done m n : DiskMemory) : Type 0 where
  pub off : m.off ≡ true → n ≡ m
  pub unstruck : m.off ≡ false → strike_of m.armed ≡ None → n ≡ record done { failed = false; armed = armed_after 1 m.armed }
  pub failed : m.off ≡ false → strike_of m.armed ≡ Some Fail → n ≡ record m { faults = next_count m.faults; failed = true; armed = None }
  pub cut : (keep : Keep) → m.off ≡ false → strike_of m.armed ≡ Some (Cut keep) → IsCut keep found n

abbrev pub HasReadEffect : DiskMemory → DiskMemory → Type 0
HasReadEffect m n = HasEffect m m m n

abbrev pub HasWriteEffect : ℕ → List ℕ → DiskMemory → DiskMemory → Type 0
HasWriteEffect at part m n = HasEffect (with_written at part m) (with_written at part m) m n

abbrev pub HasSyncEffect : DiskMemory → DiskMemory → Type 0
HasSyncEffect m n = HasEffect m (with_all_synced m) m n

-- a disk that is off goes on with its bytes
pub record HasOnEffect (m n : DiskMemory) : Type 0 where
  pub off : m.off ≡ true → n ≡ record (with_all_synced m) { off = false }
  pub on : m.off ≡ false → n ≡ m
