-- A disk in memory, as the disk that it is.
use Rattle.std.specs.Prelude.{◌≡◌, Option, Some, refl}
use Rattle.std.proofs.Common.{◌∙◌}
use Rattle.disk_core.specs.DiskMemories.{DiskMemory, memory_state}
use Rattle.disk_core.specs.DiskStates.{Arming, IsDiskState}
use Rattle.disk_core.specs.declared.memory_disk.MemDisk.{MemDisk}

-- the disk's memory
abbrev pub memory_of : MemDisk → DiskMemory
memory_of d = record {
  bytes = d.bytes;
  synced = d.synced;
  dirty = d.dirty;
  faults = d.faults;
  cuts = d.cuts;
  failed = d.failed;
  off = d.off;
  armed = d.armed;
}

armed_value : (a b : Option Arming) → Some a ≡ Some b → a ≡ b
armed_value a b e = cc

-- what is so of every disk is so of it
pub memory_laws : (d : MemDisk) → IsDiskState (memory_state (memory_of d))
memory_laws d = record {
  told = record { size = refl; same = λ i clean. refl };
  sized = λ c image. image.size ∙ d.bytes_size;
  armed = λ a e. d.later a (armed_value d.armed (Some a) e);
}
