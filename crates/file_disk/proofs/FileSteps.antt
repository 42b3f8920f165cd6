-- A write of a disk that tells nothing.
use Rattle.std.proofs.Common.{ℕ, ◌+◌, ◌≤◌, List, length, Option, refl, arith}
use Rattle.disk_core.specs.declared.disk.DiskError.{DiskError}
use Rattle.disk_core.specs.declared.disk.TheConstants.{DISK_BYTES}
use Rattle.disk_core.specs.Disks.{Writes}
use Rattle.disk_core.specs.DiskStates.{TornWithin}
use Rattle.file_disk.specs.FileDisks.{FileDiskState, as_disk}

-- a list is itself, torn
abbrev SameTorn : Type 0
SameTorn = (b : List ℕ) (at n : ℕ) → at + n ≤ length b → TornWithin at n b b

pub write_step : {F : Type 0} → SameTorn → (at : ℕ) (bytes : List ℕ) (f g : FileDiskState F) (fault : Option DiskError)
    → at + length bytes ≤ DISK_BYTES → Writes at bytes (as_disk f) (as_disk g) fault
write_step same at bytes f g fault fits = record {
  image = λ c long. (c, long, same c at (length bytes) (omega (arith, long, fits)));
  image_off = λ off c long. long;
  written = λ none. refl;
  failed = λ is. tt;
}
