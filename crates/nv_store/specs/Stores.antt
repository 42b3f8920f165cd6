-- What a store keeps, and a disk that has the same.
use Rattle.disk_core.specs.DiskStates.{DiskState, IsOnlyImage}
use Rattle.std.specs.Prelude.{IfSome, List, None, Option, Some, ℕ, ◌≡◌}

-- the bytes that a store keeps, where it is settled
pub record Stored : Type 0 where
  pub bytes : Option (List ℕ)

-- where the disk tells its bytes, they are these, and a crash leaves nothing else
abbrev pub HasStable : DiskState → List ℕ → Type 0
HasStable disk bytes = IfSome disk.content (λ content. (content ≡ bytes) × IsOnlyImage bytes disk)

-- the store is settled, and the disk has its bytes
abbrev pub IsInStep : DiskState → Option (List ℕ) → Type 0
IsInStep disk None = ⊥
IsInStep disk (Some bytes) = HasStable disk bytes
