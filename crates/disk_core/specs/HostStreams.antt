-- A reader and a writer of the library, as a source and a sink.
use Rattle.std.specs.Prelude.{◌≡◌, ℕ, List, Option, Some, None}
use Rattle.disk_core.specs.Causes.{next_count}

pub record HostState (H : Type 0) : Type 0 where
  -- the reader or writer, as it is and as it was at first
  pub host : H
  pub first : H
  -- how many calls of it there were, and how many of them failed
  pub calls : ℕ
  pub faults : ℕ

-- what is told now, where it was told at first
abbrev pub told_since : Option (List ℕ) → Option (List ℕ) → Option (List ℕ)
told_since None now = None
told_since (Some first) now = now

-- what was told at first is told now
abbrev pub StaysTold : Option (List ℕ) → Option (List ℕ) → Type 0
StaysTold None now = Unit {0}
StaysTold (Some first) None = ⊥
StaysTold (Some first) (Some now) = Unit {0}

-- the bytes that the reader or writer tells, where it did so at first
abbrev pub host_bytes : {H : Type 0} → (H → Option (List ℕ)) → HostState H → Option (List ℕ)
host_bytes bytes s = told_since (bytes s.first) (bytes s.host)

-- a reader or writer of which no call was made here
abbrev pub fresh_host : {H : Type 0} → H → HostState H
fresh_host host = record { host = host; first = host; calls = 0; faults = 0 }

-- one call of the reader or writer, which did not fail
abbrev pub HostDoes : {H : Type 0} → HostState H → HostState H → Type 0
HostDoes s t = t ≡ record s { host = t.host; calls = next_count s.calls }

-- one call of the reader or writer, which failed
abbrev pub HostFails : {H : Type 0} → HostState H → HostState H → Type 0
HostFails s t = t ≡ record s { host = t.host; calls = next_count s.calls; faults = next_count s.faults }
