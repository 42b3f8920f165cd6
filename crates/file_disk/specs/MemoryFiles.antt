-- A file in memory, as contracts see it.
use Rattle.std.specs.Prelude.{◌≡◌, ◌⊎◌, ◌+◌, ◌<◌, ℕ, false, List, length, Contains, Some, Result, IsErr, ◌↔◌, OnOk, OnErr}
use Rattle.disk_core.specs.Causes.{next_count}
use Rattle.file_disk.specs.Files.{FileContent, FileState}

pub record MemFileState : Type 0 where
  pub content : FileContent
  -- the most bytes that it can have
  pub room : ℕ
  -- the numbers of the calls that are to fail, counted from 1
  pub fails : List ℕ
  -- how many calls there were, and how many of them failed
  pub calls : ℕ
  pub faults : ℕ

-- it tells its content
abbrev pub as_file : MemFileState → FileState
as_file m = record { told = Some m.content; faults = m.faults }

-- a file of these bytes, of which no call was made
abbrev pub fresh_file : List ℕ → ℕ → List ℕ → MemFileState
fresh_file bytes room fails = record {
  content = record { bytes = bytes; is_synced = false };
  room = room;
  fails = fails;
  calls = 0;
  faults = 0;
}

-- with its content changed in this way
abbrev pub with_change : (FileContent → FileContent) → MemFileState → MemFileState
with_change change m = record m { content = change m.content }

-- one more call
abbrev pub with_call : MemFileState → MemFileState
with_call m = record m { calls = next_count m.calls }

-- one more call, which failed
abbrev pub with_failed_call : MemFileState → MemFileState
with_failed_call m = record (with_call m) { faults = next_count m.faults }

-- the next call is to fail
abbrev pub IsToFail : MemFileState → Type 0
IsToFail m = Contains m.fails (next_count m.calls)

-- n bytes from this place on are not all there
abbrev pub IsPastEnd : ℕ → ℕ → MemFileState → Type 0
IsPastEnd at n m = length m.content.bytes < at + n

-- there is no room for n bytes from this place on
abbrev pub IsPastRoom : ℕ → ℕ → MemFileState → Type 0
IsPastRoom at n m = m.room < at + n

-- a call fails where it is to fail or cannot be done, and then does nothing
pub record CountsFileCall {T E : Type 0} (CannotBeDone : MemFileState → Type 0) (m n : MemFileState)
    (result : Result T E) : Type 0 where
  pub fails : IsErr result ↔ (IsToFail m ⊎ CannotBeDone m)
  pub done : OnOk result (n ≡ record (with_call m) { content = n.content })
  pub failed : OnErr result (n ≡ with_failed_call m)
