-- A file that is read and written at a place, as contracts see it.
use Rattle.std.specs.Prelude.{◌≡◌, ◌⊎◌, ℕ, ◌+◌, ◌-◌, ◌≤◌, nat_lt, Bool, true, false, if◌then◌else◌, List, ◌++◌, length, take, replicate, slice_range, Option, None, IfSome, Result, OnOk, OnErr, IfOk}
use Rattle.std.specs.Option.{option_map}
use Rattle.disk_core.specs.Causes.{HasCause}
use Rattle.disk_core.specs.DiskStates.{splice}

pub record FileContent : Type 0 where
  -- what a read gives
  pub bytes : List ℕ
  -- a sync succeeded, and no byte was written and no length changed since
  pub is_synced : Bool

pub record FileState : Type 0 where
  -- the content, where the file tells it
  pub told : Option FileContent
  -- how many calls failed
  pub faults : ℕ

-- of n bytes: cut, or lengthened with zero bytes
abbrev pub resized : ℕ → List ℕ → List ℕ
resized n b = take n b ++ replicate (n - length b) 0

-- lengthened with zero bytes to n, where it is shorter
abbrev pub zero_extended : ℕ → List ℕ → List ℕ
zero_extended n b = if nat_lt (length b) n then resized n b else b

-- with these bytes from a place on, which may lie behind the end
abbrev pub overwritten : ℕ → List ℕ → List ℕ → List ℕ
overwritten at part b = splice (zero_extended (at + length part) b) at part

-- what stands after a write of these bytes at this place
abbrev pub after_write : ℕ → List ℕ → FileContent → FileContent
after_write at part f = record { bytes = overwritten at part f.bytes; is_synced = false }

-- what stands after a change of the length to n
abbrev pub after_resize : ℕ → FileContent → FileContent
after_resize n f = record { bytes = resized n f.bytes; is_synced = false }

-- what stands after a sync
abbrev pub after_sync : FileContent → FileContent
after_sync f = record f { is_synced = true }

-- a failed write of n bytes left the bytes as they were, or with others in a part of its range
abbrev pub MayLeave : ℕ → ℕ → List ℕ → List ℕ → Type 0
MayLeave at n b c = (c ≡ b) ⊎ ((part : List ℕ) × (length part ≤ n) × (c ≡ overwritten at part b))

-- the part of a list at a place
pub record HasAt (at : ℕ) (part b : List ℕ) : Type 0 where
  pub within : at + length part ≤ length b
  pub same : part ≡ slice_range b at (at + length part)

module _ {T E : Type 0} where
  -- a read at this place, which left these bytes in the buffer
  pub record ReadsFile (at : ℕ) (bytes : List ℕ) (s t : FileState) (result : Result T E) : Type 0 where
    pub cause : HasCause s.faults t.faults result
    pub told : t.told ≡ s.told
    pub given : OnOk result (IfSome s.told (λ f. HasAt at bytes f.bytes))

  -- a write of these bytes at this place, which may leave a part of them where it fails
  pub record WritesFile (at : ℕ) (bytes : List ℕ) (s t : FileState) (result : Result T E) : Type 0 where
    pub cause : HasCause s.faults t.faults result
    pub written : OnOk result (t.told ≡ option_map (after_write at bytes) s.told)
    pub untold : s.told ≡ None → t.told ≡ None
    pub failed : OnErr result (IfSome s.told (λ f. IfSome t.told (λ g. MayLeave at (length bytes) f.bytes g.bytes)))

  -- a call that is to change the content in this way, and leaves it as it was where it fails
  pub record ChangesFile (change : FileContent → FileContent) (s t : FileState) (result : Result T E) : Type 0 where
    pub cause : HasCause s.faults t.faults result
    pub changed : OnOk result (t.told ≡ option_map change s.told)
    pub failed : OnErr result (t.told ≡ s.told)

-- a look at the length
pub record MeasuresFile {E : Type 0} (s t : FileState) (result : Result ℕ E) : Type 0 where
  pub cause : HasCause s.faults t.faults result
  pub told : t.told ≡ s.told
  pub length : IfOk result (λ n. IfSome s.told (λ f. n ≡ length f.bytes))
