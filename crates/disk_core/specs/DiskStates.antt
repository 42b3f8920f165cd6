-- The state of a disk: what a read gives, and what a crash may leave.
use Rattle.std.specs.Prelude.{◌≡◌, ℕ, ◌+◌, ◌≤◌, Bool, List, ◌++◌, length, take, drop, Option, Some, IfSome}
use Rattle.disk_core.specs.declared.disk.Strike.{Strike}
use Rattle.disk_core.specs.declared.disk.TheConstants.{DISK_BYTES}

-- the number of the call that is to be struck, where 1 is the next, and the strike
abbrev pub Arming : Type 0
Arming = ℕ × Strike

-- all that contracts see of a disk
pub record DiskState : Type 1 where
  -- the bytes, where the disk tells them: what a read gives
  pub content : Option (List ℕ)
  -- the crash images: what a crash now may leave
  pub image : List ℕ → Type 0
  -- how many calls failed, and in how many the power was cut
  pub faults : ℕ
  pub cuts : ℕ
  -- the last call failed, of those that found the disk on
  pub failed : Bool
  pub off : Bool
  -- what is armed, where the disk tells it
  pub armed : Option (Option Arming)

-- what is so of every disk at every moment
pub record IsDiskState (s : DiskState) : Type 0 where
  pub told : IfSome s.content (λ c. s.image c)
  pub sized : (c : List ℕ) → s.image c → length c ≡ DISK_BYTES
  pub armed : (a : Arming) → s.armed ≡ Some (Some a) → 1 ≤ a.0

-- b with these elements from this place on
abbrev pub splice : {X : Type 0} → List X → ℕ → List X → List X
splice b at part = take at b ++ part ++ drop (at + length part) b

-- c is b torn within a range of n bytes: any bytes stand there, and all others are b's
pub record TornWithin (at n : ℕ) (b c : List ℕ) : Type 0 where
  pub part : List ℕ
  pub size : length part ≡ n
  pub whole : c ≡ splice b at part

-- a crash leaves these bytes and no others
abbrev pub IsOnlyImage : List ℕ → DiskState → Type 0
IsOnlyImage b s = (c : List ℕ) → s.image c → c ≡ b

-- where the disk tells its bytes, P is so of each crash image, and so of the bytes, which are one
abbrev pub EachImage : DiskState → (List ℕ → Type 0) → Type 0
EachImage s P = IfSome s.content (λ _. (c : List ℕ) → s.image c → P c)

-- a crash leaves nothing that it could not leave before
abbrev pub Shrinks : DiskState → DiskState → Type 0
Shrinks s t = (c : List ℕ) → t.image c → s.image c

-- a crash leaves what it could leave before, torn within a range
abbrev pub TearsWithin : ℕ → ℕ → DiskState → DiskState → Type 0
TearsWithin at n s t = (c : List ℕ) → t.image c → (b : List ℕ) × s.image b × TornWithin at n b c
