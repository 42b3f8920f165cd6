-- What is taken from a source and given to a sink, where they tell it.
use Rattle.std.specs.Prelude.{ℕ, ◌≡◌, ◌≤◌, ◌<◌, List, [], ◌++◌, length, take, drop, Option, Some, None, Result, Ok, Err, IfSome}

-- n bytes went from the front of what was left to the front of the piece; none for a piece that is not empty is the end
pub record Took (left rest : Option (List ℕ)) (old new : List ℕ) (n : ℕ) : Type 0 where
  pub few : n ≤ length old
  pub same_len : length new ≡ length old
  pub bytes : IfSome left (λ s. (n ≤ length s) × (take n new ≡ take n s) × (rest ≡ Some (drop n s)))
  pub ends : n ≡ 0 → 0 < length old → IfSome left (λ s. s ≡ [])

-- bytes are taken, or the call fails and takes nothing
abbrev pub Takes : {E : Type 0} → Option (List ℕ) → Option (List ℕ) → List ℕ → List ℕ → Result ℕ E → Type 0
Takes left rest old new (Ok n) = Took left rest old new n
Takes left rest old new (Err e) = rest ≡ left

-- what was given and then more, where it is told
abbrev pub with_more : Option (List ℕ) → List ℕ → Option (List ℕ)
with_more None more = None
with_more (Some given) more = Some (given ++ more)

-- the front of a piece is given, or the call fails and nothing is
abbrev pub Gives : {E : Type 0} → Option (List ℕ) → Option (List ℕ) → List ℕ → Result ℕ E → Type 0
Gives before now piece (Ok n) = (n ≤ length piece) × (now ≡ with_more before (take n piece))
Gives before now piece (Err e) = now ≡ before

-- some front of a text was given
abbrev pub GivesFront : Option (List ℕ) → Option (List ℕ) → List ℕ → Type 0
GivesFront before now text = (n : ℕ) × (n ≤ length text) × (now ≡ with_more before (take n text))
