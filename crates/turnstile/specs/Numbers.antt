-- The numbers of passes, and which entries are whose.
use Rattle.std.specs.Prelude.{◌≡◌, ◌≢◌, ℕ, ◌+◌, ◌<◌, ◌≤◌, bytes_eq, cond, List, [], ◌∷◌, ◌++◌}
use mathlib.Core.Option.{some}
use lib.ListN.{get_elem?}
use Rattle.turnstile.specs.declared.view.MadeEntry.{MadeEntry}
use Rattle.turnstile.specs.declared.view.KnownPass.{KnownPass}

-- the places of the entries with this number, where the first entry has the place k
abbrev pub places_from : {O R : Type 0} → ℕ → List ℕ → List (MadeEntry O R) → List ℕ
places_from k number [] = []
places_from k number (m ∷ ms) = cond (bytes_eq m.by number) (k ∷ places_from (k + 1) number ms) (places_from (k + 1) number ms)

-- the number begins with that of the pass, followed by a rank that it did not give
abbrev pub Forbids : KnownPass → List ℕ → Type 0
Forbids p number = (rank : ℕ) × (rest : List ℕ) × (p.seated ≤ rank) × (number ≡ p.number ++ rank ∷ rest)

-- so it is of each
abbrev pub Each : {A : Type 0} → (A → Type 0) → List A → Type 0
Each P [] = Unit {0}
Each P (x ∷ xs) = P x × Each P xs

-- no two of the passes have one number
abbrev pub NumbersDiffer : List KnownPass → Type 0
NumbersDiffer [] = Unit {0}
NumbersDiffer (p ∷ ps) = Each (λ q. q.number ≢ p.number) ps × NumbersDiffer ps

-- the entries of a known pass stand at just the places that it has, and no entry is of a pass that it did not seat
pub record HasPlaces {O R : Type 0} (log : List (MadeEntry O R)) (p : KnownPass) : Type 0 where
  pub mine : places_from 0 p.number log ≡ p.mine
  pub free : Each (λ (m : MadeEntry O R). ¬ Forbids p m.by) log

-- what is so of the passes that a pass knows: their numbers differ, and each has its places
pub record TellsPasses {O R : Type 0} (log : List (MadeEntry O R)) (ps : List KnownPass) : Type 0 where
  pub differ : NumbersDiffer ps
  pub each : Each (HasPlaces log) ps

-- the known passes are whole: one of them is the first pass, and with each stand all that it seated
pub record AreWhole (ps : List KnownPass) : Type 0 where
  pub first : (i : ℕ) × (p : KnownPass) × (get_elem? ps i ≡ some p) × (p.number ≡ [])
  pub all : (i : ℕ) (p : KnownPass) (rank : ℕ) → get_elem? ps i ≡ some p → rank < p.seated → (j : ℕ) × (q : KnownPass) × (get_elem? ps j ≡ some q) × (q.number ≡ p.number ++ rank ∷ [])

-- each rank in the number was given
abbrev pub RanksCounted : (List ℕ → ℕ) → List ℕ → Type 0
RanksCounted count number = (front : List ℕ) (rank : ℕ) (rest : List ℕ) → number ≡ front ++ rank ∷ rest → rank < count front

-- what the rule has of each pass that a seat j knows
pub record PassHolds {O R : Type 0} (keeper count : List ℕ → ℕ) (log : List (MadeEntry O R)) (j : ℕ) (p : KnownPass) : Type 0 where
  pub kept : keeper p.number ≡ j
  pub seated : count p.number ≡ p.seated
  pub grows : RanksCounted count p.number
  pub mine : places_from 0 p.number log ≡ p.mine

-- the place stands among the places of the i-th of these passes
abbrev pub IsPlaceOf : List KnownPass → ℕ → ℕ → Type 0
IsPlaceOf ps place i = (p : KnownPass) × (get_elem? ps i ≡ some p) × ((k : ℕ) × (get_elem? p.mine k ≡ some place))
