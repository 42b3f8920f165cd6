-- The digits of a check, place by place.
use Rattle.std.proofs.Common.{◌≡◌, ◌≢◌, ◌∙◌, Bool, true, false, ℕ, suc, ◌+◌, ◌*◌, ◌<◌, List, [], ◌∷◌, ap, arith, get_or, length, refl}
use Rattle.std.proofs.lemmas.Slice.Eq.{bytes_eq-Decides}
use Rattle.std.specs.Prelude.{bytes_eq, slice_index, ◌%◌, ◌/◌}
use Rattle.local_check.specs.Checks.{looked_up, sums}
use Rattle.pad_words.specs.Bytes.{unpacked}

-- the list of which each element is a sum
pub sums-by_place : (digits offset totals : List ℕ) → length totals ≡ length digits
    → ((k : ℕ) → k < length digits → get_or totals k 0 ≡ (get_or digits k 0 + get_or offset k 0) % 10) → totals ≡ sums digits offset
sums-by_place [] offset [] long at = refl
sums-by_place [] offset (total ∷ totals) long at = absurd (omega arith)
sums-by_place (digit ∷ rest) offset [] long at = absurd (omega arith)
sums-by_place (digit ∷ rest) [] (total ∷ totals) long at =
    let more : totals ≡ sums rest [] = sums-by_place rest [] totals (omega arith) (λ k within. at (suc k) (omega arith)) in
    let first : total ≡ (digit + 0) % 10 = at 0 (omega arith) in
    let same : digit + 0 ≡ digit = omega arith in
    cc (first, same, more)
sums-by_place (digit ∷ rest) (other ∷ others) (total ∷ totals) long at =
    let more : totals ≡ sums rest others = sums-by_place rest others totals (omega arith) (λ k within. at (suc k) (omega arith)) in
    let first : total ≡ (digit + other) % 10 = at 0 (omega arith) in
    cc (first, more)

-- the places of byte `k + 1` are two past those of byte `k`
at_left : (digit : ℕ → ℕ) (k value : ℕ) → digit (2 * suc k) ≡ value → digit (suc (suc (2 * k))) ≡ value
at_left digit k value at = let same : suc (suc (2 * k)) ≡ 2 * suc k = omega arith in ap digit same ∙ at

at_right : (digit : ℕ → ℕ) (k value : ℕ) → digit (2 * suc k + 1) ≡ value → digit (suc (suc (2 * k + 1))) ≡ value
at_right digit k value at = let same : suc (suc (2 * k + 1)) ≡ 2 * suc k + 1 = omega arith in ap digit same ∙ at

-- the list of which each two elements are the table's digits at the nibbles of a byte
pub looked_up-by_place : (table bytes digits : List ℕ) → length digits ≡ 2 * length bytes
    → ((k : ℕ) → k < length bytes → get_or digits (2 * k) 0 ≡ slice_index table (get_or bytes k 0 / 16))
    → ((k : ℕ) → k < length bytes → get_or digits (2 * k + 1) 0 ≡ slice_index table (get_or bytes k 0 % 16))
    → digits ≡ looked_up table (unpacked bytes)
looked_up-by_place table [] [] long left right = refl
looked_up-by_place table [] (a ∷ digits) long left right = absurd (omega arith)
looked_up-by_place table (byte ∷ bytes) [] long left right = absurd (omega arith)
looked_up-by_place table (byte ∷ bytes) (a ∷ []) long left right = absurd (omega arith)
looked_up-by_place table (byte ∷ bytes) (a ∷ b ∷ digits) long left right =
    let at : ℕ → ℕ = λ place. get_or (a ∷ b ∷ digits) place 0 in
    let rest : digits ≡ looked_up table (unpacked bytes) = looked_up-by_place table bytes digits (omega arith)
    (λ k within. at_left at k _ (left (suc k) (omega arith)))
    (λ k within. at_right at k _ (right (suc k) (omega arith))) in
    let first : a ≡ slice_index table (byte / 16) = left 0 (omega arith) in
    let second : b ≡ slice_index table (byte % 16) = right 0 (omega arith) in
    cc (first, second, rest)

no_if : (b : Bool) → (b ≡ true → ⊥) → false ≡ b
no_if true never = absurd (never refl)
no_if false never = refl

-- lists with another number in one place are not the same
pub bytes_eq-differ : (xs ys : List ℕ) (k : ℕ) → get_or xs k 0 ≢ get_or ys k 0 → false ≡ bytes_eq xs ys
bytes_eq-differ xs ys k other = no_if (bytes_eq xs ys) (λ same. other (ap (λ zs. get_or zs k 0) ((bytes_eq-Decides xs ys).0 same)))
