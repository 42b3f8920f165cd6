-- Nibbles packed into bytes: each byte tells its two nibbles.
use Rattle.std.proofs.Common.{◌≡◌, ℕ, suc, zero, ◌+◌, ◌*◌, ◌<◌, List, [], ◌∷◌, length, get_or, refl, ap, ◌∙◌, arith}
use Rattle.std.specs.List.{All}
use Rattle.std.proofs.lemmas.List.Elements.{All-cons, All-head, All-nil, All-tail}
use Rattle.pad_words.specs.Bytes.{packed}

abbrev pub AreNibbles : List ℕ → Type 0
AreNibbles values = All (λ value. value < 16) values

-- the places of pair `k + 1` are two past those of pair `k`
at_pair : (nibble : ℕ → ℕ) (k byte : ℕ) → byte ≡ nibble (2 * suc k) * 16 + nibble (2 * suc k + 1)
    → byte ≡ nibble (suc (suc (2 * k))) * 16 + nibble (suc (suc (2 * k + 1)))
at_pair nibble k byte at =
    let left : 2 * suc k ≡ suc (suc (2 * k)) = omega arith in
    let right : 2 * suc k + 1 ≡ suc (suc (2 * k + 1)) = omega arith in
    at ∙ (ap (λ place. nibble place * 16 + nibble (2 * suc k + 1)) left ∙ ap (λ place. nibble (suc (suc (2 * k))) * 16 + nibble place) right)

-- the list of which each element is a packed pair
pub packed-by_place : (nibbles bytes : List ℕ) → length nibbles ≡ 2 * length bytes
    → ((k : ℕ) → k < length bytes → get_or bytes k 0 ≡ get_or nibbles (2 * k) 0 * 16 + get_or nibbles (2 * k + 1) 0)
    → bytes ≡ packed nibbles
packed-by_place [] [] long at = refl
packed-by_place [] (byte ∷ bytes) long at = absurd (omega arith)
packed-by_place (left ∷ []) [] long at = absurd (omega arith)
packed-by_place (left ∷ []) (byte ∷ bytes) long at = absurd (omega arith)
packed-by_place (left ∷ right ∷ nibbles) [] long at = absurd (omega arith)
packed-by_place (left ∷ right ∷ nibbles) (byte ∷ bytes) long at =
    let rest = packed-by_place nibbles bytes (omega arith)
    (λ k within. at_pair (λ place. get_or (left ∷ right ∷ nibbles) place 0) k _ (at (suc k) (omega arith))) in
    rw (at 0 (omega arith), rest) refl

-- a byte tells its two nibbles
pair_from_byte : (a b c d : ℕ) → b < 16 → d < 16 → a * 16 + b ≡ c * 16 + d → (a ≡ c) × (b ≡ d)
pair_from_byte a b c d b_small d_small same = (omega arith, omega arith)

pub packed-injective : (xs ys : List ℕ) → length xs ≡ length ys → AreNibbles xs → AreNibbles ys → packed xs ≡ packed ys → xs ≡ ys
packed-injective [] [] long xs_small ys_small same = refl
packed-injective [] (c ∷ ys) long xs_small ys_small same = absurd (omega arith)
packed-injective (a ∷ []) [] long xs_small ys_small same = absurd (omega arith)
packed-injective (a ∷ []) (c ∷ []) long xs_small ys_small same =
    let first : a * 16 ≡ c * 16 = cc in
    let left : a ≡ c = omega arith in
    ap (λ nibble. nibble ∷ []) left
packed-injective (a ∷ []) (c ∷ d ∷ ys) long xs_small ys_small same = absurd (omega arith)
packed-injective (a ∷ b ∷ xs) [] long xs_small ys_small same = absurd (omega arith)
packed-injective (a ∷ b ∷ xs) (c ∷ []) long xs_small ys_small same = absurd (omega arith)
packed-injective (a ∷ b ∷ xs) (c ∷ d ∷ ys) long xs_small ys_small same =
    let small : ℕ → Type 0 = λ value. value < 16 in
    let xs_tail = All-tail small a (b ∷ xs) xs_small in
    let ys_tail = All-tail small c (d ∷ ys) ys_small in
    let first : a * 16 + b ≡ c * 16 + d = cc in
    let others : packed xs ≡ packed ys = cc in
    let pair = pair_from_byte a b c d (All-head small b xs xs_tail) (All-head small d ys ys_tail) first in
    let rest = packed-injective xs ys (omega arith) (All-tail small b xs xs_tail) (All-tail small d ys ys_tail) others in
    cc (pair.0, pair.1, rest)

pub length-packed : (xs : List ℕ) (count : ℕ) → length xs ≡ 2 * count → length (packed xs) ≡ count
length-packed [] count long = omega arith
length-packed (a ∷ []) count long = absurd (omega arith)
length-packed (a ∷ b ∷ xs) zero long = absurd (omega arith)
length-packed (a ∷ b ∷ xs) (suc count) long = ap suc (length-packed xs count (omega arith))

pub packed-small : (xs : List ℕ) → AreNibbles xs → All (λ byte. byte < 256) (packed xs)
packed-small [] small = All-nil (λ byte. byte < 256)
packed-small (a ∷ []) small =
    let a_small = All-head (λ value. value < 16) a [] small in
    All-cons (λ byte. byte < 256) (a * 16) [] (omega arith) (All-nil (λ byte. byte < 256))
packed-small (a ∷ b ∷ xs) small =
    let rest = All-tail (λ value. value < 16) a (b ∷ xs) small in
    let a_small : a < 16 = All-head (λ value. value < 16) a (b ∷ xs) small in
    let b_small : b < 16 = All-head (λ value. value < 16) b xs rest in
    All-cons (λ byte. byte < 256) (a * 16 + b) (packed xs) (omega arith)
    (packed-small xs (All-tail (λ value. value < 16) b xs rest))
