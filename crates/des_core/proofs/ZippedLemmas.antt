-- Two lists of bits put together bit by bit, by the exclusive or and by the or.
use Rattle.std.proofs.Common.{◌≡◌, ℕ, zero, suc, ◌-◌, ◌/◌, ◌%◌, ◌^◌, List, [], ◌∷◌, ◌++◌, length, get_or, take, drop, refl, sym, ap, ◌∙◌, arith}
use Rattle.std.specs.Int.{bit_at}
use Rattle.std.specs.Int.RustNames.{bit_xor, bit_or}
use Rattle.std.proofs.lemmas.Nat.{or_shr, or_mod}
use Rattle.des_core.specs.Bits.{bits_of}
use Rattle.des_core.specs.Des.{bits_by_table}
use Rattle.pad_words.specs.Bytes.{exclusive_or}
use Rattle.des_core.proofs.BitLemmas.{bits_of-xor}

-- two lists put together place by place
unfoldable pub zipped : (ℕ → ℕ → ℕ) → List ℕ → List ℕ → List ℕ
zipped op [] ys = []
zipped op (x ∷ xs) [] = []
zipped op (x ∷ xs) (y ∷ ys) = op x y ∷ zipped op xs ys

pub exclusive_or-zipped : (xs ys : List ℕ) → exclusive_or xs ys ≡ zipped bit_xor xs ys
unfolding exclusive_or zipped
exclusive_or-zipped [] ys = refl
exclusive_or-zipped (x ∷ xs) [] = refl
exclusive_or-zipped (x ∷ xs) (y ∷ ys) = ap (λ z. bit_xor x y ∷ z) (exclusive_or-zipped xs ys)

pub length-zipped : (op : ℕ → ℕ → ℕ) (xs ys : List ℕ) → length xs ≡ length ys → length (zipped op xs ys) ≡ length xs
unfolding zipped
length-zipped op [] ys same = refl
length-zipped op (x ∷ xs) [] same = cc
length-zipped op (x ∷ xs) (y ∷ ys) same = ap suc (length-zipped op xs ys (omega arith))

get_or-zipped : (op : ℕ → ℕ → ℕ) (xs ys : List ℕ) (i : ℕ) → op 0 0 ≡ 0 → length xs ≡ length ys
    → get_or (zipped op xs ys) i 0 ≡ op (get_or xs i 0) (get_or ys i 0)
unfolding zipped
get_or-zipped op [] [] i none same = sym none
get_or-zipped op [] (y ∷ ys) i none same = cc
get_or-zipped op (x ∷ xs) [] i none same = cc
get_or-zipped op (x ∷ xs) (y ∷ ys) zero none same = refl
get_or-zipped op (x ∷ xs) (y ∷ ys) (suc i) none same = get_or-zipped op xs ys i none (omega arith)

-- a table takes the bits of both
pub bits_by_table-zipped : (op : ℕ → ℕ → ℕ) (table xs ys : List ℕ) → op 0 0 ≡ 0 → length xs ≡ length ys
    → bits_by_table table (zipped op xs ys) ≡ zipped op (bits_by_table table xs) (bits_by_table table ys)
unfolding bits_by_table zipped
bits_by_table-zipped op [] xs ys none same = refl
bits_by_table-zipped op (place ∷ places) xs ys none same =
    rw (get_or-zipped op xs ys (place - 1) none same, bits_by_table-zipped op places xs ys none same) refl

pub zipped-append : (op : ℕ → ℕ → ℕ) (xs ys us vs : List ℕ) → length xs ≡ length us
    → zipped op (xs ++ ys) (us ++ vs) ≡ zipped op xs us ++ zipped op ys vs
unfolding zipped
zipped-append op [] ys [] vs same = refl
zipped-append op [] ys (u ∷ us) vs same = cc
zipped-append op (x ∷ xs) ys [] vs same = cc
zipped-append op (x ∷ xs) ys (u ∷ us) vs same = ap (λ z. op x u ∷ z) (zipped-append op xs ys us vs (omega arith))

pub bits_of-xor_zipped : (width a b : ℕ) → bits_of width (bit_xor a b) ≡ zipped bit_xor (bits_of width a) (bits_of width b)
bits_of-xor_zipped width a b = bits_of-xor width a b ∙ exclusive_or-zipped (bits_of width a) (bits_of width b)

pub bits_of-or_zipped : (width a b : ℕ) → bits_of width (bit_or a b) ≡ zipped bit_or (bits_of width a) (bits_of width b)
unfolding bits_of zipped
bits_of-or_zipped zero a b = refl
bits_of-or_zipped (suc width) a b =
    let first : bit_at (bit_or a b) width ≡ bit_or (bit_at a width) (bit_at b width) =
    ap (λ n. n % 2) (or_shr a b width) ∙ or_mod (a / 2 ^ width) (b / 2 ^ width) 1 in
    rw (first, bits_of-or_zipped width a b) refl

pub take-exclusive_or : (n : ℕ) (xs ys : List ℕ) → take n (exclusive_or xs ys) ≡ exclusive_or (take n xs) (take n ys)
unfolding exclusive_or
take-exclusive_or zero xs ys = refl
take-exclusive_or (suc n) [] ys = refl
take-exclusive_or (suc n) (x ∷ xs) [] = refl
take-exclusive_or (suc n) (x ∷ xs) (y ∷ ys) = ap (λ z. bit_xor x y ∷ z) (take-exclusive_or n xs ys)

exclusive_or-nil : (xs : List ℕ) → exclusive_or xs [] ≡ []
unfolding exclusive_or
exclusive_or-nil [] = refl
exclusive_or-nil (x ∷ xs) = refl

pub drop-exclusive_or : (n : ℕ) (xs ys : List ℕ) → drop n (exclusive_or xs ys) ≡ exclusive_or (drop n xs) (drop n ys)
unfolding exclusive_or
drop-exclusive_or zero xs ys = refl
drop-exclusive_or (suc n) [] ys = refl
drop-exclusive_or (suc n) (x ∷ xs) [] = sym (exclusive_or-nil (drop n xs))
drop-exclusive_or (suc n) (x ∷ xs) (y ∷ ys) = drop-exclusive_or n xs ys
