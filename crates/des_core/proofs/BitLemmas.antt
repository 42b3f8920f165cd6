-- Numbers as lists of bits.
use Rattle.std.proofs.Common.{◌≡◌, ℕ, zero, suc, ◌+◌, ◌-◌, ◌*◌, ◌/◌, ◌%◌, ◌^◌, ◌<◌, ◌≤◌, [], ◌∷◌, ◌++◌, length, get_or, take, drop, refl, sym, ap, ◌∙◌, arith, zero-add, mod-eq_of_lt}
use Rattle.std.specs.Int.{bit_at}
use Rattle.std.specs.Int.RustNames.{bit_xor, bit_or, bit_and}
use Rattle.std.proofs.lemmas.Nat.{shr-shr, xor_shr, xor_mod, shr_split, shr_high, mod_low, shl_whole, or_shifted, and_mask, shr_below, pow_pos, pow-add}
use Rattle.std.proofs.lemmas.Nat.Bits.{bit_at_cat_low, bit_at_lowest}
use Rattle.std.proofs.lemmas.List.{take_at, drop_at}
use Rattle.std.proofs.Math.Nat.{suc-add, add_comm, mod-lt}
use Rattle.des_core.specs.Bits.{bits_of}
use Rattle.pad_words.specs.Bytes.{exclusive_or}

pub length-bits_of : (width n : ℕ) → length (bits_of width n) ≡ width
unfolding bits_of
length-bits_of zero n = refl
length-bits_of (suc width) n = ap suc (length-bits_of width n)

-- the first bits are those of the shifted number
pub bits_of-add : (a b n : ℕ) → bits_of (a + b) n ≡ bits_of a (n / 2 ^ b) ++ bits_of b n
unfolding bits_of
bits_of-add zero b n = rw zero-add refl
bits_of-add (suc a) b n =
    let same : bit_at n (a + b) ≡ bit_at (n / 2 ^ b) a = rw (shr-shr, add_comm b a) refl in
    rw (suc-add, same, bits_of-add a b n) refl

pub take-bits_of : (a b n : ℕ) → take a (bits_of (a + b) n) ≡ bits_of a (n / 2 ^ b)
take-bits_of a b n = rw bits_of-add (take_at _ _ a (length-bits_of a _))

pub drop-bits_of : (a b n : ℕ) → drop a (bits_of (a + b) n) ≡ bits_of b n
drop-bits_of a b n = rw bits_of-add (drop_at _ _ a (length-bits_of a _))

-- bits in the middle are those of the shifted number
pub part-bits_of : (a b c n : ℕ) → take b (drop a (bits_of (a + (b + c)) n)) ≡ bits_of b (n / 2 ^ c)
part-bits_of a b c n = ap (take b) (drop-bits_of a (b + c) n) ∙ take-bits_of b c n

pub bit_at-mod : (n k i : ℕ) → i < k → bit_at (n % 2 ^ k) i ≡ bit_at n i
bit_at-mod n k i below =
    sym (bit_at_cat_low (n / 2 ^ k) k (n % 2 ^ k) i below) ∙ ap (λ m. bit_at m i) (shr_split n k)

pub bits_of-mod : (width n k : ℕ) → width ≤ k → bits_of width (n % 2 ^ k) ≡ bits_of width n
unfolding bits_of
bits_of-mod zero n k within = refl
bits_of-mod (suc width) n k within =
    let below : width ≤ k = omega arith in
    rw (bit_at-mod n k width within, bits_of-mod width n k below) refl

pub bits_of-one : (b : ℕ) → b < 2 → bits_of 1 b ≡ b ∷ []
unfolding bits_of
bits_of-one b small = ap (λ n. n ∷ []) (bit_at_lowest b ∙ mod-eq_of_lt small)

-- two numbers side by side
pub bits_of-beside : (a b x y : ℕ) → y < 2 ^ b → bits_of (a + b) (x * 2 ^ b + y) ≡ bits_of a x ++ bits_of b y
bits_of-beside a b x y small =
    let low : bits_of b (x * 2 ^ b + y) ≡ bits_of b y =
    sym (bits_of-mod b (x * 2 ^ b + y) b (omega arith)) ∙ ap (bits_of b) (mod_low x b y small) in
    rw (bits_of-add, shr_high x b y small, low) refl

-- the bit at a place from the left
pub get_or-bits_of : (width n i : ℕ) → i < width → get_or (bits_of width n) i 0 ≡ bit_at n (width - 1 - i)
unfolding bits_of
get_or-bits_of zero n i within = absurd (omega arith)
get_or-bits_of (suc width) n zero within = let first : width ≡ suc width - 1 - 0 = omega arith in ap (bit_at n) first
get_or-bits_of (suc width) n (suc i) within =
    let below : i < width = omega arith in
    let same : width - 1 - i ≡ suc width - 1 - suc i = omega arith in
    get_or-bits_of width n i below ∙ ap (bit_at n) same

pub bits_of-xor : (width a b : ℕ) → bits_of width (bit_xor a b) ≡ exclusive_or (bits_of width a) (bits_of width b)
unfolding bits_of exclusive_or
bits_of-xor zero a b = refl
bits_of-xor (suc width) a b =
    let first : bit_at (bit_xor a b) width ≡ bit_xor (bit_at a width) (bit_at b width) =
    ap (λ n. n % 2) (xor_shr a b width) ∙ xor_mod (a / 2 ^ width) (b / 2 ^ width) 1 in
    rw (first, bits_of-xor width a b) refl

-- a number shifted left within a word of `word` bits, and another in the places that are freed
pub or_after_shl : (a b word x y : ℕ) → a + b ≤ word → x < 2 ^ a → y < 2 ^ b
    → bit_or (x * 2 ^ b % 2 ^ word) y ≡ x * 2 ^ b + y
or_after_shl a b word x y fits x_small y_small =
    ap (λ m. bit_or m y) (shl_whole x a b word x_small fits) ∙ or_shifted x b y y_small

pub bits_of-or : (a b word x y : ℕ) → a + b ≤ word → x < 2 ^ a → y < 2 ^ b
    → bits_of (a + b) (bit_or (x * 2 ^ b % 2 ^ word) y) ≡ bits_of a x ++ bits_of b y
bits_of-or a b word x y fits x_small y_small =
    rw (or_after_shl a b word x y fits x_small y_small) (bits_of-beside a b x y y_small)

pub or-below : (a b word x y : ℕ) → a + b ≤ word → x < 2 ^ a → y < 2 ^ b
    → bit_or (x * 2 ^ b % 2 ^ word) y < 2 ^ (a + b)
or-below a b word x y fits x_small y_small =
    let power : 2 ^ (a + b) ≡ 2 ^ a * 2 ^ b = pow-add 2 a b in
    let top : (x + 1) * 2 ^ b ≤ 2 ^ a * 2 ^ b = grind arith in
    rw (or_after_shl a b word x y fits x_small y_small) (omega (arith, power, top))

-- the two parts of a word
pub bits_of-parts : (a b n : ℕ)
    → (bits_of a (n / 2 ^ b) ≡ take a (bits_of (a + b) n)) × (bits_of b (bit_and n (2 ^ b - 1)) ≡ drop a (bits_of (a + b) n))
bits_of-parts a b n = (
  sym (take-bits_of a b n),
  ap (bits_of b) (and_mask n b) ∙ (bits_of-mod b n b (omega arith) ∙ sym (drop-bits_of a b n)),
)

pub parts-below : (a b n : ℕ) → n < 2 ^ (a + b) → (n / 2 ^ b < 2 ^ a) × (bit_and n (2 ^ b - 1) < 2 ^ b)
parts-below a b n small = (shr_below n a b small, rw (and_mask n b) (mod-lt n (pow_pos b)))
