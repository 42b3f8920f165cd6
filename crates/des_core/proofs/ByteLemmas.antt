-- Bytes as bits.
use Rattle.std.proofs.Common.{◌≡◌, ℕ, zero, suc, ◌+◌, ◌*◌, ◌/◌, ◌%◌, ◌^◌, ◌<◌, ◌≤◌, List, [], ◌∷◌, ◌++◌, length, get_or, take, drop, refl, sym, ap, ◌∙◌, arith, mod-eq_of_lt}
use Rattle.std.specs.Int.{bit_at, byte_at, bytes_high_first, from_be_bytes, w64}
use Rattle.std.proofs.lemmas.Nat.{mod-pow-add, pow-add, xor_lt}
use Rattle.std.proofs.lemmas.Nat.Bits.{bit_at-lt}
use Rattle.std.proofs.lemmas.List.{take_more, append_assoc, append-nil, take_all, take_at, drop_at, length-append, length-take-le, length-drop, take-append-drop, nil_from_length}
use Rattle.std.specs.List.{All}
use Rattle.std.proofs.lemmas.List.Elements.{All-nil, All-cons}
use Rattle.std.proofs.Math.Nat.{pow-suc, div-one, add-mul}
use Rattle.des_core.specs.Bits.{bits_of, number_from, number_of, bits_of_bytes, bytes_of_bits}
use Rattle.pad_words.specs.Bytes.{exclusive_or}
use Rattle.des_core.proofs.BitLemmas.{length-bits_of, take-bits_of, drop-bits_of, bits_of-beside, bits_of-one}

number_from-bits_of : (width m n : ℕ) → number_from m (bits_of width n) ≡ m * 2 ^ width + n % 2 ^ width
unfolding number_from bits_of
number_from-bits_of zero m n = omega arith
number_from-bits_of (suc width) m n =
    let first = bit_at n width in
    let step = number_from-bits_of width (2 * m + first) n in
    let low : n % 2 ^ (1 + width) ≡ first * 2 ^ width + n % 2 ^ width = mod-pow-add n 1 width in
    let next : suc width ≡ 1 + width = omega arith in
    let power : 2 ^ (1 + width) ≡ 2 * 2 ^ width = pow-add 2 1 width in
    let product : (2 * m + first) * 2 ^ width ≡ 2 * m * 2 ^ width + first * 2 ^ width = add-mul (2 * m) first (2 ^ width) in
    let twice : 2 * m * 2 ^ width ≡ m * 2 ^ (1 + width) = rw power (grind arith) in
    rw next (step ∙ omega (arith, low, product, twice))

pub number_of-bits_of : (width n : ℕ) → number_of (bits_of width n) ≡ n % 2 ^ width
unfolding number_of
number_of-bits_of width n = number_from-bits_of width 0 n ∙ omega arith

pow_256 : (k : ℕ) → 256 ^ k ≡ 2 ^ (8 * k)
pow_256 zero = refl
pow_256 (suc k) =
    let next : 8 * suc k ≡ 8 * k + 8 = omega arith in
    let power : 2 ^ (8 * k + 8) ≡ 2 ^ (8 * k) * 2 ^ 8 = pow-add 2 (8 * k) 8 in
    rw (next, power, ← pow_256 k) (pow-suc 256 k)

byte_at_is : (k n : ℕ) → byte_at k n ≡ n / 2 ^ (8 * k) % 256
byte_at_is zero n = sym (ap (λ m. m % 256) (div-one n))
byte_at_is (suc k) n = ap (λ m. n / m % 256) (pow_256 (suc k))

-- the bytes of a number are those of its bits
pub bytes_high_first_is : (k n : ℕ) → bytes_high_first k n ≡ bytes_of_bits k (bits_of (8 * k) n)
unfolding bytes_of_bits
bytes_high_first_is zero n = refl
bytes_high_first_is (suc k) n =
    let next : 8 * suc k ≡ 8 + 8 * k = omega arith in
    rw (
      next,
      take-bits_of 8 (8 * k) n,
      drop-bits_of 8 (8 * k) n,
      number_of-bits_of 8 (n / 2 ^ (8 * k)),
      byte_at_is k n,
      bytes_high_first_is k n,
    ) refl

bits_of_bytes-append : (xs ys : List ℕ) → bits_of_bytes (xs ++ ys) ≡ bits_of_bytes xs ++ bits_of_bytes ys
unfolding bits_of_bytes
bits_of_bytes-append [] ys = refl
bits_of_bytes-append (x ∷ xs) ys =
    ap (λ z. bits_of 8 x ++ z) (bits_of_bytes-append xs ys) ∙ sym (append_assoc (bits_of 8 x) (bits_of_bytes xs) (bits_of_bytes ys))

pub length-bits_of_bytes : (bytes : List ℕ) (n : ℕ) → length bytes ≡ n → length (bits_of_bytes bytes) ≡ 8 * n
unfolding bits_of_bytes
length-bits_of_bytes [] n long = omega arith
length-bits_of_bytes (x ∷ xs) n long =
    length-append (bits_of 8 x) (bits_of_bytes xs) ∙ omega (arith, length-bits_of 8 x, length-bits_of_bytes xs (length xs) refl)

-- the number that the first `k` bytes make, the first of them the most significant
abbrev number_of_bytes : List ℕ → ℕ → ℕ
number_of_bytes bytes zero = 0
number_of_bytes bytes (suc k) = number_of_bytes bytes k * 256 + get_or bytes k 0

bits_of-number_of_bytes : (bytes : List ℕ) (k : ℕ) → ((i : ℕ) → get_or bytes i 0 < 256) → k ≤ length bytes
    → bits_of (8 * k) (number_of_bytes bytes k) ≡ bits_of_bytes (take k bytes)
unfolding bits_of_bytes bits_of
bits_of-number_of_bytes bytes zero small within = refl
bits_of-number_of_bytes bytes (suc k) small within =
    let byte = get_or bytes k 0 in
    let next : 8 * suc k ≡ 8 * k + 8 = omega arith in
    let count : suc k ≡ k + 1 = omega arith in
    let more : take (suc k) bytes ≡ take k bytes ++ byte ∷ [] = ap (λ n. take n bytes) count ∙ take_more bytes k 0 (omega arith) in
    let one : bits_of_bytes (byte ∷ []) ≡ bits_of 8 byte = append-nil _ in
    rw (next, more, bits_of_bytes-append (take k bytes) (byte ∷ []), one)
    (bits_of-beside (8 * k) 8 (number_of_bytes bytes k) byte (small k)
    ∙ ap (λ z. z ++ bits_of 8 byte) (bits_of-number_of_bytes bytes k small (omega arith)))

-- the bits of the number of eight bytes are those of the bytes
pub bits_of-from_be_bytes : (bytes : List ℕ) (n : ℕ) → length bytes ≡ 8 → ((i : ℕ) → get_or bytes i 0 < 256)
    → n ≡ from_be_bytes w64 bytes → bits_of 64 n ≡ bits_of_bytes bytes
bits_of-from_be_bytes bytes n eight small is =
    let whole : from_be_bytes w64 bytes ≡ number_of_bytes bytes 8 = omega arith in
    ap (bits_of 64) (is ∙ whole)
    ∙ (bits_of-number_of_bytes bytes 8 small (omega arith) ∙ ap bits_of_bytes (take_all 8 bytes (omega arith)))

-- each number is 0 or 1
abbrev pub AreBits : List ℕ → Type 0
AreBits [] = Unit {0}
AreBits (b ∷ bs) = (b < 2) × AreBits bs

pub AreBits-bits_of : (width n : ℕ) → AreBits (bits_of width n)
unfolding bits_of
AreBits-bits_of zero n = tt
AreBits-bits_of (suc width) n = (bit_at-lt n width, AreBits-bits_of width n)

pub AreBits-append : (xs ys : List ℕ) → AreBits xs → AreBits ys → AreBits (xs ++ ys)
AreBits-append [] ys are others = others
AreBits-append (x ∷ xs) ys are others = (are.0, AreBits-append xs ys are.1 others)

pub AreBits-get_or : (xs : List ℕ) (i : ℕ) → AreBits xs → get_or xs i 0 < 2
AreBits-get_or [] i are = omega arith
AreBits-get_or (x ∷ xs) zero are = are.0
AreBits-get_or (x ∷ xs) (suc i) are = AreBits-get_or xs i are.1

pub AreBits-take : (n : ℕ) (bits : List ℕ) → AreBits bits → AreBits (take n bits)
AreBits-take zero bits are = tt
AreBits-take (suc n) [] are = tt
AreBits-take (suc n) (b ∷ bs) are = (are.0, AreBits-take n bs are.1)

pub AreBits-drop : (n : ℕ) (bits : List ℕ) → AreBits bits → AreBits (drop n bits)
AreBits-drop zero bits are = are
AreBits-drop (suc n) [] are = tt
AreBits-drop (suc n) (b ∷ bs) are = AreBits-drop n bs are.1

pub AreBits-exclusive_or : (xs ys : List ℕ) → AreBits xs → AreBits ys → AreBits (exclusive_or xs ys)
unfolding exclusive_or
AreBits-exclusive_or [] ys are others = tt
AreBits-exclusive_or (x ∷ xs) [] are others = tt
AreBits-exclusive_or (x ∷ xs) (y ∷ ys) are others = (xor_lt 1 x y are.0 others.0, AreBits-exclusive_or xs ys are.1 others.1)

pub AreBits-bits_of_bytes : (bytes : List ℕ) → AreBits (bits_of_bytes bytes)
unfolding bits_of_bytes
AreBits-bits_of_bytes [] = tt
AreBits-bits_of_bytes (b ∷ bs) = AreBits-append (bits_of 8 b) (bits_of_bytes bs) (AreBits-bits_of 8 b) (AreBits-bits_of_bytes bs)

-- the bits of the number that bits make behind another number
bits_of-number_from : (bits : List ℕ) (width n : ℕ) → AreBits bits
    → bits_of (width + length bits) (number_from n bits) ≡ bits_of width n ++ bits
unfolding number_from
bits_of-number_from [] width n are = ap (λ k. bits_of k n) (omega arith) ∙ sym (append-nil (bits_of width n))
bits_of-number_from (b ∷ bs) width n are =
    let count : width + suc (length bs) ≡ (width + 1) + length bs = omega arith in
    let twice : 2 * n + b ≡ n * 2 ^ 1 + b = omega arith in
    let push : bits_of (width + 1) (2 * n + b) ≡ bits_of width n ++ b ∷ [] =
    ap (bits_of (width + 1)) twice ∙ (bits_of-beside width 1 n b are.0 ∙ ap (λ x. bits_of width n ++ x) (bits_of-one b are.0)) in
    ap (λ k. bits_of k (number_from (2 * n + b) bs)) count
    ∙ (bits_of-number_from bs (width + 1) (2 * n + b) are.1
    ∙ (ap (λ x. x ++ bs) push ∙ append_assoc (bits_of width n) (b ∷ []) bs))

pub bits_of-number_of : (bits : List ℕ) (width : ℕ) → length bits ≡ width → AreBits bits
    → bits_of width (number_of bits) ≡ bits
unfolding number_of bits_of
bits_of-number_of bits width long are =
    ap (λ k. bits_of k (number_from 0 bits)) (sym long ∙ omega arith) ∙ bits_of-number_from bits 0 0 are

pub bits_of_bytes-bytes_of_bits : (k : ℕ) (bits : List ℕ) → length bits ≡ 8 * k → AreBits bits
    → bits_of_bytes (bytes_of_bits k bits) ≡ bits
unfolding bits_of_bytes bytes_of_bits
bits_of_bytes-bytes_of_bits zero bits long are = sym (nil_from_length bits long)
bits_of_bytes-bytes_of_bits (suc k) bits long are =
    let first : bits_of 8 (number_of (take 8 bits)) ≡ take 8 bits =
    bits_of-number_of (take 8 bits) 8 (length-take-le 8 bits (omega arith)) (AreBits-take 8 bits are) in
    let rest = bits_of_bytes-bytes_of_bits k (drop 8 bits) (length-drop 8 bits ∙ omega arith) (AreBits-drop 8 bits are) in
    rw (first, rest) (take-append-drop 8 bits)

pub bytes_of_bits-bits_of_bytes : (bytes : List ℕ) (k : ℕ) → length bytes ≡ k
    → ((i : ℕ) → get_or bytes i 0 < 256) → bytes_of_bits k (bits_of_bytes bytes) ≡ bytes
unfolding bits_of_bytes bytes_of_bits
bytes_of_bits-bits_of_bytes [] zero long small = refl
bytes_of_bits-bits_of_bytes [] (suc k) long small = absurd (omega arith)
bytes_of_bits-bits_of_bytes (x ∷ xs) zero long small = absurd (omega arith)
bytes_of_bits-bits_of_bytes (x ∷ xs) (suc k) long small =
    let eight = length-bits_of 8 x in
    let value : number_of (bits_of 8 x) ≡ x = number_of-bits_of 8 x ∙ mod-eq_of_lt (small 0) in
    let rest = bytes_of_bits-bits_of_bytes xs k (omega arith) (λ i. small (suc i)) in
    rw (take_at (bits_of 8 x) (bits_of_bytes xs) 8 eight, drop_at (bits_of 8 x) (bits_of_bytes xs) 8 eight, value, rest) refl

number_from-lt : (bits : List ℕ) (n m : ℕ) → AreBits bits → n < m → number_from n bits < m * 2 ^ length bits
unfolding number_from
number_from-lt [] n m are below = omega arith
number_from-lt (b ∷ bs) n m are below =
    let small = are.0 in
    let next : 2 * n + b < 2 * m = omega arith in
    let power : 2 ^ suc (length bs) ≡ 2 ^ length bs * 2 = pow-suc 2 (length bs) in
    let product : 2 * m * 2 ^ length bs ≡ m * (2 ^ length bs * 2) = grind arith in
    let rest = number_from-lt bs (2 * n + b) (2 * m) are.1 next in
    rw (power, ← product) rest

pub number_of-lt : (bits : List ℕ) → AreBits bits → length bits ≡ 8 → number_of bits < 256
unfolding number_of
number_of-lt bits are eight =
    let power : 2 ^ length bits ≡ 256 = rw eight refl in
    omega (arith, number_from-lt bits 0 1 are (omega arith), power)

pub bytes_of_bits-lt : (k : ℕ) (bits : List ℕ) → length bits ≡ 8 * k → AreBits bits
    → All (λ byte. byte < 256) (bytes_of_bits k bits)
unfolding bytes_of_bits
bytes_of_bits-lt zero bits long are = All-nil (λ byte. byte < 256)
bytes_of_bits-lt (suc k) bits long are =
    let first = number_of-lt (take 8 bits) (AreBits-take 8 bits are) (length-take-le 8 bits (omega arith)) in
    let rest = bytes_of_bits-lt k (drop 8 bits) (length-drop 8 bits ∙ omega arith) (AreBits-drop 8 bits are) in
    All-cons (λ byte. byte < 256) (number_of (take 8 bits)) (bytes_of_bits k (drop 8 bits)) first rest

pub length-bytes_of_bits : (k : ℕ) (bits : List ℕ) → length (bytes_of_bits k bits) ≡ k
unfolding bytes_of_bits
length-bytes_of_bits zero bits = refl
length-bytes_of_bits (suc k) bits = ap suc (length-bytes_of_bits k (drop 8 bits))
