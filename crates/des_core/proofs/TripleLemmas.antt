-- Triple DES undoes itself, and under one key of eight bytes it is DES.
use Rattle.std.proofs.Common.{Bool, false, if◌then◌else◌, nat_lt, true, ◌≡◌, ℕ, zero, suc, ◌+◌, ◌<◌, ◌≤◌, List, [], ◌∷◌, ◌++◌, length, take, drop, get_or, map, refl, sym, ap, ◌∙◌, arith}
use Rattle.std.proofs.lemmas.Grind.{common_steps}
use Rattle.std.specs.List.{All}
use Rattle.std.proofs.lemmas.List.{append_assoc, drop-drop, drop_all, length-drop, length-take-le, take_all, take-append-drop}
use Rattle.std.proofs.Math.Seq.{take-append-add}
use Rattle.des_core.proofs.RoundLemmas.{same_two}
use Rattle.std.proofs.lemmas.List.Elements.{All-head, All-tail}
use Rattle.des_core.specs.Bits.{IsBlock, bits_of_bytes, bytes_of_bits}
use Rattle.des_core.specs.Des.{des, des_back, des_bytes, des_back_bytes}
use Rattle.des_core.specs.TripleDes.{first_key, second_key, third_key, tdea_bytes, tdea_back_bytes}
use Rattle.des_core.proofs.ByteLemmas.{AreBits, AreBits-bits_of_bytes, bytes_of_bits-lt, length-bytes_of_bits, bits_of_bytes-bytes_of_bits, bytes_of_bits-bits_of_bytes, length-bits_of_bytes}
use Rattle.des_core.proofs.InverseLemmas.{AreBits-des, AreBits-des_back, des-des_back, des_back-des, length-des, length-des_back}

if_not : (test : Bool) (held failed : List ℕ) → (test ≡ true → ⊥) → (if test then held else failed) ≡ failed
if_not true held failed isnt = absurd (isnt refl)
if_not false held failed isnt = refl

-- K1, K2 and K3 of a key of eight bytes are the key
first_key-eight : (key : List ℕ) → length key ≡ 8 → first_key key ≡ key
first_key-eight key eight = take_all 8 key (omega arith)

second_key-eight : (key : List ℕ) → length key ≡ 8 → second_key key ≡ key
second_key-eight key eight = rw eight (first_key-eight key eight)

third_key-eight : (key : List ℕ) → length key ≡ 8 → third_key key ≡ key
third_key-eight key eight = rw eight (first_key-eight key eight)

pub tdea_bytes-one_key : (key block : List ℕ) → length key ≡ 8 → length block ≡ 8 → tdea_bytes key block ≡ des_bytes key block
unfolding tdea_bytes des_bytes
tdea_bytes-one_key key block eight long =
    let k = bits_of_bytes key in
    let bits = bits_of_bytes block in
    rw (second_key-eight key eight, third_key-eight key eight, first_key-eight key eight)
    (ap (bytes_of_bits 8) (des-des_back k (des k bits) (length-des k bits)))

pub tdea_back_bytes-one_key : (key block : List ℕ) → length key ≡ 8 → length block ≡ 8
    → tdea_back_bytes key block ≡ des_back_bytes key block
unfolding tdea_back_bytes des_back_bytes
tdea_back_bytes-one_key key block eight long =
    let k = bits_of_bytes key in
    let bits = bits_of_bytes block in
    rw (second_key-eight key eight, third_key-eight key eight, first_key-eight key eight)
    (ap (bytes_of_bits 8) (des_back-des k (des_back k bits) (length-des_back k bits)))

pub tdea_back_bytes-tdea_bytes : (key block : List ℕ) → length block ≡ 8 → ((i : ℕ) → get_or block i 0 < 256)
    → tdea_back_bytes key (tdea_bytes key block) ≡ block
unfolding tdea_bytes tdea_back_bytes
tdea_back_bytes-tdea_bytes key block long small =
    let k1 = bits_of_bytes (first_key key) in
    let k2 = bits_of_bytes (second_key key) in
    let k3 = bits_of_bytes (third_key key) in
    let bits = bits_of_bytes block in
    let first = des k1 bits in
    let second = des_back k2 first in
    let third = des k3 second in
    let are = AreBits-des k3 second (AreBits-des_back k2 first (AreBits-des k1 bits (AreBits-bits_of_bytes block))) in
    let back : bits_of_bytes (bytes_of_bits 8 third) ≡ third = bits_of_bytes-bytes_of_bits 8 third (length-des k3 second) are in
    rw (
      back,
      des_back-des k3 second (length-des_back k2 first),
      des-des_back k2 first (length-des k1 bits),
      des_back-des k1 bits (length-bits_of_bytes block 8 long),
    )
    (bytes_of_bits-bits_of_bytes block 8 long small)

-- a key of at most eight bytes is all three keys, so that two of the three steps undo each other
second_key-short : (key : List ℕ) → length key ≤ 8 → second_key key ≡ first_key key
second_key-short key short = if_not (nat_lt 8 (length key)) (take 8 (drop 8 key)) (first_key key) (grind (arith, common_steps))

third_key-short : (key : List ℕ) → length key ≤ 8 → third_key key ≡ first_key key
third_key-short key short = if_not (nat_lt 16 (length key)) (take 8 (drop 16 key)) (first_key key) (grind (arith, common_steps))

pub tdea_bytes-short : (key block : List ℕ) → length key ≤ 8 → tdea_bytes key block ≡ des_bytes (first_key key) block
unfolding tdea_bytes des_bytes
tdea_bytes-short key block short =
    let k = bits_of_bytes (first_key key) in
    let bits = bits_of_bytes block in
    rw (second_key-short key short, third_key-short key short) (ap (bytes_of_bits 8) (des-des_back k (des k bits) (length-des k bits)))

pub tdea_back_bytes-short : (key block : List ℕ) → length key ≤ 8 → tdea_back_bytes key block ≡ des_back_bytes (first_key key) block
unfolding tdea_back_bytes des_back_bytes
tdea_back_bytes-short key block short =
    let k = bits_of_bytes (first_key key) in
    let bits = bits_of_bytes block in
    rw (second_key-short key short, third_key-short key short) (ap (bytes_of_bits 8) (des_back-des k (des_back k bits) (length-des_back k bits)))

pub tdea_bytes-each_short : (key : List ℕ) (blocks : List (List ℕ)) → length key ≤ 8
    → map (tdea_bytes key) blocks ≡ map (des_bytes (first_key key)) blocks
tdea_bytes-each_short key [] short = refl
tdea_bytes-each_short key (block ∷ others) short =
    same_two (λ (b : List ℕ) (bs : List (List ℕ)). b ∷ bs) (tdea_bytes-short key block short) (tdea_bytes-each_short key others short)

pub tdea_back_bytes-each_short : (key : List ℕ) (blocks : List (List ℕ)) → length key ≤ 8
    → map (tdea_back_bytes key) blocks ≡ map (des_back_bytes (first_key key)) blocks
tdea_back_bytes-each_short key [] short = refl
tdea_back_bytes-each_short key (block ∷ others) short =
    same_two (λ (b : List ℕ) (bs : List (List ℕ)). b ∷ bs) (tdea_back_bytes-short key block short) (tdea_back_bytes-each_short key others short)

-- past the end of a list of bytes stands 0
below_everywhere : (bytes : List ℕ) → All (λ byte. byte < 256) bytes → (i : ℕ) → get_or bytes i 0 < 256
below_everywhere [] small i = omega arith
below_everywhere (x ∷ xs) small zero = All-head (λ byte. byte < 256) x xs small
below_everywhere (x ∷ xs) small (suc i) = below_everywhere xs (All-tail (λ byte. byte < 256) x xs small) i

pub tdea_bytes-injective : (key first second : List ℕ) → length first ≡ 8 → length second ≡ 8
    → All (λ byte. byte < 256) first → All (λ byte. byte < 256) second
    → tdea_bytes key first ≡ tdea_bytes key second → first ≡ second
tdea_bytes-injective key first second first_long second_long first_small second_small same =
    sym (tdea_back_bytes-tdea_bytes key first first_long (below_everywhere first first_small))
    ∙ (ap (tdea_back_bytes key) same
    ∙ tdea_back_bytes-tdea_bytes key second second_long (below_everywhere second second_small))

pub IsBlock-tdea_bytes : (key block : List ℕ) → IsBlock (tdea_bytes key block)
unfolding tdea_bytes
IsBlock-tdea_bytes key block =
    let bits = bits_of_bytes block in
    let second = des_back (bits_of_bytes (second_key key)) (des (bits_of_bytes (first_key key)) bits) in
    let are : AreBits second =
    AreBits-des_back (bits_of_bytes (second_key key)) _ (AreBits-des (bits_of_bytes (first_key key)) bits (AreBits-bits_of_bytes block)) in
    let k3 = bits_of_bytes (third_key key) in
    (length-bytes_of_bits 8 (des k3 second), bytes_of_bits-lt 8 (des k3 second) (length-des k3 second) (AreBits-des k3 second are))

pub block_back : (key block : List ℕ) → IsBlock block → tdea_back_bytes key (tdea_bytes key block) ≡ block
block_back key block is = tdea_back_bytes-tdea_bytes key block is.0 (below_everywhere block is.1)

-- eight bytes of a cipher as bits
bits_of-des_bytes : (key block : List ℕ) → bits_of_bytes (des_bytes key block) ≡ des (bits_of_bytes key) (bits_of_bytes block)
unfolding des_bytes
bits_of-des_bytes key block =
    bits_of_bytes-bytes_of_bits 8 (des (bits_of_bytes key) (bits_of_bytes block)) (length-des (bits_of_bytes key) (bits_of_bytes block))
    (AreBits-des (bits_of_bytes key) (bits_of_bytes block) (AreBits-bits_of_bytes block))

bits_of-des_back_bytes : (key block : List ℕ)
    → bits_of_bytes (des_back_bytes key block) ≡ des_back (bits_of_bytes key) (bits_of_bytes block)
unfolding des_back_bytes
bits_of-des_back_bytes key block =
    bits_of_bytes-bytes_of_bits 8 (des_back (bits_of_bytes key) (bits_of_bytes block))
    (length-des_back (bits_of_bytes key) (bits_of_bytes block))
    (AreBits-des_back (bits_of_bytes key) (bits_of_bytes block) (AreBits-bits_of_bytes block))

-- triple DES is three ciphers of blocks in a row
pub tdea_bytes-in_a_row : (key block : List ℕ)
    → tdea_bytes key block ≡ des_bytes (third_key key) (des_back_bytes (second_key key) (des_bytes (first_key key) block))
unfolding tdea_bytes
tdea_bytes-in_a_row key block =
    unfold des_bytes in rw (bits_of-des_back_bytes, bits_of-des_bytes) (unfold tdea_bytes in refl)

pub tdea_back_bytes-in_a_row : (key block : List ℕ)
    → tdea_back_bytes key block ≡ des_back_bytes (first_key key) (des_bytes (second_key key) (des_back_bytes (third_key key) block))
unfolding tdea_back_bytes
tdea_back_bytes-in_a_row key block =
    unfold des_back_bytes in rw (bits_of-des_bytes, bits_of-des_back_bytes) (unfold tdea_back_bytes in refl)

-- the same of each of some blocks
pub tdea_bytes-of_each : (key first second third : List ℕ) → first ≡ first_key key → second ≡ second_key key → third ≡ third_key key
    → (blocks : List (List ℕ))
    → map (des_bytes third) (map (des_back_bytes second) (map (des_bytes first) blocks)) ≡ map (tdea_bytes key) blocks
tdea_bytes-of_each key first second third first_is second_is third_is [] = refl
tdea_bytes-of_each key first second third first_is second_is third_is (block ∷ others) =
    let one : des_bytes third (des_back_bytes second (des_bytes first block)) ≡ tdea_bytes key block =
    rw (first_is, second_is, third_is) (sym (tdea_bytes-in_a_row key block)) in
    same_two (λ (b : List ℕ) (bs : List (List ℕ)). b ∷ bs) one (tdea_bytes-of_each key first second third first_is second_is third_is others)

pub tdea_back_bytes-of_each : (key first second third : List ℕ) → first ≡ first_key key → second ≡ second_key key → third ≡ third_key key
    → (blocks : List (List ℕ))
    → map (des_back_bytes first) (map (des_bytes second) (map (des_back_bytes third) blocks)) ≡ map (tdea_back_bytes key) blocks
tdea_back_bytes-of_each key first second third first_is second_is third_is [] = refl
tdea_back_bytes-of_each key first second third first_is second_is third_is (block ∷ others) =
    let one : des_back_bytes first (des_bytes second (des_back_bytes third block)) ≡ tdea_back_bytes key block =
    rw (first_is, second_is, third_is) (sym (tdea_back_bytes-in_a_row key block)) in
    same_two (λ (b : List ℕ) (bs : List (List ℕ)). b ∷ bs) one (tdea_back_bytes-of_each key first second third first_is second_is third_is others)

-- a key cut after its first eight bytes, and after all of them
cut : (key first rest : List ℕ) → first ≡ take 8 key → 8 ≤ length key → take (length (drop 8 key)) rest ≡ drop 8 key
    → take (length key) (first ++ rest) ≡ key
cut key first rest is long more =
    let count : length key ≡ length first + length (drop 8 key) =
    omega (arith, ap length is, length-take-le 8 key long, length-drop 8 key) in
    ap (λ n. take n (first ++ rest)) count
    ∙ (take-append-add first rest (length (drop 8 key)) ∙ (same_two (λ xs ys. xs ++ ys) is more ∙ take-append-drop 8 key))

-- K1, K2 and K3 in a row are the key, and bytes behind it
pub key_of-8 : (key a b c : List ℕ) → length key ≡ 8 → a ≡ take 8 key → take (length key) ((a ++ b) ++ c) ≡ key
key_of-8 key a b c eight a_is =
    let none : drop 8 key ≡ [] = drop_all 8 key (omega arith) in
    ap (take (length key)) (append_assoc a b c) ∙ cut key a (b ++ c) a_is (omega arith) (rw none refl)

pub key_of-16 : (key a b c : List ℕ) → length key ≡ 16 → a ≡ take 8 key → b ≡ take 8 (drop 8 key)
    → take (length key) ((a ++ b) ++ c) ≡ key
key_of-16 key a b c sixteen a_is b_is =
    let left : length (drop 8 key) ≡ 8 = length-drop 8 key ∙ omega arith in
    let none : drop 8 (drop 8 key) ≡ [] = drop_all 8 (drop 8 key) (omega arith) in
    ap (take (length key)) (append_assoc a b c)
    ∙ cut key a (b ++ c) a_is (omega arith) (cut (drop 8 key) b c b_is (omega arith) (rw none refl))

pub key_of-24 : (key a b c : List ℕ) → length key ≡ 24 → a ≡ take 8 key → b ≡ take 8 (drop 8 key) → c ≡ take 8 (drop 16 key)
    → take (length key) ((a ++ b) ++ c) ≡ key
key_of-24 key a b c long a_is b_is c_is =
    let left : length (drop 8 key) ≡ 16 = length-drop 8 key ∙ omega arith in
    let last : length (drop 8 (drop 8 key)) ≡ 8 = length-drop 8 (drop 8 key) ∙ omega arith in
    let end : drop 16 key ≡ drop 8 (drop 8 key) = sym (drop-drop 8 8 key) in
    let third : c ≡ drop 8 (drop 8 key) = c_is ∙ (ap (take 8) end ∙ take_all 8 (drop 8 (drop 8 key)) (omega arith)) in
    ap (take (length key)) (append_assoc a b c)
    ∙ cut key a (b ++ c) a_is (omega arith)
    (cut (drop 8 key) b c b_is (omega arith) (ap (take (length (drop 8 (drop 8 key)))) third ∙ take_all _ (drop 8 (drop 8 key)) (omega arith)))

-- eight bytes come out
pub length-des_bytes : (key block : List ℕ) → length (des_bytes key block) ≡ 8
unfolding des_bytes
length-des_bytes key block = length-bytes_of_bits 8 (des (bits_of_bytes key) (bits_of_bytes block))

pub length-des_back_bytes : (key block : List ℕ) → length (des_back_bytes key block) ≡ 8
unfolding des_back_bytes
length-des_back_bytes key block = length-bytes_of_bits 8 (des_back (bits_of_bytes key) (bits_of_bytes block))
