-- Groups of six bits, each in a byte of a word.
use Rattle.std.proofs.Common.{◌≡◌, ℕ, zero, suc, ◌+◌, ◌*◌, ◌/◌, ◌%◌, ◌^◌, ◌<◌, ◌≤◌, List, [], ◌∷◌, ◌++◌, length, get_or, set, take, drop, map, refl, sym, ap, ◌∙◌, arith}
use Rattle.std.specs.List.{All}
use Rattle.std.specs.Int.{from_le_bytes, to_le_bytes, w32}
use Rattle.std.specs.Int.RustNames.{bit_and, bit_xor}
use Rattle.std.proofs.lemmas.List.{map_push, take_all, take_more, take_more_set}
use Rattle.std.proofs.lemmas.List.Elements.{All-append, All-cons, All-get_or, All-nil}
use Rattle.std.proofs.lemmas.Nat.{and_mask, and_mod, and_shr, xor_lt, xor_mod, xor_shr}
use Rattle.std.proofs.Math.Nat.{mod-lt}
use Rattle.des_core.specs.Bits.{bits_of}
use Rattle.des_core.specs.KeptKeys.{group_at, AreGroups, IsKept, key_bits}
use Rattle.des_core.specs.declared.key_schedule.RoundKey.{RoundKey}
use Rattle.pad_words.specs.Bytes.{exclusive_or}
use Rattle.des_core.proofs.BitLemmas.{bits_of-mod, bits_of-xor}
use Rattle.des_core.proofs.RoundLemmas.{same_two}

byte_is : (word i : ℕ) → i < 4 → get_or (to_le_bytes w32 word) i 0 ≡ word / 2 ^ (8 * i) % 2 ^ 8
byte_is word zero within = omega arith
byte_is word (suc zero) within = refl
byte_is word (suc (suc zero)) within = refl
byte_is word (suc (suc (suc zero))) within = refl
byte_is word (suc (suc (suc (suc i)))) within = absurd (omega arith)

mask_is : (i : ℕ) → i < 4 → 0x3f3f3f3f / 2 ^ (8 * i) % 2 ^ 8 ≡ 63
mask_is zero within = refl
mask_is (suc zero) within = refl
mask_is (suc (suc zero)) within = refl
mask_is (suc (suc (suc zero))) within = refl
mask_is (suc (suc (suc (suc i)))) within = absurd (omega arith)

-- a group of half a block with a group of a round key
pub group_met : (half groups i : ℕ) → i < 4 → AreGroups groups
    → let six = get_or (to_le_bytes w32 (bit_xor (bit_and half 0x3f3f3f3f) groups)) i 0 in
    (bits_of 6 six ≡ exclusive_or (group_at half i) (group_at groups i)) × (six < 64)
group_met half groups i within are =
    let k = 8 * i in
    let masked = bit_and half 0x3f3f3f3f in
    let of_half = half / 2 ^ k in
    let of_groups = groups / 2 ^ k % 2 ^ 8 in
    let small : of_groups < 64 = rw (← byte_is groups i within) (All-get_or (λ byte. byte < 64) (to_le_bytes w32 groups) i 0 within are) in
    let left : masked / 2 ^ k % 2 ^ 8 ≡ of_half % 2 ^ 8 % 2 ^ 6 =
    ap (λ n. n % 2 ^ 8) (and_shr half 0x3f3f3f3f k)
    ∙ (and_mod of_half (0x3f3f3f3f / 2 ^ k) 8 ∙ (ap (bit_and (of_half % 2 ^ 8)) (mask_is i within) ∙ and_mask (of_half % 2 ^ 8) 6)) in
    let both : get_or (to_le_bytes w32 (bit_xor masked groups)) i 0 ≡ bit_xor (of_half % 2 ^ 8 % 2 ^ 6) of_groups =
    byte_is (bit_xor masked groups) i within
    ∙ (ap (λ n. n % 2 ^ 8) (xor_shr masked groups k)
    ∙ (xor_mod (masked / 2 ^ k) (groups / 2 ^ k) 8 ∙ ap (λ n. bit_xor n of_groups) left)) in
    let half_bits : bits_of 6 (of_half % 2 ^ 8 % 2 ^ 6) ≡ group_at half i =
    bits_of-mod 6 (of_half % 2 ^ 8) 6 (omega arith) ∙ bits_of-mod 6 of_half 8 (omega arith) in
    let groups_bits : bits_of 6 of_groups ≡ group_at groups i = bits_of-mod 6 (groups / 2 ^ k) 8 (omega arith) in (
      ap (bits_of 6) both ∙ (bits_of-xor 6 (of_half % 2 ^ 8 % 2 ^ 6) of_groups ∙ same_two exclusive_or half_bits groups_bits),
      rw both (xor_lt 6 (of_half % 2 ^ 8 % 2 ^ 6) of_groups (mod-lt (of_half % 2 ^ 8) (omega arith)) small),
    )

-- four groups in a word
pub groups_at : (a b c d word : ℕ) → a < 64 → b < 64 → c < 64 → d < 64 → word ≡ from_le_bytes w32 (a ∷ b ∷ c ∷ d ∷ [])
    → (group_at word 0 ≡ bits_of 6 a) × (group_at word 1 ≡ bits_of 6 b) × (group_at word 2 ≡ bits_of 6 c) × (group_at word 3 ≡ bits_of 6 d)
groups_at a b c d word a_small b_small c_small d_small is =
    let low : (n m : ℕ) → n % 2 ^ 6 ≡ m → bits_of 6 n ≡ bits_of 6 m =
    λ n m same. sym (bits_of-mod 6 n 6 (omega arith)) ∙ ap (bits_of 6) same in (
      low (word / 2 ^ 0) a (omega arith),
      low (word / 2 ^ 8) b (omega arith),
      low (word / 2 ^ 16) c (omega arith),
      low (word / 2 ^ 24) d (omega arith),
    )

-- 48 bits by sixes
sixes_of : (key : ℕ) → let bits = bits_of 48 key in
    take 6 (drop 0 bits) ++ take 6 (drop 6 bits) ++ take 6 (drop 12 bits) ++ take 6 (drop 18 bits)
    ++ take 6 (drop 24 bits) ++ take 6 (drop 30 bits) ++ take 6 (drop 36 bits) ++ take 6 (drop 42 bits) ≡ bits
unfolding bits_of
sixes_of key = refl

-- the bits of a round key whose groups are those of a word
pub key_bits_by_sixes : (word : ℕ) (key : RoundKey) → let bits = bits_of 48 word in
    group_at key.odd 0 ≡ take 6 (drop 0 bits) → group_at key.even 3 ≡ take 6 (drop 6 bits) → group_at key.odd 3 ≡ take 6 (drop 12 bits)
    → group_at key.even 2 ≡ take 6 (drop 18 bits) → group_at key.odd 2 ≡ take 6 (drop 24 bits) → group_at key.even 1 ≡ take 6 (drop 30 bits)
    → group_at key.odd 1 ≡ take 6 (drop 36 bits) → group_at key.even 0 ≡ take 6 (drop 42 bits) → key_bits key ≡ bits
unfolding key_bits
key_bits_by_sixes word key g1 g2 g3 g4 g5 g6 g7 g8 =
    let behind = λ (xs ys : List ℕ). xs ++ ys in
    same_two behind (same_two behind (same_two behind (same_two behind (same_two behind (same_two behind (same_two behind g1 g2) g3) g4) g5) g6) g7) g8
    ∙ sixes_of word

-- one round key more
pub kept_more : (kept : List RoundKey) (keys : List ℕ) (key : RoundKey) (i : ℕ) → i < length kept → i < length keys
    → map key_bits (take i kept) ≡ map (bits_of 48) (take i keys) → key_bits key ≡ bits_of 48 (get_or keys i 0)
    → map key_bits (take (i + 1) (set kept i key)) ≡ map (bits_of 48) (take (i + 1) keys)
kept_more kept keys key i in_kept in_keys before is =
    rw (take_more_set kept i key in_kept, take_more keys i 0 in_keys, map_push key_bits (take i kept) key, map_push (bits_of 48) (take i keys) (get_or keys i 0), is, before) refl

pub all_kept_more : (kept : List RoundKey) (key : RoundKey) (i : ℕ) → i < length kept → All IsKept (take i kept) → IsKept key
    → All IsKept (take (i + 1) (set kept i key))
all_kept_more kept key i within all is =
    rw (take_more_set kept i key within) (All-append IsKept (take i kept) (key ∷ []) all (All-cons IsKept key [] is (All-nil IsKept)))

pub kept_whole : (kept : List RoundKey) (keys : List ℕ) (i : ℕ) → length kept ≤ i → length keys ≤ i → All IsKept (take i kept)
    → map key_bits (take i kept) ≡ map (bits_of 48) (take i keys) → All IsKept kept × (map key_bits kept ≡ map (bits_of 48) keys)
kept_whole kept keys i kept_end keys_end all same =
    let kept_all : take i kept ≡ kept = take_all i kept kept_end in
    let keys_all : take i keys ≡ keys = take_all i keys keys_end in
    (rw kept_all at all, rw (kept_all, keys_all) at same)
