-- Round keys, and the rounds.
use Rattle.std.proofs.Common.{◌≡◌, ℕ, ◌+◌, ◌-◌, ◌*◌, ◌/◌, ◌%◌, ◌^◌, ◌<◌, ◌≤◌, List, [], ◌∷◌, ◌++◌, length, get_or, set, take, drop, map, reverse, refl, sym, ap, ◌∙◌, arith}
use Rattle.std.specs.Int.RustNames.{bit_or, bit_and}
use Rattle.std.proofs.lemmas.Nat.{and_mask, shr_below}
use Rattle.std.proofs.lemmas.List.{take_more_set, map_push, drop_more, append_assoc, drop_all, take_all, append-nil, map-append, reverse-append}
use Rattle.des_core.specs.Bits.{bits_of}
use Rattle.des_core.specs.KeyTables.{permuted_choice_2}
use Rattle.des_core.specs.KeptKeys.{key_bits}
use Rattle.des_core.specs.Rounds.{IsAfterRound}
use Rattle.des_core.specs.declared.rounds.Halves.{Halves}
use Rattle.des_core.specs.declared.key_schedule.RoundKey.{RoundKey}
use Rattle.des_core.specs.Des.{left_rotation, round_keys_from, bits_by_table, after_rounds, preoutput}
use Rattle.des_core.proofs.BitLemmas.{take-bits_of, drop-bits_of, bits_of-mod, bits_of-beside, bits_of-or, or_after_shl}

pub same_two : {A B C : Type 0} (f : A → B → C) {x x' : A} {y y' : B} → x ≡ x' → y ≡ y' → f x y ≡ f x' y'
same_two f p q = cc

-- three items, each a function of one of three
pub map_three : {A B : Type 0} (f : A → B) (xs : List A) (n1 n2 n3 : A) (a b c : B) → length xs ≡ 3 → a ≡ f (get_or xs 0 n1)
    → b ≡ f (get_or xs 1 n2) → c ≡ f (get_or xs 2 n3) → a ∷ b ∷ c ∷ [] ≡ map f xs
map_three f [] n1 n2 n3 a b c long a_is b_is c_is = absurd (omega arith)
map_three f (x ∷ []) n1 n2 n3 a b c long a_is b_is c_is = absurd (omega arith)
map_three f (x ∷ y ∷ []) n1 n2 n3 a b c long a_is b_is c_is = absurd (omega arith)
map_three f (x ∷ y ∷ z ∷ []) n1 n2 n3 a b c long a_is b_is c_is = rw (a_is, b_is, c_is) refl
map_three f (x ∷ y ∷ z ∷ w ∷ others) n1 n2 n3 a b c long a_is b_is c_is = absurd (omega arith)

-- a word of `width` bits rotated left, in 64 bits
pub bits_of-rotate : (width count half : ℕ) → count ≤ width → width + count ≤ 64 → half < 2 ^ width
    → bits_of width (bit_and (bit_or (half * 2 ^ count % 2 ^ 64) (half / 2 ^ (width - count))) (2 ^ width - 1))
    ≡ left_rotation count (bits_of width half)
unfolding left_rotation
bits_of-rotate width count half within fits small =
    let rest = width - count in
    let split : count + rest ≡ width = omega arith in
    let swapped : rest + count ≡ width = omega arith in
    let top : half / 2 ^ rest < 2 ^ count = shr_below half count rest (rw split small) in
    let value = or_after_shl width count 64 half (half / 2 ^ rest) fits small top in
    let n = half * 2 ^ count + half / 2 ^ rest in
    let back : drop count (bits_of width half) ≡ bits_of rest half =
    ap (λ w. drop count (bits_of w half)) (sym split) ∙ drop-bits_of count rest half in
    let front : take count (bits_of width half) ≡ bits_of count (half / 2 ^ rest) =
    ap (λ w. take count (bits_of w half)) (sym split) ∙ take-bits_of count rest half in
    rw (value, and_mask n width, bits_of-mod width n width (omega arith), back, front)
    (ap (λ w. bits_of w n) (sym swapped) ∙ bits_of-beside rest count half (half / 2 ^ rest) top)

-- one round key more
pub schedule_step : (counts keys : List ℕ) (i c d next_c next_d key : ℕ) → i < length counts → i < length keys
    → next_c < 2 ^ 28 → next_d < 2 ^ 28 → bits_of 28 next_c ≡ left_rotation (get_or counts i 0) (bits_of 28 c)
    → bits_of 28 next_d ≡ left_rotation (get_or counts i 0) (bits_of 28 d)
    → bits_of 48 key ≡ bits_by_table permuted_choice_2 (bits_of 56 (bit_or (next_c * 2 ^ 28 % 2 ^ 64) next_d))
    → map (bits_of 48) (take (i + 1) (set keys i key)) ++ round_keys_from (drop (i + 1) counts) (bits_of 28 next_c) (bits_of 28 next_d)
    ≡ map (bits_of 48) (take i keys) ++ round_keys_from (drop i counts) (bits_of 28 c) (bits_of 28 d)
unfolding round_keys_from
schedule_step counts keys i c d next_c next_d key in_counts in_keys c_small d_small c_is d_is key_is =
    let halves : bits_of 56 (bit_or (next_c * 2 ^ 28 % 2 ^ 64) next_d) ≡ bits_of 28 next_c ++ bits_of 28 next_d =
    bits_of-or 28 28 64 next_c next_d (omega arith) c_small d_small in
    let chosen : bits_of 48 key ≡ bits_by_table permuted_choice_2 (bits_of 28 next_c ++ bits_of 28 next_d) =
    key_is ∙ ap (bits_by_table permuted_choice_2) halves in
    rw (
      take_more_set keys i key in_keys,
      map_push (bits_of 48) (take i keys) key,
      drop_more counts i 0 in_counts,
      ← c_is,
      ← d_is,
      ← chosen,
    )
    (append_assoc (map (bits_of 48) (take i keys)) (bits_of 48 key ∷ [])
    (round_keys_from (drop (i + 1) counts) (bits_of 28 next_c) (bits_of 28 next_d)))

pub schedule_end : (counts keys c d : List ℕ) (i : ℕ) (all : List (List ℕ)) → i ≡ length counts
    → i ≡ length keys → map (bits_of 48) (take i keys) ++ round_keys_from (drop i counts) c d ≡ all
    → map (bits_of 48) keys ≡ all
unfolding round_keys_from
schedule_end counts keys c d i all counts_end keys_end whole =
    let none : drop i counts ≡ [] = drop_all i counts (omega arith) in
    let each : take i keys ≡ keys = take_all i keys (omega arith) in
    sym (append-nil (map (bits_of 48) keys)) ∙ rw (each, none) at whole

-- the halves after the rounds for the keys from `i` on
abbrev pub rest_of_rounds : List RoundKey → ℕ → Halves → List ℕ
rest_of_rounds keys i halves = after_rounds (map key_bits (drop i keys)) (bits_of 32 halves.left) (bits_of 32 halves.right)

-- the halves of a block, before the first round
pub first_round : (keys : List RoundKey) (halves : Halves) (block : ℕ) → bits_of 32 halves.left ≡ take 32 (bits_of 64 block)
    → bits_of 32 halves.right ≡ drop 32 (bits_of 64 block)
    → rest_of_rounds keys 0 halves ≡ preoutput (map key_bits keys) (bits_of 64 block)
unfolding preoutput
first_round keys halves block left right = same_two (after_rounds (map key_bits keys)) left right

-- one round more
pub round_step : (keys : List RoundKey) (none : RoundKey) (i : ℕ) (before after : Halves) → i < length keys
    → IsAfterRound before after (get_or keys i none) → rest_of_rounds keys (i + 1) after ≡ rest_of_rounds keys i before
unfolding after_rounds
round_step keys none i before after within is =
    rw (drop_more keys i none within)
    (same_two (after_rounds (map key_bits (drop (i + 1) keys))) (ap (bits_of 32) is.left) is.right)

-- two rounds more
pub two_rounds : (keys : List RoundKey) (none : RoundKey) (i : ℕ) (before between after : Halves) → 2 * i + 1 < length keys
    → IsAfterRound before between (get_or keys (2 * i) none) → IsAfterRound between after (get_or keys (2 * i + 1) none)
    → rest_of_rounds keys (2 * (i + 1)) after ≡ rest_of_rounds keys (2 * i) before
two_rounds keys none i before between after within first second =
    let next : 2 * (i + 1) ≡ 2 * i + 1 + 1 = omega arith in
    ap (λ n. rest_of_rounds keys n after) next
    ∙ (round_step keys none (2 * i + 1) between after within second ∙ round_step keys none (2 * i) before between (omega arith) first)

pub after_rounds_end : (keys : List RoundKey) (i : ℕ) (halves : Halves) (out : List ℕ) → length keys ≤ i
    → rest_of_rounds keys i halves ≡ out → bits_of 32 halves.right ++ bits_of 32 halves.left ≡ out
unfolding after_rounds
after_rounds_end keys i halves out past whole = rw (drop_all i keys past) at whole

pub map-reverse : (f : ℕ → List ℕ) (xs : List ℕ) → map f (reverse xs) ≡ reverse (map f xs)
map-reverse f [] = refl
map-reverse f (x ∷ xs) =
    ap (map f) (reverse-append (x ∷ []) xs)
    ∙ (map-append f (reverse xs) (x ∷ []) ∙ (ap (λ z. z ++ f x ∷ []) (map-reverse f xs)
    ∙ sym (reverse-append (f x ∷ []) (map f xs))))
