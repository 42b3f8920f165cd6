-- The cipher function by the joined tables.
use Rattle.std.proofs.Common.{◌≡◌, ℕ, ◌+◌, ◌*◌, ◌/◌, ◌%◌, ◌^◌, ◌<◌, List, [], ◌∷◌, ◌++◌, length, take, drop, map, refl, sym, ap, ◌∙◌, arith}
use Rattle.std.specs.List.{concat}
use Rattle.std.specs.Int.{rotate_left, w32}
use Rattle.std.specs.Int.RustNames.{bit_or, bit_xor}
use Rattle.std.specs.Int.Bits.{or_zero_r, xor_zero_r}
use Rattle.std.proofs.lemmas.List.{drop-drop, length-append}
use Rattle.std.proofs.lemmas.Nat.{or_shifted, shr_below}
use Rattle.std.specs.Prelude.{slice_index, slice_index_or}
use Rattle.des_core.specs.Bits.{bits_of}
use Rattle.pad_words.specs.Bytes.{exclusive_or}
use Rattle.des_core.specs.Permutations.{bit_selection, round_permutation}
use Rattle.des_core.specs.SelectionFunctions.{selection_functions, s1, s2, s3, s4, s5, s6, s7, s8}
use Rattle.des_core.specs.Des.{bits_by_table, column_of, row_of, selection, selections}
use Rattle.des_core.specs.Joined.{joined_bits}
use Rattle.des_core.specs.KeptKeys.{group_at, key_bits}
use Rattle.des_core.specs.declared.key_schedule.RoundKey.{RoundKey}
use Rattle.des_core.proofs.BitLemmas.{bits_of-beside, bits_of-mod, length-bits_of, part-bits_of, take-bits_of, drop-bits_of}
use Rattle.des_core.proofs.RoundLemmas.{same_two}
use Rattle.des_core.proofs.ZippedLemmas.{zipped, bits_by_table-zipped, bits_of-or_zipped, bits_of-xor_zipped, drop-exclusive_or, take-exclusive_or, zipped-append}

-- ---- the six bits for each selection function

bits_of-rotated : (half count rest : ℕ) → count + rest ≡ 32 → half < 2 ^ (count + rest)
    → half * 2 ^ count % 2 ^ 32 ≡ half % 2 ^ rest * 2 ^ count
    → bits_of 32 (bit_or (half * 2 ^ count % 2 ^ 32) (half / 2 ^ rest)) ≡ drop count (bits_of 32 half) ++ take count (bits_of 32 half)
bits_of-rotated half count rest whole small cut =
    let x = half % 2 ^ rest in
    let y = half / 2 ^ rest in
    let top : y < 2 ^ count = shr_below half count rest small in
    let value : bit_or (half * 2 ^ count % 2 ^ 32) y ≡ x * 2 ^ count + y = ap (λ n. bit_or n y) cut ∙ or_shifted x count y top in
    let turned : rest + count ≡ 32 = omega arith in
    let front : bits_of rest x ≡ drop count (bits_of 32 half) =
    bits_of-mod rest half rest (omega arith) ∙ (sym (drop-bits_of count rest half) ∙ ap (λ w. drop count (bits_of w half)) whole) in
    let back : bits_of count y ≡ take count (bits_of 32 half) =
    sym (take-bits_of count rest half) ∙ ap (λ w. take count (bits_of w half)) whole in
    ap (bits_of 32) value
    ∙ (ap (λ w. bits_of w (x * 2 ^ count + y)) (sym turned) ∙ (bits_of-beside rest count x y top ∙ same_two (λ (xs ys : List ℕ). xs ++ ys) front back))

bits_of-rotated_5 : (half : ℕ) → half < 2 ^ 32 → bits_of 32 (rotate_left w32 half 5) ≡ drop 5 (bits_of 32 half) ++ take 5 (bits_of 32 half)
bits_of-rotated_5 half small = bits_of-rotated half 5 27 refl small (omega arith)

bits_of-rotated_1 : (half : ℕ) → half < 2 ^ 32 → bits_of 32 (rotate_left w32 half 1) ≡ drop 1 (bits_of 32 half) ++ take 1 (bits_of 32 half)
bits_of-rotated_1 half small = bits_of-rotated half 1 31 refl small (omega arith)

-- the six bits that meet a selection function, where `before` bits of E and of the round key come before them
six_is : (six rotated word before left byte half : ℕ) (key bits : List ℕ) → left + (6 + 8 * byte) ≡ 32
    → bits_of 6 six ≡ exclusive_or (group_at rotated byte) (group_at word byte)
    → bits_of 32 rotated ≡ bits
    → take 6 (drop left bits) ≡ take 6 (drop before (bits_by_table bit_selection (bits_of 32 half)))
    → group_at word byte ≡ take 6 (drop before key)
    → bits_of 6 six ≡ take 6 (drop before (exclusive_or (bits_by_table bit_selection (bits_of 32 half)) key))
six_is six rotated word before left byte half key bits whole met turned selected of_key =
    let wide = bits_by_table bit_selection (bits_of 32 half) in
    let of_half : group_at rotated byte ≡ take 6 (drop before wide) =
    sym (part-bits_of left 6 (8 * byte) rotated)
    ∙ (ap (λ w. take 6 (drop left (bits_of w rotated))) whole ∙ (ap (λ b. take 6 (drop left b)) turned ∙ selected)) in
    met ∙ (same_two exclusive_or of_half of_key
    ∙ (sym (take-exclusive_or 6 (drop before wide) (drop before key)) ∙ ap (take 6) (sym (drop-exclusive_or before wide key))))

-- the 48 bits of which the selection functions take six each
abbrev pub met_bits : ℕ → RoundKey → List ℕ
met_bits half key = exclusive_or (bits_by_table bit_selection (bits_of 32 half)) (key_bits key)

pub six_1 : (six half rotated : ℕ) (key : RoundKey) → half < 2 ^ 32 → rotated ≡ rotate_left w32 half 5
    → bits_of 6 six ≡ exclusive_or (group_at rotated 0) (group_at key.odd 0)
    → bits_of 6 six ≡ take 6 (drop 0 (met_bits half key))
unfolding bits_of bits_by_table key_bits
six_1 six half rotated key small is met =
    six_is six rotated key.odd 0 26 0 half (key_bits key) _ refl met (ap (bits_of 32) is ∙ bits_of-rotated_5 half small) refl refl

pub six_2 : (six half rotated : ℕ) (key : RoundKey) → half < 2 ^ 32 → rotated ≡ rotate_left w32 half 1
    → bits_of 6 six ≡ exclusive_or (group_at rotated 3) (group_at key.even 3)
    → bits_of 6 six ≡ take 6 (drop 6 (met_bits half key))
unfolding bits_of bits_by_table key_bits
six_2 six half rotated key small is met =
    six_is six rotated key.even 6 2 3 half (key_bits key) _ refl met (ap (bits_of 32) is ∙ bits_of-rotated_1 half small) refl refl

pub six_3 : (six half rotated : ℕ) (key : RoundKey) → half < 2 ^ 32 → rotated ≡ rotate_left w32 half 5
    → bits_of 6 six ≡ exclusive_or (group_at rotated 3) (group_at key.odd 3)
    → bits_of 6 six ≡ take 6 (drop 12 (met_bits half key))
unfolding bits_of bits_by_table key_bits
six_3 six half rotated key small is met =
    six_is six rotated key.odd 12 2 3 half (key_bits key) _ refl met (ap (bits_of 32) is ∙ bits_of-rotated_5 half small) refl refl

pub six_4 : (six half rotated : ℕ) (key : RoundKey) → half < 2 ^ 32 → rotated ≡ rotate_left w32 half 1
    → bits_of 6 six ≡ exclusive_or (group_at rotated 2) (group_at key.even 2)
    → bits_of 6 six ≡ take 6 (drop 18 (met_bits half key))
unfolding bits_of bits_by_table key_bits
six_4 six half rotated key small is met =
    six_is six rotated key.even 18 10 2 half (key_bits key) _ refl met (ap (bits_of 32) is ∙ bits_of-rotated_1 half small) refl refl

pub six_5 : (six half rotated : ℕ) (key : RoundKey) → half < 2 ^ 32 → rotated ≡ rotate_left w32 half 5
    → bits_of 6 six ≡ exclusive_or (group_at rotated 2) (group_at key.odd 2)
    → bits_of 6 six ≡ take 6 (drop 24 (met_bits half key))
unfolding bits_of bits_by_table key_bits
six_5 six half rotated key small is met =
    six_is six rotated key.odd 24 10 2 half (key_bits key) _ refl met (ap (bits_of 32) is ∙ bits_of-rotated_5 half small) refl refl

pub six_6 : (six half rotated : ℕ) (key : RoundKey) → half < 2 ^ 32 → rotated ≡ rotate_left w32 half 1
    → bits_of 6 six ≡ exclusive_or (group_at rotated 1) (group_at key.even 1)
    → bits_of 6 six ≡ take 6 (drop 30 (met_bits half key))
unfolding bits_of bits_by_table key_bits
six_6 six half rotated key small is met =
    six_is six rotated key.even 30 18 1 half (key_bits key) _ refl met (ap (bits_of 32) is ∙ bits_of-rotated_1 half small) refl refl

pub six_7 : (six half rotated : ℕ) (key : RoundKey) → half < 2 ^ 32 → rotated ≡ rotate_left w32 half 5
    → bits_of 6 six ≡ exclusive_or (group_at rotated 1) (group_at key.odd 1)
    → bits_of 6 six ≡ take 6 (drop 36 (met_bits half key))
unfolding bits_of bits_by_table key_bits
six_7 six half rotated key small is met =
    six_is six rotated key.odd 36 18 1 half (key_bits key) _ refl met (ap (bits_of 32) is ∙ bits_of-rotated_5 half small) refl refl

pub six_8 : (six half rotated : ℕ) (key : RoundKey) → half < 2 ^ 32 → rotated ≡ rotate_left w32 half 1
    → bits_of 6 six ≡ exclusive_or (group_at rotated 0) (group_at key.even 0)
    → bits_of 6 six ≡ take 6 (drop 42 (met_bits half key))
unfolding bits_of bits_by_table key_bits
six_8 six half rotated key small is met =
    six_is six rotated key.even 42 26 0 half (key_bits key) _ refl met (ap (bits_of 32) is ∙ bits_of-rotated_1 half small) refl refl

-- ---- the entries put together

-- the bits of numbers of four bits
abbrev fours : List ℕ → List ℕ
fours vs = concat (map (bits_of 4) vs)

-- bits are put together place by place, and zeros give zeros
record IsBitwise (op : ℕ → ℕ → ℕ) : Type 0 where
  pub zeros : op 0 0 ≡ 0
  pub bits : (width a b : ℕ) → bits_of width (op a b) ≡ zipped op (bits_of width a) (bits_of width b)

xor_is_bitwise : IsBitwise bit_xor
xor_is_bitwise = record { zeros = refl; bits = bits_of-xor_zipped }

or_is_bitwise : IsBitwise bit_or
or_is_bitwise = record { zeros = refl; bits = bits_of-or_zipped }

zipped-fours : (op : ℕ → ℕ → ℕ) → IsBitwise op → (vs ws : List ℕ) → length vs ≡ length ws
    → zipped op (fours vs) (fours ws) ≡ fours (zipped op vs ws)
unfolding zipped
zipped-fours op is [] ws same = refl
zipped-fours op is (v ∷ vs) [] same = cc
zipped-fours op is (v ∷ vs) (w ∷ ws) same =
    zipped-append op (bits_of 4 v) (fours vs) (bits_of 4 w) (fours ws) (length-bits_of 4 v ∙ sym (length-bits_of 4 w))
    ∙ same_two (λ (xs ys : List ℕ). xs ++ ys) (sym (is.bits 4 v w)) (zipped-fours op is vs ws (omega arith))

length-fours : (vs : List ℕ) → length (fours vs) ≡ 4 * length vs
length-fours [] = refl
length-fours (v ∷ vs) = length-append (bits_of 4 v) (fours vs) ∙ omega (arith, length-bits_of 4 v, length-fours vs)

-- the word has these fours, permuted by P
abbrev HasFours : ℕ → List ℕ → Type 0
HasFours word vs = bits_of 32 word ≡ bits_by_table round_permutation (fours vs)

put_together : (op : ℕ → ℕ → ℕ) → IsBitwise op → (a b : ℕ) (vs ws : List ℕ) → length vs ≡ length ws
    → HasFours a vs → HasFours b ws → HasFours (op a b) (zipped op vs ws)
put_together op is a b vs ws same of_a of_b =
    is.bits 32 a b ∙ (same_two (zipped op) of_a of_b
    ∙ (sym (bits_by_table-zipped op round_permutation (fours vs) (fours ws) is.zeros (omega (arith, length-fours vs, length-fours ws)))
    ∙ ap (bits_by_table round_permutation) (zipped-fours op is vs ws same)))

-- the number that a selection function gives for six bits
abbrev found : List (List ℕ) → ℕ → ℕ
found rows six = let bits = bits_of 6 six in slice_index (slice_index_or rows (row_of bits) []) (column_of bits)

entry_1 : (word six : ℕ) → bits_of 32 word ≡ joined_bits 1 (bits_of 6 six)
    → HasFours word (found s1 six ∷ 0 ∷ 0 ∷ 0 ∷ 0 ∷ 0 ∷ 0 ∷ 0 ∷ [])
unfolding joined_bits selection bits_of
entry_1 word six is = is

entry_2 : (word six : ℕ) → bits_of 32 word ≡ joined_bits 2 (bits_of 6 six)
    → HasFours word (0 ∷ found s2 six ∷ 0 ∷ 0 ∷ 0 ∷ 0 ∷ 0 ∷ 0 ∷ [])
unfolding joined_bits selection bits_of
entry_2 word six is = is

entry_3 : (word six : ℕ) → bits_of 32 word ≡ joined_bits 3 (bits_of 6 six)
    → HasFours word (0 ∷ 0 ∷ found s3 six ∷ 0 ∷ 0 ∷ 0 ∷ 0 ∷ 0 ∷ [])
unfolding joined_bits selection bits_of
entry_3 word six is = is

entry_4 : (word six : ℕ) → bits_of 32 word ≡ joined_bits 4 (bits_of 6 six)
    → HasFours word (0 ∷ 0 ∷ 0 ∷ found s4 six ∷ 0 ∷ 0 ∷ 0 ∷ 0 ∷ [])
unfolding joined_bits selection bits_of
entry_4 word six is = is

entry_5 : (word six : ℕ) → bits_of 32 word ≡ joined_bits 5 (bits_of 6 six)
    → HasFours word (0 ∷ 0 ∷ 0 ∷ 0 ∷ found s5 six ∷ 0 ∷ 0 ∷ 0 ∷ [])
unfolding joined_bits selection bits_of
entry_5 word six is = is

entry_6 : (word six : ℕ) → bits_of 32 word ≡ joined_bits 6 (bits_of 6 six)
    → HasFours word (0 ∷ 0 ∷ 0 ∷ 0 ∷ 0 ∷ found s6 six ∷ 0 ∷ 0 ∷ [])
unfolding joined_bits selection bits_of
entry_6 word six is = is

entry_7 : (word six : ℕ) → bits_of 32 word ≡ joined_bits 7 (bits_of 6 six)
    → HasFours word (0 ∷ 0 ∷ 0 ∷ 0 ∷ 0 ∷ 0 ∷ found s7 six ∷ 0 ∷ [])
unfolding joined_bits selection bits_of
entry_7 word six is = is

entry_8 : (word six : ℕ) → bits_of 32 word ≡ joined_bits 8 (bits_of 6 six)
    → HasFours word (0 ∷ 0 ∷ 0 ∷ 0 ∷ 0 ∷ 0 ∷ 0 ∷ found s8 six ∷ [])
unfolding joined_bits selection bits_of
entry_8 word six is = is

-- four words by the exclusive or, four by the or, and all by the exclusive or, where each has a four of its own
eight_words : (e1 e2 e3 e4 e5 e6 e7 e8 v1 v2 v3 v4 v5 v6 v7 v8 : ℕ)
    → HasFours e1 (v1 ∷ 0 ∷ 0 ∷ 0 ∷ 0 ∷ 0 ∷ 0 ∷ 0 ∷ [])
    → HasFours e2 (0 ∷ v2 ∷ 0 ∷ 0 ∷ 0 ∷ 0 ∷ 0 ∷ 0 ∷ [])
    → HasFours e3 (0 ∷ 0 ∷ v3 ∷ 0 ∷ 0 ∷ 0 ∷ 0 ∷ 0 ∷ [])
    → HasFours e4 (0 ∷ 0 ∷ 0 ∷ v4 ∷ 0 ∷ 0 ∷ 0 ∷ 0 ∷ [])
    → HasFours e5 (0 ∷ 0 ∷ 0 ∷ 0 ∷ v5 ∷ 0 ∷ 0 ∷ 0 ∷ [])
    → HasFours e6 (0 ∷ 0 ∷ 0 ∷ 0 ∷ 0 ∷ v6 ∷ 0 ∷ 0 ∷ [])
    → HasFours e7 (0 ∷ 0 ∷ 0 ∷ 0 ∷ 0 ∷ 0 ∷ v7 ∷ 0 ∷ [])
    → HasFours e8 (0 ∷ 0 ∷ 0 ∷ 0 ∷ 0 ∷ 0 ∷ 0 ∷ v8 ∷ [])
    → HasFours (bit_xor (bit_xor (bit_xor (bit_xor e1 e7) e5) e3) (bit_or (bit_or (bit_or e8 e6) e4) e2))
    (v1 ∷ v2 ∷ v3 ∷ v4 ∷ v5 ∷ v6 ∷ v7 ∷ v8 ∷ [])
unfolding zipped
eight_words e1 e2 e3 e4 e5 e6 e7 e8 v1 v2 v3 v4 v5 v6 v7 v8 h1 h2 h3 h4 h5 h6 h7 h8 =
    let r1 : List ℕ = v1 ∷ 0 ∷ 0 ∷ 0 ∷ 0 ∷ 0 ∷ 0 ∷ 0 ∷ [] in
    let r2 : List ℕ = 0 ∷ v2 ∷ 0 ∷ 0 ∷ 0 ∷ 0 ∷ 0 ∷ 0 ∷ [] in
    let r3 : List ℕ = 0 ∷ 0 ∷ v3 ∷ 0 ∷ 0 ∷ 0 ∷ 0 ∷ 0 ∷ [] in
    let r4 : List ℕ = 0 ∷ 0 ∷ 0 ∷ v4 ∷ 0 ∷ 0 ∷ 0 ∷ 0 ∷ [] in
    let r5 : List ℕ = 0 ∷ 0 ∷ 0 ∷ 0 ∷ v5 ∷ 0 ∷ 0 ∷ 0 ∷ [] in
    let r6 : List ℕ = 0 ∷ 0 ∷ 0 ∷ 0 ∷ 0 ∷ v6 ∷ 0 ∷ 0 ∷ [] in
    let r7 : List ℕ = 0 ∷ 0 ∷ 0 ∷ 0 ∷ 0 ∷ 0 ∷ v7 ∷ 0 ∷ [] in
    let r8 : List ℕ = 0 ∷ 0 ∷ 0 ∷ 0 ∷ 0 ∷ 0 ∷ 0 ∷ v8 ∷ [] in
    let x = put_together bit_xor xor_is_bitwise in
    let o = put_together bit_or or_is_bitwise in
    let odds = zipped bit_xor (zipped bit_xor (zipped bit_xor r1 r7) r5) r3 in
    let evens = zipped bit_or (zipped bit_or (zipped bit_or r8 r6) r4) r2 in
    let e17 = bit_xor e1 e7 in
    let r17 = zipped bit_xor r1 r7 in
    let e86 = bit_or e8 e6 in
    let r86 = zipped bit_or r8 r6 in
    let odd = x (bit_xor e17 e5) e3 (zipped bit_xor r17 r5) r3 refl (x e17 e5 r17 r5 refl (x e1 e7 r1 r7 refl h1 h7) h5) h3 in
    let even = o (bit_or e86 e4) e2 (zipped bit_or r86 r4) r2 refl (o e86 e4 r86 r4 refl (o e8 e6 r8 r6 refl h8 h6) h4) h2 in
    let alone : zipped bit_xor odds evens ≡ v1 ∷ v2 ∷ v3 ∷ v4 ∷ v5 ∷ v6 ∷ v7 ∷ v8 ∷ [] = simp (xor_zero_r, or_zero_r) refl in
    x (bit_xor (bit_xor e17 e5) e3) (bit_or (bit_or e86 e4) e2) odds evens refl odd even ∙ ap (λ vs. bits_by_table round_permutation (fours vs)) alone

-- the entries for six bits each
pub eight_entries : (e1 e2 e3 e4 e5 e6 e7 e8 i1 i2 i3 i4 i5 i6 i7 i8 : ℕ)
    → bits_of 32 e1 ≡ joined_bits 1 (bits_of 6 i1) → bits_of 32 e2 ≡ joined_bits 2 (bits_of 6 i2)
    → bits_of 32 e3 ≡ joined_bits 3 (bits_of 6 i3) → bits_of 32 e4 ≡ joined_bits 4 (bits_of 6 i4)
    → bits_of 32 e5 ≡ joined_bits 5 (bits_of 6 i5) → bits_of 32 e6 ≡ joined_bits 6 (bits_of 6 i6)
    → bits_of 32 e7 ≡ joined_bits 7 (bits_of 6 i7) → bits_of 32 e8 ≡ joined_bits 8 (bits_of 6 i8)
    → HasFours (bit_xor (bit_xor (bit_xor (bit_xor e1 e7) e5) e3) (bit_or (bit_or (bit_or e8 e6) e4) e2))
    (found s1 i1 ∷ found s2 i2 ∷ found s3 i3 ∷ found s4 i4 ∷ found s5 i5 ∷ found s6 i6 ∷ found s7 i7 ∷ found s8 i8 ∷ [])
eight_entries e1 e2 e3 e4 e5 e6 e7 e8 i1 i2 i3 i4 i5 i6 i7 i8 h1 h2 h3 h4 h5 h6 h7 h8 =
    eight_words e1 e2 e3 e4 e5 e6 e7 e8 (found s1 i1) (found s2 i2) (found s3 i3) (found s4 i4) (found s5 i5) (found s6 i6) (found s7 i7) (found s8 i8)
    (entry_1 e1 i1 h1) (entry_2 e2 i2 h2) (entry_3 e3 i3 h3) (entry_4 e4 i4 h4) (entry_5 e5 i5 h5) (entry_6 e6 i6 h6) (entry_7 e7 i7 h7) (entry_8 e8 i8 h8)

-- what the selection functions give for 48 bits, by their sixes
pub selections_by_sixes : (bits : List ℕ) (i1 i2 i3 i4 i5 i6 i7 i8 : ℕ)
    → bits_of 6 i1 ≡ take 6 (drop 0 bits) → bits_of 6 i2 ≡ take 6 (drop 6 bits) → bits_of 6 i3 ≡ take 6 (drop 12 bits)
    → bits_of 6 i4 ≡ take 6 (drop 18 bits) → bits_of 6 i5 ≡ take 6 (drop 24 bits) → bits_of 6 i6 ≡ take 6 (drop 30 bits)
    → bits_of 6 i7 ≡ take 6 (drop 36 bits) → bits_of 6 i8 ≡ take 6 (drop 42 bits)
    → selections selection_functions bits
    ≡ fours (found s1 i1 ∷ found s2 i2 ∷ found s3 i3 ∷ found s4 i4 ∷ found s5 i5 ∷ found s6 i6 ∷ found s7 i7 ∷ found s8 i8 ∷ [])
unfolding selections selection
selections_by_sixes bits i1 i2 i3 i4 i5 i6 i7 i8 h1 h2 h3 h4 h5 h6 h7 h8 = rw (h1, h2, h3, h4, h5, h6, h7, h8) (simp drop-drop refl)
