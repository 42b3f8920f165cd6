-- Deciphering undoes enciphering: a round is undone by the same round, whatever the cipher function is.
use Rattle.std.proofs.Common.{◌≡◌, ℕ, suc, ◌-◌, ◌<◌, List, [], ◌∷◌, ◌++◌, length, get_or, take, drop, reverse, refl, sym, ap, ◌∙◌, arith}
use Rattle.std.specs.List.{range_with_len}
use Rattle.std.specs.Int.RustNames.{bit_xor}
use Rattle.std.specs.Int.Bits.{xor_self, xor_assoc, xor_zero_r}
use Rattle.std.proofs.lemmas.List.{length-append, length-take-le, length-drop, take_at, drop_at, take-append-drop, reverse-append, reverse-reverse}
use Rattle.des_core.specs.Bits.{bits_of, bits_of_bytes}
use Rattle.pad_words.specs.Bytes.{exclusive_or}
use Rattle.des_core.specs.Permutations.{initial_permutation, final_permutation, round_permutation}
use Rattle.des_core.specs.SelectionFunctions.{selection_functions}
use Rattle.des_core.specs.Des.{bits_by_table, selection, selections, cipher_function, after_rounds, preoutput, output_block, round_keys, des, des_back, des_bytes, des_back_bytes}
use Rattle.des_core.proofs.TableLemmas.{length-bits_by_table, bits_by_table-bits_by_table, bits_by_table-in_order}
use Rattle.des_core.proofs.ByteLemmas.{AreBits, AreBits-append, AreBits-bits_of, AreBits-bits_of_bytes, AreBits-drop, AreBits-exclusive_or, AreBits-get_or, AreBits-take, bits_of_bytes-bytes_of_bits, bytes_of_bits-bits_of_bytes, length-bits_of_bytes}
use Rattle.des_core.proofs.RoundLemmas.{same_two}

length-cipher_function : (half key : List ℕ) → length (cipher_function half key) ≡ 32
unfolding cipher_function
length-cipher_function half key = length-bits_by_table round_permutation _

pub length-exclusive_or : (xs ys : List ℕ) → length xs ≡ length ys → length (exclusive_or xs ys) ≡ length xs
unfolding exclusive_or
length-exclusive_or [] ys same = refl
length-exclusive_or (x ∷ xs) [] same = cc
length-exclusive_or (x ∷ xs) (y ∷ ys) same = ap suc (length-exclusive_or xs ys (omega arith))

-- a second exclusive or with the same bits undoes the first
pub exclusive_or-exclusive_or : (xs ys : List ℕ) → length xs ≡ length ys → exclusive_or (exclusive_or xs ys) ys ≡ xs
unfolding exclusive_or
exclusive_or-exclusive_or [] ys same = refl
exclusive_or-exclusive_or (x ∷ xs) [] same = cc
exclusive_or-exclusive_or (x ∷ xs) (y ∷ ys) same =
    let one : bit_xor (bit_xor x y) y ≡ x = xor_assoc x y y ∙ (ap (bit_xor x) (xor_self y) ∙ xor_zero_r x) in
    rw (one, exclusive_or-exclusive_or xs ys (omega arith)) refl

-- the halves after the rounds
last_left : List (List ℕ) → List ℕ → List ℕ → List ℕ
last_left [] left right = left
last_left (k ∷ ks) left right = last_left ks right (exclusive_or left (cipher_function right k))

last_right : List (List ℕ) → List ℕ → List ℕ → List ℕ
last_right [] left right = right
last_right (k ∷ ks) left right = last_right ks right (exclusive_or left (cipher_function right k))

after_rounds_are : (ks : List (List ℕ)) (left right : List ℕ)
    → after_rounds ks left right ≡ last_right ks left right ++ last_left ks left right
unfolding after_rounds last_left last_right
after_rounds_are [] left right = refl
after_rounds_are (k ∷ ks) left right = after_rounds_are ks right (exclusive_or left (cipher_function right k))

length-round : (left right k : List ℕ) → length left ≡ 32 → length (exclusive_or left (cipher_function right k)) ≡ 32
length-round left right k long =
    length-exclusive_or left (cipher_function right k) (long ∙ sym (length-cipher_function right k)) ∙ long

length-last : (ks : List (List ℕ)) (left right : List ℕ) → length left ≡ 32 → length right ≡ 32
    → (length (last_left ks left right) ≡ 32) × (length (last_right ks left right) ≡ 32)
unfolding last_left last_right
length-last [] left right left_long right_long = (left_long, right_long)
length-last (k ∷ ks) left right left_long right_long =
    length-last ks right (exclusive_or left (cipher_function right k)) right_long (length-round left right k left_long)

-- one key more at the end
last-push : (ks : List (List ℕ)) (k left right : List ℕ)
    → (last_left (ks ++ k ∷ []) left right ≡ last_right ks left right)
    × (last_right (ks ++ k ∷ []) left right ≡ exclusive_or (last_left ks left right) (cipher_function (last_right ks left right) k))
unfolding last_left last_right
last-push [] k left right = (refl, refl)
last-push (first ∷ ks) k left right = last-push ks k right (exclusive_or left (cipher_function right first))

reverse-cons : (k : List ℕ) (ks : List (List ℕ)) → reverse (k ∷ ks) ≡ reverse ks ++ k ∷ []
reverse-cons k ks = reverse-append (k ∷ []) ks

-- the rounds with the keys reversed, from the halves exchanged, give the halves exchanged
rounds_undone : (ks : List (List ℕ)) (left right : List ℕ) → length left ≡ 32 → length right ≡ 32
    → (last_left (reverse ks) (last_right ks left right) (last_left ks left right) ≡ right)
    × (last_right (reverse ks) (last_right ks left right) (last_left ks left right) ≡ left)
unfolding last_left last_right
rounds_undone [] left right left_long right_long = (refl, refl)
rounds_undone (k ∷ ks) left right left_long right_long =
    let next = exclusive_or left (cipher_function right k) in
    let next_long : length next ≡ 32 = length-round left right k left_long in
    let rest = rounds_undone ks right next right_long next_long in
    let push = last-push (reverse ks) k (last_right ks right next) (last_left ks right next) in
    let back : exclusive_or next (cipher_function right k) ≡ left =
    exclusive_or-exclusive_or left (cipher_function right k) (left_long ∙ sym (length-cipher_function right k)) in (
      rw (reverse-cons k ks) (push.0 ∙ rest.1),
      rw (reverse-cons k ks) (push.1 ∙ (same_two (λ x y. exclusive_or x (cipher_function y k)) rest.0 rest.1 ∙ back)),
    )

preoutput-preoutput : (ks : List (List ℕ)) (block : List ℕ) → length block ≡ 64
    → preoutput (reverse ks) (preoutput ks block) ≡ block
unfolding preoutput
preoutput-preoutput ks block long =
    let left = take 32 block in
    let right = drop 32 block in
    let left_long : length left ≡ 32 = length-take-le 32 block (omega arith) in
    let right_long : length right ≡ 32 = length-drop 32 block ∙ omega arith in
    let there : after_rounds ks left right ≡ last_right ks left right ++ last_left ks left right = after_rounds_are ks left right in
    let half_long = (length-last ks left right left_long right_long).1 in
    let back = rounds_undone ks left right left_long right_long in
    same_two (after_rounds (reverse ks)) (ap (take 32) there ∙ take_at _ _ 32 half_long) (ap (drop 32) there ∙ drop_at _ _ 32 half_long)
    ∙ (after_rounds_are (reverse ks) (last_right ks left right) (last_left ks left right)
    ∙ (same_two (λ x z. x ++ z) back.1 back.0 ∙ take-append-drop 32 block))

length-preoutput : (ks : List (List ℕ)) (block : List ℕ) → length block ≡ 64 → length (preoutput ks block) ≡ 64
unfolding preoutput
length-preoutput ks block long =
    let left = take 32 block in
    let right = drop 32 block in
    let left_long : length left ≡ 32 = length-take-le 32 block (omega arith) in
    let right_long : length right ≡ 32 = length-drop 32 block ∙ omega arith in
    let halves_long = length-last ks left right left_long right_long in
    ap length (after_rounds_are ks left right)
    ∙ (length-append (last_right ks left right) (last_left ks left right) ∙ omega (arith, halves_long))

-- each of the two permutations of a block undoes the other
initial_after_final : bits_by_table initial_permutation final_permutation ≡ range_with_len 1 64
unfolding bits_by_table
initial_after_final = refl

final_after_initial : bits_by_table final_permutation initial_permutation ≡ range_with_len 1 64
unfolding bits_by_table
final_after_initial = refl

pub initial_undoes_final : (bits : List ℕ) → length bits ≡ 64
    → bits_by_table initial_permutation (bits_by_table final_permutation bits) ≡ bits
initial_undoes_final bits long =
    bits_by_table-bits_by_table initial_permutation final_permutation bits refl
    ∙ (ap (λ table. bits_by_table table bits) initial_after_final ∙ bits_by_table-in_order bits 64 long)

pub final_undoes_initial : (bits : List ℕ) → length bits ≡ 64
    → bits_by_table final_permutation (bits_by_table initial_permutation bits) ≡ bits
final_undoes_initial bits long =
    bits_by_table-bits_by_table final_permutation initial_permutation bits refl
    ∙ (ap (λ table. bits_by_table table bits) final_after_initial ∙ bits_by_table-in_order bits 64 long)

output_block-output_block : (ks : List (List ℕ)) (block : List ℕ) → length block ≡ 64
    → output_block (reverse ks) (output_block ks block) ≡ block
unfolding output_block
output_block-output_block ks block long =
    let permuted = bits_by_table initial_permutation block in
    let permuted_long : length permuted ≡ 64 = length-bits_by_table initial_permutation block in
    ap (λ z. bits_by_table final_permutation (preoutput (reverse ks) z))
    (initial_undoes_final (preoutput ks permuted) (length-preoutput ks permuted permuted_long))
    ∙ (ap (bits_by_table final_permutation) (preoutput-preoutput ks permuted permuted_long) ∙ final_undoes_initial block long)

pub length-des : (key block : List ℕ) → length (des key block) ≡ 64
unfolding des output_block
length-des key block = length-bits_by_table final_permutation _

pub length-des_back : (key block : List ℕ) → length (des_back key block) ≡ 64
unfolding des_back output_block
length-des_back key block = length-bits_by_table final_permutation _

pub des_back-des : (key block : List ℕ) → length block ≡ 64 → des_back key (des key block) ≡ block
unfolding des des_back
des_back-des key block long = output_block-output_block (round_keys key) block long

pub des-des_back : (key block : List ℕ) → length block ≡ 64 → des key (des_back key block) ≡ block
unfolding des des_back
des-des_back key block long =
    ap (λ ks. output_block ks (output_block (reverse (round_keys key)) block)) (sym (reverse-reverse (round_keys key)))
    ∙ output_block-output_block (reverse (round_keys key)) block long

pub AreBits-bits_by_table : (table bits : List ℕ) → AreBits bits → AreBits (bits_by_table table bits)
unfolding bits_by_table
AreBits-bits_by_table [] bits are = tt
AreBits-bits_by_table (place ∷ places) bits are = (AreBits-get_or bits (place - 1) are, AreBits-bits_by_table places bits are)

AreBits-selections : (functions : List (List (List ℕ))) (bits : List ℕ) → AreBits (selections functions bits)
unfolding selections selection
AreBits-selections [] bits = tt
AreBits-selections (rows ∷ others) bits =
    AreBits-append (bits_of 4 _) (selections others (drop 6 bits)) (AreBits-bits_of 4 _) (AreBits-selections others (drop 6 bits))

AreBits-cipher_function : (half key : List ℕ) → AreBits (cipher_function half key)
unfolding cipher_function
AreBits-cipher_function half key = AreBits-bits_by_table round_permutation _ (AreBits-selections selection_functions _)

AreBits-after_rounds : (ks : List (List ℕ)) (left right : List ℕ) → AreBits left → AreBits right
    → AreBits (after_rounds ks left right)
unfolding after_rounds
AreBits-after_rounds [] left right left_bits right_bits = AreBits-append right left right_bits left_bits
AreBits-after_rounds (k ∷ ks) left right left_bits right_bits =
    AreBits-after_rounds ks right (exclusive_or left (cipher_function right k)) right_bits
    (AreBits-exclusive_or left (cipher_function right k) left_bits (AreBits-cipher_function right k))

AreBits-output_block : (ks : List (List ℕ)) (block : List ℕ) → AreBits block → AreBits (output_block ks block)
unfolding output_block preoutput
AreBits-output_block ks block are =
    let permuted = AreBits-bits_by_table initial_permutation block are in
    AreBits-bits_by_table final_permutation _ (AreBits-after_rounds ks _ _ (AreBits-take 32 _ permuted) (AreBits-drop 32 _ permuted))

pub AreBits-des : (key block : List ℕ) → AreBits block → AreBits (des key block)
unfolding des
AreBits-des key block are = AreBits-output_block (round_keys key) block are

pub AreBits-des_back : (key block : List ℕ) → AreBits block → AreBits (des_back key block)
unfolding des_back
AreBits-des_back key block are = AreBits-output_block (reverse (round_keys key)) block are

-- the same on bytes
pub des_back_bytes-des_bytes : (key block : List ℕ) → length block ≡ 8 → ((i : ℕ) → get_or block i 0 < 256)
    → des_back_bytes key (des_bytes key block) ≡ block
unfolding des_bytes des_back_bytes
des_back_bytes-des_bytes key block long small =
    let k = bits_of_bytes key in
    let bits = bits_of_bytes block in
    let back =
    bits_of_bytes-bytes_of_bits 8 (des k bits) (length-des k bits) (AreBits-des k bits (AreBits-bits_of_bytes block)) in
    rw (back, des_back-des k bits (length-bits_of_bytes block 8 long)) (bytes_of_bits-bits_of_bytes block 8 long small)

pub des_bytes-des_back_bytes : (key block : List ℕ) → length block ≡ 8 → ((i : ℕ) → get_or block i 0 < 256)
    → des_bytes key (des_back_bytes key block) ≡ block
unfolding des_bytes des_back_bytes
des_bytes-des_back_bytes key block long small =
    let k = bits_of_bytes key in
    let bits = bits_of_bytes block in
    let there =
    bits_of_bytes-bytes_of_bits 8 (des_back k bits) (length-des_back k bits) (AreBits-des_back k bits (AreBits-bits_of_bytes block)) in
    rw (there, des-des_back k bits (length-bits_of_bytes block 8 long)) (bytes_of_bits-bits_of_bytes block 8 long small)
