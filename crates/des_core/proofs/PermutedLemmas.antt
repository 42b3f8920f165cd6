-- Blocks in the order of the rounds.
use Rattle.std.proofs.Common.{◌≡◌, ℕ, zero, suc, ◌*◌, ◌<◌, List, ◌∷◌, length, get_or, take, drop, refl, sym, ap, ◌∙◌, arith, mod-eq_of_lt}
use Rattle.std.specs.Int.RustNames.{bit_xor}
use Rattle.std.proofs.lemmas.Nat.{xor_lt}
use Rattle.std.proofs.lemmas.List.{length-drop, length-take-le}
use Rattle.des_core.specs.Bits.{bits_of, bits_of_bytes, bytes_of_bits, number_of}
use Rattle.pad_words.specs.Bytes.{exclusive_or}
use Rattle.des_core.specs.Permutations.{initial_permutation, final_permutation}
use Rattle.des_core.specs.Des.{bits_by_table, output_block, preoutput}
use Rattle.des_core.specs.PermutedBlocks.{block_of_permuted}
use Rattle.des_core.proofs.BitLemmas.{length-bits_of, bits_of-xor}
use Rattle.des_core.proofs.TableLemmas.{length-bits_by_table}
use Rattle.des_core.proofs.ByteLemmas.{AreBits, AreBits-bits_of, AreBits-drop, AreBits-take, bits_of-number_of, number_of-bits_of, number_of-lt, bits_of_bytes-bytes_of_bits, bytes_of_bits-bits_of_bytes, length-bits_of_bytes}
use Rattle.des_core.proofs.InverseLemmas.{AreBits-bits_by_table, final_undoes_initial, initial_undoes_final}
use Rattle.des_core.proofs.RoundLemmas.{same_two}
use Rattle.des_core.proofs.ZippedLemmas.{exclusive_or-zipped, bits_by_table-zipped, drop-exclusive_or, take-exclusive_or}

-- a word that holds the initial permutation of eight bytes is seen as those bytes
pub block_of_permuted-initial : (bytes : List ℕ) (word : ℕ) → length bytes ≡ 8 → ((i : ℕ) → get_or bytes i 0 < 256)
    → bits_of 64 word ≡ bits_by_table initial_permutation (bits_of_bytes bytes) → block_of_permuted word ≡ bytes
unfolding block_of_permuted
block_of_permuted-initial bytes word long small is =
    let bits = bits_of_bytes bytes in
    ap (λ b. bytes_of_bits 8 (bits_by_table final_permutation b)) is
    ∙ (ap (bytes_of_bits 8) (final_undoes_initial bits (length-bits_of_bytes bytes 8 long)) ∙ bytes_of_bits-bits_of_bytes bytes 8 long small)

bits_of-block_of_permuted : (word : ℕ) → bits_of_bytes (block_of_permuted word) ≡ bits_by_table final_permutation (bits_of 64 word)
unfolding block_of_permuted
bits_of-block_of_permuted word =
    bits_of_bytes-bytes_of_bits 8 (bits_by_table final_permutation (bits_of 64 word)) (length-bits_by_table final_permutation _)
    (AreBits-bits_by_table final_permutation (bits_of 64 word) (AreBits-bits_of 64 word))

-- the rounds take the block that is seen to its output block
pub block_of_permuted-preoutput : (keys : List (List ℕ)) (word next : ℕ) → bits_of 64 next ≡ preoutput keys (bits_of 64 word)
    → block_of_permuted next ≡ bytes_of_bits 8 (output_block keys (bits_of_bytes (block_of_permuted word)))
unfolding output_block block_of_permuted
block_of_permuted-preoutput keys word next is =
    let bits = bits_of 64 word in
    let permuted : bits_by_table initial_permutation (bits_of_bytes (block_of_permuted word)) ≡ bits =
    ap (bits_by_table initial_permutation) (bits_of-block_of_permuted word) ∙ initial_undoes_final bits (length-bits_of 64 word) in
    ap (λ b. bytes_of_bits 8 (bits_by_table final_permutation b)) (is ∙ ap (preoutput keys) (sym permuted))

number_of-exclusive_or : (xs ys : List ℕ) → AreBits xs → AreBits ys → length xs ≡ 8 → length ys ≡ 8
    → number_of (exclusive_or xs ys) ≡ bit_xor (number_of xs) (number_of ys)
number_of-exclusive_or xs ys xs_bits ys_bits xs_long ys_long =
    let x = number_of xs in
    let y = number_of ys in
    let same = same_two exclusive_or (bits_of-number_of xs 8 xs_long xs_bits) (bits_of-number_of ys 8 ys_long ys_bits) in
    ap number_of (sym same ∙ sym (bits_of-xor 8 x y))
    ∙ (number_of-bits_of 8 (bit_xor x y) ∙ mod-eq_of_lt (xor_lt 8 x y (number_of-lt xs xs_bits xs_long) (number_of-lt ys ys_bits ys_long)))

bytes_of_bits-exclusive_or : (k : ℕ) (xs ys : List ℕ) → AreBits xs → AreBits ys → length xs ≡ 8 * k → length ys ≡ 8 * k
    → bytes_of_bits k (exclusive_or xs ys) ≡ exclusive_or (bytes_of_bits k xs) (bytes_of_bits k ys)
unfolding bytes_of_bits exclusive_or
bytes_of_bits-exclusive_or zero xs ys xs_bits ys_bits xs_long ys_long = refl
bytes_of_bits-exclusive_or (suc k) xs ys xs_bits ys_bits xs_long ys_long =
    let first =
    ap number_of (take-exclusive_or 8 xs ys)
    ∙ number_of-exclusive_or (take 8 xs) (take 8 ys) (AreBits-take 8 xs xs_bits) (AreBits-take 8 ys ys_bits)
    (length-take-le 8 xs (omega arith)) (length-take-le 8 ys (omega arith)) in
    let rest =
    ap (bytes_of_bits k) (drop-exclusive_or 8 xs ys)
    ∙ bytes_of_bits-exclusive_or k (drop 8 xs) (drop 8 ys) (AreBits-drop 8 xs xs_bits) (AreBits-drop 8 ys ys_bits)
    (length-drop 8 xs ∙ omega arith) (length-drop 8 ys ∙ omega arith) in
    same_two (λ (b : ℕ) (bs : List ℕ). b ∷ bs) first rest

-- the exclusive or of two blocks in the order of the rounds is that of their bytes
pub block_of_permuted-exclusive_or : (a b : ℕ)
    → block_of_permuted (bit_xor a b) ≡ exclusive_or (block_of_permuted a) (block_of_permuted b)
unfolding block_of_permuted
block_of_permuted-exclusive_or a b =
    let of_a = bits_by_table final_permutation (bits_of 64 a) in
    let of_b = bits_by_table final_permutation (bits_of 64 b) in
    let both : bits_by_table final_permutation (bits_of 64 (bit_xor a b)) ≡ exclusive_or of_a of_b =
    ap (bits_by_table final_permutation) (bits_of-xor 64 a b ∙ exclusive_or-zipped (bits_of 64 a) (bits_of 64 b))
    ∙ (bits_by_table-zipped bit_xor final_permutation (bits_of 64 a) (bits_of 64 b) refl (length-bits_of 64 a ∙ sym (length-bits_of 64 b))
    ∙ sym (exclusive_or-zipped of_a of_b)) in
    ap (bytes_of_bits 8) both
    ∙ bytes_of_bits-exclusive_or 8 of_a of_b (AreBits-bits_by_table final_permutation _ (AreBits-bits_of 64 a))
    (AreBits-bits_by_table final_permutation _ (AreBits-bits_of 64 b)) (length-bits_by_table final_permutation _)
    (length-bits_by_table final_permutation _)
