-- The Data Encryption Standard (FIPS 46-3) on lists of bits: a block and a key are 64 bits each.
use Rattle.std.specs.Prelude.{ℕ, ◌+◌, ◌*◌, ◌-◌, List, [], ◌∷◌, ◌++◌, take, drop, map, reverse, slice_index, slice_index_or}
use Rattle.des_core.specs.Bits.{bits_of, bits_of_bytes, bytes_of_bits, number_of}
use Rattle.pad_words.specs.Bytes.{exclusive_or}
use Rattle.des_core.specs.Permutations.{initial_permutation, final_permutation, bit_selection, round_permutation}
use Rattle.des_core.specs.KeyTables.{permuted_choice_1, permuted_choice_2, left_shifts}
use Rattle.des_core.specs.SelectionFunctions.{selection_functions}

-- the bits at the places that a table gives, where places count from 1
unfoldable pub bits_by_table : List ℕ → List ℕ → List ℕ
bits_by_table table bits = map (λ place. slice_index bits (place - 1)) table

-- the row that six bits b1 to b6 select: b1 b6
unfoldable pub row_of : List ℕ → ℕ
row_of six = 2 * slice_index six 0 + slice_index six 5

-- the column that six bits b1 to b6 select: b2 b3 b4 b5
unfoldable pub column_of : List ℕ → ℕ
column_of six = 8 * slice_index six 1 + 4 * slice_index six 2 + 2 * slice_index six 3 + slice_index six 4

-- the four bits that a selection function gives for six bits
unfoldable pub selection : List (List ℕ) → List ℕ → List ℕ
selection rows six = bits_of 4 (slice_index (slice_index_or rows (row_of six) []) (column_of six))

-- what selection functions give, each for the next six bits
unfoldable pub selections : List (List (List ℕ)) → List ℕ → List ℕ
selections [] bits = []
selections (rows ∷ others) bits = selection rows (take 6 bits) ++ selections others (drop 6 bits)

-- the cipher function f(R, K) of half a block and a round key (FIPS 46-3, The Cipher Function f)
unfoldable pub cipher_function : List ℕ → List ℕ → List ℕ
cipher_function half round_key =
    bits_by_table round_permutation
    (selections selection_functions (exclusive_or (bits_by_table bit_selection half) round_key))

-- the halves after a round for each key, the right half first (FIPS 46-3, Enciphering)
unfoldable pub after_rounds : List (List ℕ) → List ℕ → List ℕ → List ℕ
after_rounds [] left right = right ++ left
after_rounds (key ∷ keys) left right = after_rounds keys right (exclusive_or left (cipher_function right key))

-- the preoutput: a permuted block after a round for each key (FIPS 46-3, Enciphering)
unfoldable pub preoutput : List (List ℕ) → List ℕ → List ℕ
preoutput keys block = after_rounds keys (take 32 block) (drop 32 block)

-- the output block for an input block and round keys in the order of their use (FIPS 46-3, Enciphering)
unfoldable pub output_block : List (List ℕ) → List ℕ → List ℕ
output_block keys block =
    bits_by_table final_permutation (preoutput keys (bits_by_table initial_permutation block))

-- a rotation to the left
unfoldable pub left_rotation : ℕ → List ℕ → List ℕ
left_rotation count bits = drop count bits ++ take count bits

-- the round keys of the halves C and D, one for each number of left shifts (FIPS 46-3, Appendix 1)
unfoldable pub round_keys_from : List ℕ → List ℕ → List ℕ → List (List ℕ)
round_keys_from [] c d = []
round_keys_from (count ∷ counts) c d =
    let next_c = left_rotation count c in
    let next_d = left_rotation count d in
    bits_by_table permuted_choice_2 (next_c ++ next_d) ∷ round_keys_from counts next_c next_d

-- the key schedule: the round keys K1 to K16 of a key (FIPS 46-3, Appendix 1)
unfoldable pub round_keys : List ℕ → List (List ℕ)
round_keys key =
    let chosen = bits_by_table permuted_choice_1 key in
    round_keys_from left_shifts (take 28 chosen) (drop 28 chosen)

-- a block enciphered: the round keys in the order K1 to K16 (FIPS 46-3, Enciphering)
unfoldable pub des : List ℕ → List ℕ → List ℕ
des key block = output_block (round_keys key) block

-- a block deciphered: the round keys in the order K16 to K1 (FIPS 46-3, Deciphering)
unfoldable pub des_back : List ℕ → List ℕ → List ℕ
des_back key block = output_block (reverse (round_keys key)) block

-- eight bytes enciphered by a key of eight bytes
unfoldable pub des_bytes : List ℕ → List ℕ → List ℕ
des_bytes key block = bytes_of_bits 8 (des (bits_of_bytes key) (bits_of_bytes block))

-- eight bytes deciphered by a key of eight bytes
unfoldable pub des_back_bytes : List ℕ → List ℕ → List ℕ
des_back_bytes key block = bytes_of_bits 8 (des_back (bits_of_bytes key) (bits_of_bytes block))

-- a block enciphered by a key, each written as one number of 64 bits
unfoldable pub des_number : ℕ → ℕ → ℕ
des_number key block = number_of (des (bits_of 64 key) (bits_of 64 block))
