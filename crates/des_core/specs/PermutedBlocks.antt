-- A block that is kept in the order in which the rounds take it.
use Rattle.std.specs.Prelude.{ℕ, List}
use Rattle.des_core.specs.Bits.{bits_of, bytes_of_bits}
use Rattle.des_core.specs.Des.{bits_by_table}
use Rattle.des_core.specs.Permutations.{final_permutation}

-- the eight bytes of a block whose initial permutation is this word (FIPS 46-3, Enciphering)
unfoldable pub block_of_permuted : ℕ → List ℕ
block_of_permuted word = bytes_of_bits 8 (bits_by_table final_permutation (bits_of 64 word))
