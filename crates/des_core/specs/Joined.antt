-- The joined tables: a selection function and the permutation P in one.
use Rattle.std.specs.Prelude.{ℕ, ◌*◌, ◌-◌, List, [], ◌++◌, replicate, slice_index_or}
use Rattle.des_core.specs.Des.{bits_by_table, selection}
use Rattle.des_core.specs.Permutations.{round_permutation}
use Rattle.des_core.specs.SelectionFunctions.{selection_functions}

-- what S1 to S8, by its number, gives for six bits, permuted by P: its four bits stand at their place among 32, and zeros at
-- all other places (FIPS 46-3, The Cipher Function f)
unfoldable pub joined_bits : ℕ → List ℕ → List ℕ
joined_bits number six =
    bits_by_table round_permutation
    (replicate (4 * (number - 1)) 0 ++ selection (slice_index_or selection_functions (number - 1) []) six
    ++ replicate (32 - 4 * number) 0)
