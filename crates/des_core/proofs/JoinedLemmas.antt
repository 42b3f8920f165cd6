-- The joined tables, entry by entry.
use Rattle.std.proofs.Common.{◌≡◌, ℕ, ◌+◌, ◌-◌, ◌<◌, ◌≤◌, List, [], ◌∷◌, Bool, true, false, length, get_or, refl, ap, ◌∙◌, subst, arith, zero-add, IsTrue, nat_eq, ◌&&◌}
use Rattle.std.specs.List.{list_all, range_with_len}
use Rattle.std.proofs.lemmas.Grind.{common_steps}
use Rattle.std.proofs.lemmas.List.FromFn.{get_or-range_with_len, length-range_with_len}
use Rattle.des_core.specs.Bits.{bits_of}
use Rattle.des_core.specs.Des.{bits_by_table, row_of, column_of, selection}
use Rattle.des_core.specs.Joined.{joined_bits}
use Rattle.des_core.specs.declared.joined_tables.TheConstants.{JOINED}

-- what a test finds of each number below a bound
pub each_below : (p : ℕ → Bool) (n k : ℕ) → IsTrue (list_all p (range_with_len 0 n)) → k < n → IsTrue (p k)
each_below p n k all below =
    let at : get_or (range_with_len 0 n) k 0 ≡ 0 + k = get_or-range_with_len 0 n k 0 below in
    let P : ℕ → Type 0 = λ m. IsTrue (p m) in
    subst P (at ∙ zero-add k) (all_at p (range_with_len 0 n) k all (rw length-range_with_len below))
  where
    all_at : (p : ℕ → Bool) (xs : List ℕ) (i : ℕ) → IsTrue (list_all p xs) → i < length xs
        → IsTrue (p (get_or xs i 0))
    all_at p xs i all within = grind (arith, common_steps)

-- whether two lists are equal
abbrev pub are_equal : List ℕ → List ℕ → Bool
are_equal [] [] = true
are_equal [] (y ∷ ys) = false
are_equal (x ∷ xs) [] = false
are_equal (x ∷ xs) (y ∷ ys) = nat_eq x y && are_equal xs ys

pub eq-are_equal : (xs ys : List ℕ) → IsTrue (are_equal xs ys) → xs ≡ ys
eq-are_equal [] [] tested = refl
eq-are_equal [] (y ∷ ys) tested = cc
eq-are_equal (x ∷ xs) [] tested = cc
eq-are_equal (x ∷ xs) (y ∷ ys) tested =
    let first : x ≡ y = grind (arith, common_steps) in
    let rest : IsTrue (are_equal xs ys) = grind (arith, common_steps) in
    rw (first, eq-are_equal xs ys rest) refl

-- the entry for the selection function S`i + 1` and six bits is what the definition computes
abbrev entry_test : ℕ → ℕ → Bool
entry_test i six = are_equal (bits_of 32 (get_or (get_or JOINED i []) six 0)) (joined_bits (i + 1) (bits_of 6 six))

abbrev table_test : ℕ → Bool
table_test i = list_all (entry_test i) (range_with_len 0 64)

entries_tested : IsTrue (list_all table_test (range_with_len 0 8))
unfolding bits_of joined_bits bits_by_table selection row_of column_of
entries_tested = refl

pub entry_is : (number six : ℕ) → 1 ≤ number → number ≤ 8 → six < 64
    → bits_of 32 (get_or (get_or JOINED (number - 1) []) six 0) ≡ joined_bits number (bits_of 6 six)
entry_is number six first last small =
    let i = number - 1 in
    let same : i + 1 ≡ number = omega arith in
    eq-are_equal _ _ (each_below (entry_test i) 64 six (each_below table_test 8 i entries_tested (omega arith)) small)
    ∙ ap (λ n. joined_bits n (bits_of 6 six)) same
