-- The test of torn bytes.
use Rattle.disk_core.specs.DiskStates.{splice}
use Rattle.nv_store.proofs.CellLemmas.{Splices}
use Rattle.nv_store.proofs.ReplaceLemmas.{one_byte}
use Rattle.nv_store.specs.Cells.{IsTorn, is_torn, place_of, spare, staged}
use Rattle.std.proofs.Common.{ap, arith, inl, inr, refl, sym, ⊎_elim, ◌∙◌, ◌⊎◌}
use Rattle.std.proofs.lemmas.List.{length-drop, length-take-le}
use Rattle.std.proofs.lemmas.Slice.Eq.{bytes_eq-Decides}
use Rattle.std.specs.Prelude.{Bool, IsTrue, List, [], bytes_eq, drop, false, length, slice_range, true, ℕ, ◌+◌, ◌-◌, ◌<◌, ◌||◌, ◌∷◌, ◌≡◌, ◌≤◌}

or_left : (x y : Bool) → x ≡ true → (x || y) ≡ true
or_left true y e = refl
or_left false y e = cc

or_right : (x y : Bool) → y ≡ true → (x || y) ≡ true
or_right true y e = refl
or_right false y e = e

or_either : (x y : Bool) → (x || y) ≡ true → (x ≡ true) ⊎ (y ≡ true)
or_either true y e = inl refl
or_either false y e = inr e

module _ (law : Splices) (bytes : List ℕ) (slot : ℕ) (cell : List ℕ) (size : length bytes ≡ 12352) (below : slot < 64) where
  abbrev half : ℕ
  half = place_of slot (spare bytes slot)

  -- with the half of these bytes
  abbrev by_half : List ℕ → List ℕ
  by_half torn = splice bytes half (slice_range torn half (half + 96))

  -- with the selector of these bytes
  abbrev by_selector : List ℕ → List ℕ
  by_selector torn = splice (staged bytes slot cell) slot (slice_range torn slot (slot + 1))

  is_torn-is : (torn : List ℕ) → is_torn bytes slot cell torn ≡ (bytes_eq torn (by_half torn) || bytes_eq torn (by_selector torn))
  unfolding is_torn
  is_torn-is torn = refl

  half_fits : (part : List ℕ) → length part ≡ 96 → half + length part ≤ length bytes
  half_fits part is = omega (arith, is, size, below)

  pub is_torn-IsTorn : length cell ≡ 96 → (torn : List ℕ) → IsTorn bytes slot cell torn → IsTrue (is_torn bytes slot cell torn)
  is_torn-IsTorn long torn (inl within) =
      let same : slice_range torn half (half + 96) ≡ within.part = ap (λ (l : List ℕ). slice_range l half (half + 96)) within.whole ∙ law.range bytes half within.part (half_fits within.part within.size) (half + 96) (omega (arith, within.size)) in
      is_torn-is torn ∙ or_left (bytes_eq torn (by_half torn)) (bytes_eq torn (by_selector torn))
      ((bytes_eq-Decides torn (by_half torn)).1 (within.whole ∙ ap (λ (l : List ℕ). splice bytes half l) (sym same)))
  is_torn-IsTorn long torn (inr selected) =
      let staged_long : length (staged bytes slot cell) ≡ 12352 = law.size bytes half cell (half_fits cell long) ∙ size in
      let same : slice_range torn slot (slot + 1) ≡ selected.0 ∷ [] = ap (λ (l : List ℕ). slice_range l slot (slot + 1)) selected.1 ∙ law.range (staged bytes slot cell) slot (selected.0 ∷ []) (omega (arith, staged_long, below)) (slot + 1) (omega arith) in
      is_torn-is torn ∙ or_right (bytes_eq torn (by_half torn)) (bytes_eq torn (by_selector torn))
      ((bytes_eq-Decides torn (by_selector torn)).1 (selected.1 ∙ ap (λ (l : List ℕ). splice (staged bytes slot cell) slot l) (sym same)))

  -- bytes of another length may pass the test
  pub IsTorn-is_torn : (torn : List ℕ) → length torn ≡ 12352 → IsTrue (is_torn bytes slot cell torn) → IsTorn bytes slot cell torn
  IsTorn-is_torn torn long e = ⊎_elim
      (λ in_half. inl (record { part = slice_range torn half (half + 96); size = range_long half 96 (omega (arith, below)); whole = (bytes_eq-Decides torn (by_half torn)).0 in_half }))
      (λ at_selector.
      let one = one_byte (slice_range torn slot (slot + 1)) (range_long slot 1 (omega (arith, below))) in
      inr (one.0, (bytes_eq-Decides torn (by_selector torn)).0 at_selector ∙ ap (λ (l : List ℕ). splice (staged bytes slot cell) slot l) one.1))
      (or_either (bytes_eq torn (by_half torn)) (bytes_eq torn (by_selector torn)) (sym (is_torn-is torn) ∙ e))
    where
      range_long : (at n : ℕ) → at + n ≤ 12352 → length (slice_range torn at (at + n)) ≡ n
      range_long at n fits = length-take-le (at + n - at) (drop at torn) (omega (arith, fits, long, length-drop at torn)) ∙ omega arith
