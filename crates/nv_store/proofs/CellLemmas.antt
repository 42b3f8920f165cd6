-- The cells of torn bytes.
use Rattle.std.proofs.Common.{◌≡◌, ◌≢◌, ◌⊎◌, inl, inr, ⊎_elim, ℕ, ◌+◌, ◌-◌, ◌*◌, ◌%◌, ◌≤◌, ◌<◌, List, [], ◌∷◌, length, sym, ◌∙◌, ap, arith}
use Rattle.std.specs.Prelude.{slice_index, slice_range}
use Rattle.std.proofs.lemmas.Bool.{cases_lt, cases_eq}
use Rattle.disk_core.specs.DiskStates.{splice}
use Rattle.nv_store.specs.Cells.{HasNew, HasOldOrNew, IsTorn, cell_of, place_of, selected, spare, staged, with_cell}

-- what stands where in a list with other elements from a place on
pub record Splices : Type 0 where
  pub size : (b : List ℕ) (at : ℕ) (part : List ℕ) → at + length part ≤ length b → length (splice b at part) ≡ length b
  pub below : (b : List ℕ) (at : ℕ) (part : List ℕ) → at + length part ≤ length b → (i : ℕ) → i < at → slice_index (splice b at part) i ≡ slice_index b i
  pub inside : (b : List ℕ) (at : ℕ) (part : List ℕ) → at + length part ≤ length b → (i : ℕ) → at ≤ i → i < at + length part → slice_index (splice b at part) i ≡ slice_index part (i - at)
  pub above : (b : List ℕ) (at : ℕ) (part : List ℕ) → at + length part ≤ length b → (i : ℕ) → at + length part ≤ i → slice_index (splice b at part) i ≡ slice_index b i
  pub range : (b : List ℕ) (at : ℕ) (part : List ℕ) → at + length part ≤ length b → (k : ℕ) → k ≡ at + length part → slice_range (splice b at part) at k ≡ part
  pub range_apart : (b : List ℕ) (at : ℕ) (part : List ℕ) → at + length part ≤ length b → (i k : ℕ) → i ≤ k → k ≤ length b → (k ≤ at) ⊎ (at + length part ≤ i) → slice_range (splice b at part) i k ≡ slice_range b i k

module _ (law : Splices) (b : List ℕ) (slot : ℕ) (size : length b ≡ 12352) (in_range : slot < 64) where
  -- a part in one half leaves each other half
  module _ (half : ℕ) (part : List ℕ) (is_half : half < 2) (long : length part ≡ 96) where
    fits : place_of slot half + length part ≤ length b
    fits = omega arith

    pub size_part : length (splice b (place_of slot half) part) ≡ 12352
    size_part = law.size b (place_of slot half) part fits ∙ size

    pub selector_part : (j : ℕ) → j < 64 → slice_index (splice b (place_of slot half) part) j ≡ slice_index b j
    selector_part j lt = law.below b (place_of slot half) part fits j (omega arith)

    pub half_apart : (j h : ℕ) → j < 64 → h < 2 → 2 * j + h ≢ 2 * slot + half
        → slice_range (splice b (place_of slot half) part) (place_of j h) (place_of j h + 96) ≡ slice_range b (place_of j h) (place_of j h + 96)
    half_apart j h lt is_h apart = law.range_apart b (place_of slot half) part fits (place_of j h) (place_of j h + 96) (omega arith) (omega arith)
        (⊎_elim (λ below. inl (omega arith)) (λ le. inr (omega arith)) (cases_lt (2 * j + h) (2 * slot + half)))

    pub half_part : slice_range (splice b (place_of slot half) part) (place_of slot half) (place_of slot half + 96) ≡ part
    half_part = law.range b (place_of slot half) part fits (place_of slot half + 96) (omega arith)

  -- another selector leaves each half
  module _ (selector : ℕ) where
    fits_one : slot + length (selector ∷ []) ≤ length b
    fits_one = omega arith

    pub half_kept : (j h : ℕ) → j < 64 → h < 2 → slice_range (splice b slot (selector ∷ [])) (place_of j h) (place_of j h + 96) ≡ slice_range b (place_of j h) (place_of j h + 96)
    half_kept j h lt is_h = law.range_apart b slot (selector ∷ []) fits_one (place_of j h) (place_of j h + 96) (omega arith) (omega arith) (inr (omega arith))

    pub selector_kept : (j : ℕ) → j ≢ slot → slice_index (splice b slot (selector ∷ [])) j ≡ slice_index b j
    selector_kept j other = ⊎_elim
        (λ lt. law.below b slot (selector ∷ []) fits_one j lt)
        (λ le. law.above b slot (selector ∷ []) fits_one j (omega arith))
        (cases_lt j slot)

    pub selector_new : slice_index (splice b slot (selector ∷ [])) slot ≡ selector
    selector_new = let z : slot - slot ≡ 0 = omega arith in law.inside b slot (selector ∷ []) fits_one slot (omega arith) (omega arith) ∙ ap (λ (n : ℕ). slice_index (selector ∷ []) n) z

mod2 : (n : ℕ) → n % 2 < 2
mod2 n = omega arith

module _ (law : Splices) (b : List ℕ) (slot : ℕ) (cell : List ℕ) (size : length b ≡ 12352) (in_range : slot < 64) (long : length cell ≡ 96) where
  is_spare : spare b slot < 2
  is_spare = omega arith

  -- any bytes in the spare half
  cell_torn_half : (part : List ℕ) → length part ≡ 96 → (j : ℕ) → j < 64 → cell_of (splice b (place_of slot (spare b slot)) part) j ≡ cell_of b j
  cell_torn_half part long_part j lt =
      let d = splice b (place_of slot (spare b slot)) part in
      let same : selected d j ≡ selected b j = ap (λ (n : ℕ). n % 2) (selector_part law b slot size in_range (spare b slot) part is_spare long_part j lt) in
      ap (λ (h : ℕ). slice_range d (place_of j h) (place_of j h + 96)) same
      ∙ half_apart law b slot size in_range (spare b slot) part is_spare long_part j (selected b j) lt (mod2 (slice_index b j)) (apart j (cases_eq j slot))
    where
      apart : (j : ℕ) → (j ≡ slot) ⊎ (j ≢ slot) → 2 * j + selected b j ≢ 2 * slot + spare b slot
      apart j (inl same) = λ e. let s : selected b j ≡ selected b slot = ap (λ (n : ℕ). selected b n) same in omega arith
      apart j (inr other) = λ e. omega (arith, mod2 (slice_index b j), mod2 (slice_index b slot), other)

  size_staged : length (staged b slot cell) ≡ 12352
  size_staged = size_part law b slot size in_range (spare b slot) cell is_spare long

  -- the new cell, and any selector
  module _ (selector : ℕ) where
    abbrev torn : List ℕ
    torn = splice (staged b slot cell) slot (selector ∷ [])

    pub other_kept : (j : ℕ) → j < 64 → j ≢ slot → cell_of torn j ≡ cell_of b j
    other_kept j lt other =
        let same : selected torn j ≡ selected (staged b slot cell) j = ap (λ (n : ℕ). n % 2) (selector_kept law (staged b slot cell) slot size_staged in_range selector j other) in
        ap (λ (h : ℕ). slice_range torn (place_of j h) (place_of j h + 96)) same
        ∙ half_kept law (staged b slot cell) slot size_staged in_range selector j (selected (staged b slot cell) j) lt (mod2 (slice_index (staged b slot cell) j))
        ∙ cell_torn_half cell long j lt

    selected_new : selected torn slot ≡ selector % 2
    selected_new = ap (λ (n : ℕ). n % 2) (selector_new law (staged b slot cell) slot size_staged in_range selector)

    half_torn : (h : ℕ) → h < 2 → slice_range torn (place_of slot h) (place_of slot h + 96) ≡ slice_range (staged b slot cell) (place_of slot h) (place_of slot h + 96)
    half_torn h is_h = half_kept law (staged b slot cell) slot size_staged in_range selector slot h in_range is_h

    pub new_selected : selector % 2 ≡ spare b slot → cell_of torn slot ≡ cell
    new_selected is =
        ap (λ (h : ℕ). slice_range torn (place_of slot h) (place_of slot h + 96)) (selected_new ∙ is)
        ∙ half_torn (spare b slot) is_spare
        ∙ half_part law b slot size in_range (spare b slot) cell is_spare long

    pub old_selected : selector % 2 ≢ spare b slot → cell_of torn slot ≡ cell_of b slot
    old_selected is_not =
        let is : selector % 2 ≡ selected b slot = omega (arith, mod2 selector, mod2 (slice_index b slot), is_not) in
        ap (λ (h : ℕ). slice_range torn (place_of slot h) (place_of slot h + 96)) (selected_new ∙ is)
        ∙ half_torn (selected b slot) (mod2 (slice_index b slot))
        ∙ half_apart law b slot size in_range (spare b slot) cell is_spare long slot (selected b slot) in_range (mod2 (slice_index b slot)) (omega (arith, mod2 (slice_index b slot)))

  pub torn_cells : (d : List ℕ) → IsTorn b slot cell d → HasOldOrNew b slot cell d
  torn_cells d (inl within) j lt = inl (ap (λ (l : List ℕ). cell_of l j) within.whole ∙ cell_torn_half within.part within.size j lt)
  torn_cells d (inr (selector, is)) j lt = by_slot (cases_eq j slot) (cases_eq (selector % 2) (spare b slot))
    where
      by_slot : (j ≡ slot) ⊎ (j ≢ slot) → (selector % 2 ≡ spare b slot) ⊎ (selector % 2 ≢ spare b slot) → (cell_of d j ≡ cell_of b j) ⊎ ((j ≡ slot) × (cell_of d j ≡ cell))
      by_slot (inr other) which = inl (ap (λ (l : List ℕ). cell_of l j) is ∙ other_kept selector j lt other)
      by_slot (inl same) (inl new) = inr (same, ap (λ (l : List ℕ). cell_of l j) is ∙ ap (λ (n : ℕ). cell_of (torn selector) n) same ∙ new_selected selector new)
      by_slot (inl same) (inr old) = inl (ap (λ (l : List ℕ). cell_of l j) is ∙ ap (λ (n : ℕ). cell_of (torn selector) n) same ∙ old_selected selector old ∙ ap (λ (n : ℕ). cell_of b n) (sym same))

  pub replaced_cells : HasNew b slot cell (with_cell b slot cell)
  replaced_cells = record {
    changed = new_selected (spare b slot) (omega (arith, is_spare));
    others = λ j lt other. other_kept (spare b slot) j lt other;
  }
