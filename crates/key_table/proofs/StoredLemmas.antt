-- What a replacement, whole or torn, makes of the rows that bytes show.
use Rattle.disk_core.specs.DiskStates.{splice}
use Rattle.key_attributes.specs.declared.KeyRow.{KeyRow}
use Rattle.key_record.specs.Records.{IsRow, record_of, spelled}
use Rattle.key_table.proofs.ScanLemmas.{cells-rows_of, rows_of-cells}
use Rattle.key_table.specs.KeyRows.{KeyRows, put_row, row_in, with_row}
use Rattle.key_table.specs.StoredRows.{HasCells, ShowsOldOrNew, put_bytes, rows_of}
use Rattle.key_table.specs.Tables.{is_table}
use Rattle.nv_store.specs.Cells.{HasNew, HasOldOrNew, IsTorn, cell_of, place_of, spare, staged, with_cell}
use Rattle.std.proofs.Common.{ap, arith, inl, inr, sym, ⊎_elim, ◌∙◌, ◌⊎◌}
use Rattle.std.proofs.lemmas.Bool.{eq-eqb, eqb-false, eqb-true, false_from_ne_true}
use Rattle.std.specs.Prelude.{Bool, IsTrue, List, None, Option, Some, [], cond, false, if◌then◌else◌, length, nat_lt, not, refl, true, ℕ, ◌+◌, ◌<◌, ◌==◌, ◌∷◌, ◌≡◌, ◌≢◌, ◌≤◌}

-- the row in a slot after another one was replaced, and in that one

other_is : (a b : ℕ) → a ≢ b → (a == b) ≡ false
other_is a b apart = false_from_ne_true (a == b) (λ e. apart (eqb-true a b e))

emptied_own : (slot : ℕ) (rows : KeyRows) → row_in slot (put_row slot None rows) ≡ None
emptied_own slot [] = refl
emptied_own slot (r ∷ rows) = by (r.0 == slot) refl (emptied_own slot rows)
  where
    by : (b : Bool) → (r.0 == slot) ≡ b → row_in slot (put_row slot None rows) ≡ None → row_in slot (cond (not b) (r ∷ put_row slot None rows) (put_row slot None rows)) ≡ None
    by true e later = later
    by false e later = ap (λ (b : Bool). if b then Some r.1 else row_in slot (put_row slot None rows)) e ∙ later

emptied_other : (slot s : ℕ) (rows : KeyRows) → s ≢ slot → row_in s (put_row slot None rows) ≡ row_in s rows
emptied_other slot s [] apart = refl
emptied_other slot s (r ∷ rows) apart = by (r.0 == slot) refl (emptied_other slot s rows apart)
  where
    by : (b : Bool) → (r.0 == slot) ≡ b → row_in s (put_row slot None rows) ≡ row_in s rows → row_in s (cond (not b) (r ∷ put_row slot None rows) (put_row slot None rows)) ≡ row_in s (r ∷ rows)
    by true e later = later ∙ sym (ap (λ (b : Bool). if b then Some r.1 else row_in s rows) (other_is r.0 s (λ is. apart (sym is ∙ eqb-true r.0 slot e))))
    by false e later = ap (λ (o : Option KeyRow). if r.0 == s then Some r.1 else o) later

put_own : (slot : ℕ) (row : KeyRow) (rows : KeyRows) → row_in slot (with_row slot row rows) ≡ Some row
put_own slot row [] = ap (λ (b : Bool). if b then Some row else None) (eq-eqb slot slot refl)
put_own slot row (r ∷ rows) = by (nat_lt slot r.0) (slot == r.0) refl (put_own slot row rows)
  where
    by : (b c : Bool) → (slot == r.0) ≡ c → row_in slot (with_row slot row rows) ≡ Some row → row_in slot (if b then (slot, row) ∷ r ∷ rows else (if c then (slot, row) ∷ rows else r ∷ with_row slot row rows)) ≡ Some row
    by true c e later = ap (λ (b : Bool). if b then Some row else row_in slot (r ∷ rows)) (eq-eqb slot slot refl)
    by false true e later = ap (λ (b : Bool). if b then Some row else row_in slot rows) (eq-eqb slot slot refl)
    by false false e later = ap (λ (b : Bool). if b then Some r.1 else row_in slot (with_row slot row rows)) (other_is r.0 slot (λ is. eqb-false slot r.0 e (sym is))) ∙ later

put_other : (slot s : ℕ) (row : KeyRow) (rows : KeyRows) → s ≢ slot → row_in s (with_row slot row rows) ≡ row_in s rows
put_other slot s row [] apart = ap (λ (b : Bool). if b then Some row else None) (other_is slot s (λ is. apart (sym is)))
put_other slot s row (r ∷ rows) apart = by (nat_lt slot r.0) (slot == r.0) refl (put_other slot s row rows apart)
  where
    skipped : (l : KeyRows) → row_in s ((slot, row) ∷ l) ≡ row_in s l
    skipped l = ap (λ (b : Bool). if b then Some row else row_in s l) (other_is slot s (λ is. apart (sym is)))

    by : (b c : Bool) → (slot == r.0) ≡ c → row_in s (with_row slot row rows) ≡ row_in s rows → row_in s (if b then (slot, row) ∷ r ∷ rows else (if c then (slot, row) ∷ rows else r ∷ with_row slot row rows)) ≡ row_in s (r ∷ rows)
    by true c e later = skipped (r ∷ rows)
    by false true e later = skipped rows ∙ sym (ap (λ (b : Bool). if b then Some r.1 else row_in s rows) (other_is r.0 s (λ is. apart (sym is ∙ sym (eqb-true slot r.0 e)))))
    by false false e later = ap (λ (o : Option KeyRow). if r.0 == s then Some r.1 else o) later

row_own : (slot : ℕ) (row : Option KeyRow) (rows : KeyRows) → row_in slot (put_row slot row rows) ≡ row
row_own slot None rows = emptied_own slot rows
row_own slot (Some row) rows = put_own slot row rows

row_other : (slot s : ℕ) (row : Option KeyRow) (rows : KeyRows) → s ≢ slot → row_in s (put_row slot row rows) ≡ row_in s rows
row_other slot s None rows apart = emptied_other slot s rows apart
row_other slot s (Some row) rows apart = put_other slot s row rows apart

cases_is : (a b : ℕ) → (a ≡ b) ⊎ (a ≢ b)
cases_is a b = by (a == b) refl
  where
    by : (c : Bool) → (a == b) ≡ c → (a ≡ b) ⊎ (a ≢ b)
    by true e = inl (eqb-true a b e)
    by false e = inr (eqb-false a b e)

-- cells of which one has the new record, or all have the old one

module _ (read : (row : Option KeyRow) → IsRow row → record_of (spelled row) ≡ Some row) (b : List ℕ) (slot : ℕ) (row : Option KeyRow) (rows : KeyRows) (cells : HasCells b rows) (valid : IsRow row) where
  new_cells : (d : List ℕ) → HasNew b slot (spelled row) d → HasCells d (put_row slot row rows)
  new_cells d new s below = by (cases_is s slot)
    where
      by : (s ≡ slot) ⊎ (s ≢ slot) → record_of (cell_of d s) ≡ Some (row_in s (put_row slot row rows))
      by (inl is) = ap (λ (k : ℕ). record_of (cell_of d k)) is ∙ ap record_of new.changed ∙ read row valid ∙ ap (λ (o : Option KeyRow). Some o) (sym (row_own slot row rows)) ∙ ap (λ (k : ℕ). Some (row_in k (put_row slot row rows))) (sym is)
      by (inr apart) = ap record_of (new.others s below apart) ∙ cells s below ∙ ap (λ (o : Option KeyRow). Some o) (sym (row_other slot s row rows apart))

  torn_rows : (d : List ℕ) → slot < 64 → HasOldOrNew b slot (spelled row) d → HasCells d rows ⊎ HasCells d (put_row slot row rows)
  torn_rows d lt either = by (either slot lt)
    where
      other : (s : ℕ) → s < 64 → s ≢ slot → cell_of d s ≡ cell_of b s
      other s below apart = ⊎_elim (λ old. old) (λ new. absurd (apart new.0)) (either s below)

      by : (cell_of d slot ≡ cell_of b slot) ⊎ ((slot ≡ slot) × (cell_of d slot ≡ spelled row)) → HasCells d rows ⊎ HasCells d (put_row slot row rows)
      by (inl old) = inl (λ s below. ⊎_elim
          (λ is. ap (λ (k : ℕ). record_of (cell_of d k)) is ∙ ap record_of old ∙ ap (λ (k : ℕ). record_of (cell_of b k)) (sym is) ∙ cells s below)
          (λ apart. ap record_of (other s below apart) ∙ cells s below)
          (cases_is s slot))
      by (inr new) = inr (new_cells d (record { changed = new.1; others = λ s below apart. other s below apart }))

-- what is so of cells and their records
pub record CellLaws : Type 0 where
  pub read : (row : Option KeyRow) → IsRow row → record_of (spelled row) ≡ Some row
  pub long : (row : Option KeyRow) → IsRow row → length (spelled row) ≡ 96
  pub torn : (bytes : List ℕ) (slot : ℕ) (cell torn : List ℕ) → length bytes ≡ 12352 → slot < 64 → length cell ≡ 96 → IsTorn bytes slot cell torn → HasOldOrNew bytes slot cell torn
  pub replaced : (bytes : List ℕ) (slot : ℕ) (cell : List ℕ) → length bytes ≡ 12352 → slot < 64 → length cell ≡ 96 → HasNew bytes slot cell (with_cell bytes slot cell)
  pub size : (b : List ℕ) (at : ℕ) (part : List ℕ) → at + length part ≤ length b → length (splice b at part) ≡ length b

module _ (law : CellLaws) (bytes : List ℕ) (slot : ℕ) (row : Option KeyRow) (size : length bytes ≡ 12352) (below : slot < 64) (valid : IsRow row) where
  pub length-put_bytes : length (put_bytes bytes slot row) ≡ 12352
  length-put_bytes =
      let cell_long = law.long row valid in
      let staged_long : length (staged bytes slot (spelled row)) ≡ 12352 = law.size bytes (place_of slot (spare bytes slot)) (spelled row) (omega (arith, cell_long, size, below)) ∙ size in
      law.size (staged bytes slot (spelled row)) slot (spare bytes slot ∷ []) (omega (arith, staged_long, below)) ∙ staged_long

  module _ (rows : KeyRows) (shown : rows_of bytes ≡ Some rows) (table : IsTrue (is_table (put_row slot row rows))) where
    -- whole
    pub rows_of-put_bytes : rows_of (put_bytes bytes slot row) ≡ Some (put_row slot row rows)
    rows_of-put_bytes = rows_of-cells _ _ table
        (new_cells law.read bytes slot row rows (cells-rows_of bytes rows shown) valid (put_bytes bytes slot row) (law.replaced bytes slot (spelled row) size below (law.long row valid)))

    -- torn
    pub rows_of-torn : (torn : List ℕ) → IsTrue (is_table rows) → IsTorn bytes slot (spelled row) torn → ShowsOldOrNew (record { slot = slot; row = row }) rows torn
    rows_of-torn torn was is = ⊎_elim
        (λ old. inl (rows_of-cells torn rows was old))
        (λ new. inr (rows_of-cells torn (put_row slot row rows) table new))
        (torn_rows law.read bytes slot row rows (cells-rows_of bytes rows shown) valid torn below (law.torn bytes slot (spelled row) torn size below (law.long row valid) is))
