-- The row at a place of a table, put over or taken out.
use Rattle.key_attributes.specs.declared.KeyRow.{KeyRow}
use Rattle.key_table.proofs.TableLemmas.{Above, SlotRow, Table}
use Rattle.key_table.specs.KeyRows.{KeyRows, with_row}
use Rattle.std.proofs.Common.{ap, arith, set, subst, sym}
use Rattle.std.proofs.lemmas.Bool.{eq-eqb, le-ltb, ne_eqb}
use Rattle.std.specs.List.{filter, remove}
use Rattle.std.specs.Prelude.{[], length, not, refl, slice_index_or, suc, zero, ℕ, ◌<◌, ◌==◌, ◌∷◌, ◌≡◌}

pub above_at : (n i : ℕ) (rows : KeyRows) (row : SlotRow) → Above n rows → i < length rows → row ≡ slice_index_or rows i row → n < row.0
above_at n i [] row over within at = absurd (omega (arith, within))
above_at n zero (r ∷ rows) row over within at = rw at over.0
above_at n (suc i) (r ∷ rows) row over within at = above_at n i rows row over.1 (omega (arith, within)) at

-- the row stands at its place in the rising order
pub set-with_row : (i : ℕ) (rows : KeyRows) (row : SlotRow) (new : KeyRow) → Table rows → i < length rows → row ≡ slice_index_or rows i row → set rows i (row.0, new) ≡ with_row row.0 new rows
set-with_row i [] row new h within at = absurd (omega (arith, within))
set-with_row zero (r ∷ rows) row new h within at = rw (at, le-ltb r.0 r.0 (omega arith), eq-eqb r.0 r.0 refl) refl
set-with_row (suc i) (r ∷ rows) row new h within at =
    let over : r.0 < row.0 = above_at r.0 i rows row h.0.above (omega (arith, within)) at in
    rw (le-ltb row.0 r.0 (omega (arith, over)), ne_eqb row.0 r.0 (λ same. omega (arith, over, same)))
    (ap (λ (rest : KeyRows). r ∷ rest) (set-with_row i rows row new h.1 (omega (arith, within)) at))

filter-above : (slot : ℕ) (rows : KeyRows) → Above slot rows → filter (λ (each : SlotRow). not (each.0 == slot)) rows ≡ rows
filter-above slot [] over = refl
filter-above slot (r ∷ rows) over =
    let first : slot < r.0 = over.0 in
    rw (ne_eqb r.0 slot (λ same. omega (arith, first, same))) (ap (λ (rest : KeyRows). r ∷ rest) (filter-above slot rows over.1))

-- no other row has its slot
pub remove-filter : (i : ℕ) (rows : KeyRows) (row : SlotRow) → Table rows → i < length rows → row ≡ slice_index_or rows i row → remove rows i ≡ filter (λ (each : SlotRow). not (each.0 == row.0)) rows
remove-filter i [] row h within at = absurd (omega (arith, within))
remove-filter zero (r ∷ rows) row h within at =
    let same : r.0 ≡ row.0 = ap (λ (q : SlotRow). q.0) (sym at) in
    rw (eq-eqb r.0 row.0 same) (sym (filter-above row.0 rows (subst (λ (n : ℕ). Above n rows) same h.0.above)))
remove-filter (suc i) (r ∷ rows) row h within at =
    let over : r.0 < row.0 = above_at r.0 i rows row h.0.above (omega (arith, within)) at in
    rw (ne_eqb r.0 row.0 (λ same. omega (arith, over, same))) (ap (λ (rest : KeyRows). r ∷ rest) (remove-filter i rows row h.1 (omega (arith, within)) at))
