-- A slot that is emptied.
use Rattle.key_table.proofs.FindLemmas.{row_in-absent}
use Rattle.key_table.proofs.PlaceLemmas.{remove-filter}
use Rattle.key_table.proofs.PutLemmas.{is_table-emptied}
use Rattle.key_table.proofs.TableLemmas.{SlotRow, table_from}
use Rattle.key_table.specs.KeyRows.{KeyRows, put_row, row_in}
use Rattle.key_table.specs.Tables.{is_table}
use Rattle.std.proofs.Common.{ap, arith, subst, sym, ◌∙◌}
use Rattle.std.proofs.lemmas.List.Quantifiers.{position-Some}
use Rattle.std.specs.List.{position, remove}
use Rattle.std.specs.Prelude.{Bool, IsTrue, None, Some, [], cond, false, not, refl, slice_index_or, true, ℕ, ◌==◌, ◌∷◌, ◌≡◌}

left_if : (b : Bool) (row : SlotRow) (slot : ℕ) (rows : KeyRows) → cond b (Some row.1) (row_in slot rows) ≡ None → (row_in slot rows ≡ None → put_row slot None rows ≡ rows) → cond (not b) (row ∷ put_row slot None rows) (put_row slot None rows) ≡ row ∷ rows
left_if true row slot rows e rest = cc
left_if false row slot rows e rest = ap (λ (left : KeyRows). row ∷ left) (rest e)

put_row-none : (slot : ℕ) (rows : KeyRows) → row_in slot rows ≡ None → put_row slot None rows ≡ rows
put_row-none slot [] e = refl
put_row-none slot (row ∷ rows) e = left_if (row.0 == slot) row slot rows e (put_row-none slot rows)

pub put_row-absent : (slot : ℕ) (rows : KeyRows) → position (λ row. row.0 == slot) rows ≡ None → put_row slot None rows ≡ rows
put_row-absent slot rows e = put_row-none slot rows (row_in-absent slot rows e)

pub same_slot : (n m : ℕ) → (n == m) ≡ true → n ≡ m
same_slot n m e = grind arith

pub put_row-present : (slot : ℕ) (rows : KeyRows) (place : ℕ) (row : SlotRow) → IsTrue (is_table rows) → position (λ row. row.0 == slot) rows ≡ Some place → row ≡ slice_index_or rows place row → remove rows place ≡ put_row slot None rows
put_row-present slot rows place row is e at =
    let found = position-Some (λ (each : SlotRow). each.0 == slot) rows place row e in
    let named : row.0 ≡ slot = same_slot row.0 slot (subst (λ (each : SlotRow). (each.0 == slot) ≡ true) (sym at) found.1) in
    remove-filter place rows row (table_from rows is) found.0 at ∙ ap (λ (n : ℕ). put_row n None rows) named

pub is_table-erased : (slot : ℕ) (rows : KeyRows) (place : ℕ) (row : SlotRow) → IsTrue (is_table rows) → position (λ row. row.0 == slot) rows ≡ Some place → row ≡ slice_index_or rows place row → IsTrue (is_table (remove rows place))
is_table-erased slot rows place row is e at = subst (λ (left : KeyRows). IsTrue (is_table left)) (sym (put_row-present slot rows place row is e at)) (is_table-emptied rows slot is)
