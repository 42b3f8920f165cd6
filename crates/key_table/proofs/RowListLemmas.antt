-- Rows put into a list, and two lists compared.
use Rattle.key_attributes.specs.declared.KeyRow.{KeyRow}
use Rattle.key_table.proofs.FindLemmas.{row_in-absent}
use Rattle.key_table.proofs.PlaceLemmas.{set-with_row}
use Rattle.key_table.proofs.SlotLemmas.{same_slot}
use Rattle.key_table.proofs.TableLemmas.{SlotRow, table_from}
use Rattle.key_table.specs.KeyRows.{KeyRows, row_in, same_row, same_rows, with_row}
use Rattle.key_table.specs.Places.{place_in_order}
use Rattle.key_table.specs.Tables.{is_table}
use Rattle.std.proofs.Common.{ap, arith, set, subst, sym, ◌∙◌}
use Rattle.std.proofs.lemmas.Bool.{eqb-false, le-ltb, lt-ltb, ltb-false, ltb-true, ne_eqb}
use Rattle.std.proofs.lemmas.List.Quantifiers.{position-Some}
use Rattle.std.specs.List.{insert, position}
use Rattle.std.specs.Prelude.{Bool, IsTrue, None, Some, [], cond, false, if◌then◌else◌, length, nat_lt, refl, slice_index_or, suc, true, ℕ, ◌&&◌, ◌<◌, ◌==◌, ◌∷◌, ◌≡◌, ◌≢◌, ◌≤◌}

-- the row of a slot that has one
pub set-present : (slot : ℕ) (rows : KeyRows) (place : ℕ) (found : SlotRow) (new : KeyRow) → IsTrue (is_table rows) → position (λ row. row.0 == slot) rows ≡ Some place → found ≡ slice_index_or rows place found → set rows place (found.0, new) ≡ with_row slot new rows
set-present slot rows place found new is e at =
    let stands = position-Some (λ (each : SlotRow). each.0 == slot) rows place found e in
    let named : found.0 ≡ slot = same_slot found.0 slot (subst (λ (each : SlotRow). (each.0 == slot) ≡ true) (sym at) stands.1) in
    set-with_row place rows found new (table_from rows is) stands.0 at ∙ ap (λ (n : ℕ). with_row n new rows) named

-- the slot of no row
insert-empty : (slot : ℕ) (new : KeyRow) (rows : KeyRows) → row_in slot rows ≡ None → insert rows (place_in_order slot rows) (slot, new) ≡ with_row slot new rows
insert-empty slot new [] none = refl
insert-empty slot new (r ∷ rows) none = by (r.0 == slot) (nat_lt r.0 slot) refl refl none (insert-empty slot new rows)
  where
    by : (b c : Bool) → (r.0 == slot) ≡ b → nat_lt r.0 slot ≡ c → cond b (Some r.1) (row_in slot rows) ≡ None → (row_in slot rows ≡ None → insert rows (place_in_order slot rows) (slot, new) ≡ with_row slot new rows)
        → insert (r ∷ rows) (if c then suc (place_in_order slot rows) else 0) (slot, new) ≡ with_row slot new (r ∷ rows)
    by true c e f left later = cc
    by false true e f left later =
        let under : r.0 < slot = ltb-true r.0 slot f in
        rw (le-ltb slot r.0 (omega (arith, under)), ne_eqb slot r.0 (λ same. omega (arith, under, same))) (ap (λ (l : KeyRows). r ∷ l) (later left))
    by false false e f left later =
        let least : slot ≤ r.0 = ltb-false r.0 slot f in
        let apart : r.0 ≢ slot = eqb-false r.0 slot e in
        rw (lt-ltb slot r.0 (omega (arith, least, apart))) refl

pub insert-in_order : (slot : ℕ) (new : KeyRow) (rows : KeyRows) → position (λ row. row.0 == slot) rows ≡ None → insert rows (place_in_order slot rows) (slot, new) ≡ with_row slot new rows
insert-in_order slot new rows e = insert-empty slot new rows (row_in-absent slot rows e)

-- lists of other lengths differ
pub same_rows-lengths : (first second : KeyRows) → length first ≢ length second → same_rows first second ≡ false
same_rows-lengths [] [] apart = absurd (apart refl)
same_rows-lengths [] (s ∷ second) apart = refl
same_rows-lengths (r ∷ first) [] apart = refl
same_rows-lengths (r ∷ first) (s ∷ second) apart = rest ((r.0 == s.0) && same_row r.1 s.1) (same_rows-lengths first second (λ same. apart (ap suc same)))
  where
    rest : (b : Bool) → same_rows first second ≡ false → (b && same_rows first second) ≡ false
    rest true e = e
    rest false e = refl
