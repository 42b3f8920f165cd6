-- What the table is after a row was put over another, put into the gap, or taken out.
use Rattle.key_attributes.specs.declared.KeyRow.{KeyRow}
use Rattle.key_table.proofs.FindLemmas.{find_key-absent, find_key-present}
use Rattle.key_table.proofs.GapLemmas.{insert-with_row, length-table, slot_for-gap}
use Rattle.key_table.proofs.PlaceLemmas.{remove-filter, set-with_row}
use Rattle.key_table.proofs.PutLemmas.{is_table-emptied, is_table-put}
use Rattle.key_table.proofs.TableLemmas.{SlotRow, table_from}
use Rattle.key_table.specs.KeyRows.{KeyRows, find_key, put_row, slot_for, with_row}
use Rattle.key_table.specs.Places.{first_gap}
use Rattle.key_table.specs.Tables.{is_table}
use Rattle.std.proofs.Common.{arith, set, subst, sym}
use Rattle.std.proofs.lemmas.Bool.{ltb-true}
use Rattle.std.proofs.lemmas.List.Quantifiers.{position-Some}
use Rattle.std.proofs.lemmas.Option.{cond_some}
use Rattle.std.proofs.lemmas.Slice.Eq.{bytes_eq-Decides}
use Rattle.std.specs.List.{insert, position, position_or_len, remove}
use Rattle.std.specs.Prelude.{Bool, IfSome, IsTrue, List, None, Some, [], bytes_eq, length, nat_lt, refl, slice_index_or, suc, true, zero, ℕ, ◌<◌, ◌∷◌, ◌≡◌, ◌≤◌}

-- the row of this name stands at this place
pub record StandsAt (name : List ℕ) (rows : KeyRows) (place : ℕ) (found : SlotRow) : Type 0 where
  pub place_is : position (λ (row : SlotRow). bytes_eq row.1.name name) rows ≡ Some place
  pub at : found ≡ slice_index_or rows place found

within : (name : List ℕ) (rows : KeyRows) (place : ℕ) (found : SlotRow) → StandsAt name rows place found → place < length rows
within name rows place found stands = (position-Some (λ (row : SlotRow). bytes_eq row.1.name name) rows place found stands.place_is).0

-- the row at a place
pub element : (rows : KeyRows) (place : ℕ) → place < length rows → (row : SlotRow) × (row ≡ slice_index_or rows place row)
element [] place within = absurd (omega (arith, within))
element (r ∷ rows) zero within = (r, refl)
element (r ∷ rows) (suc place) within = element rows place (omega (arith, within))

pub position_within : (test : SlotRow → Bool) (rows : KeyRows) (place : ℕ) → position test rows ≡ Some place → place < length rows
position_within test rows place e =
    let parts = cond_some (nat_lt (position_or_len test rows) (length rows)) (position_or_len test rows) place e in
    subst (λ (n : ℕ). n < length rows) parts.1 (ltb-true (position_or_len test rows) (length rows) parts.0)

-- where it was found
pub stands_at : (name : List ℕ) (rows : KeyRows) (place : ℕ) → position (λ (row : SlotRow). bytes_eq row.1.name name) rows ≡ Some place → (found : SlotRow) × StandsAt name rows place found
stands_at name rows place e =
    let found = element rows place (position_within (λ (row : SlotRow). bytes_eq row.1.name name) rows place e) in
    (found.0, record { place_is = e; at = found.1 })

-- and has the name
pub stands_named : (name : List ℕ) (rows : KeyRows) (place : ℕ) (found : SlotRow) → StandsAt name rows place found → (place < length rows) × (name ≡ found.1.name)
stands_named name rows place found stands = (
  within name rows place found stands,
  sym ((bytes_eq-Decides found.1.name name).0 (subst (λ (each : SlotRow). bytes_eq each.1.name name ≡ true) (sym stands.at) (position-Some (λ (row : SlotRow). bytes_eq row.1.name name) rows place found stands.place_is).1)),
)

pub find_key-stands : (name : List ℕ) (rows : KeyRows) (place : ℕ) (found : SlotRow) → StandsAt name rows place found → find_key name rows ≡ Some found
find_key-stands name rows place found stands = find_key-present name rows place found stands.place_is stands.at

pub slot_for-stands : (name : List ℕ) (rows : KeyRows) (place : ℕ) (found : SlotRow) → StandsAt name rows place found → slot_for name rows ≡ Some found.0
slot_for-stands name rows place found stands = rw (find_key-stands name rows place found stands) refl

-- put over another

over-with_row : (rows : KeyRows) (place : ℕ) (found : SlotRow) (new : KeyRow) → IsTrue (is_table rows) → StandsAt new.name rows place found → set rows place (found.0, new) ≡ with_row found.0 new rows
over-with_row rows place found new is stands = set-with_row place rows found new (table_from rows is) (within new.name rows place found stands) stands.at

pub put_over : (rows : KeyRows) (place : ℕ) (found : SlotRow) (new : KeyRow) → IsTrue (is_table rows) → StandsAt new.name rows place found → IfSome (slot_for new.name rows) (λ slot. set rows place (found.0, new) ≡ with_row slot new rows)
put_over rows place found new is stands = rw (slot_for-stands new.name rows place found stands) (over-with_row rows place found new is stands)

pub is_table-over : (rows : KeyRows) (place : ℕ) (found : SlotRow) (new : KeyRow) → IsTrue (is_table rows) → StandsAt new.name rows place found → IsTrue (is_table (set rows place (found.0, new)))
is_table-over rows place found new is stands =
    rw (over-with_row rows place found new is stands) (rw (slot_for-stands new.name rows place found stands) at (is_table-put rows new is))

-- put into the gap

-- no row has this name, and this is the first gap
pub record IsGapFor (name : List ℕ) (rows : KeyRows) (gap : ℕ) : Type 0 where
  pub absent : find_key name rows ≡ None
  pub first : gap ≡ first_gap 0 rows
  pub below : gap < 64

-- an absent name gets the first gap of a table that is not full
pub first_gap_for : (name : List ℕ) (rows : KeyRows) (count gap : ℕ) → IsTrue (is_table rows) → position (λ (row : SlotRow). bytes_eq row.1.name name) rows ≡ None → length rows ≡ count → (count ≡ 64 → ⊥) → gap ≡ first_gap 0 rows → gap ≤ length rows → IsGapFor name rows gap × length rows < 64
first_gap_for name rows count gap table absent counted more first within =
    let most = length-table rows table in
    let few : length rows < 64 = omega (arith, most, counted, more) in
    (record { absent = find_key-absent name rows absent; first = first; below = omega (arith, within, few) }, few)

pub slot_for-first_gap : (name : List ℕ) (rows : KeyRows) (gap : ℕ) → IsTrue (is_table rows) → IsGapFor name rows gap → slot_for name rows ≡ Some gap
slot_for-first_gap name rows gap is fits = slot_for-gap name rows gap (table_from rows is) fits.absent fits.first fits.below

pub put_in_gap : (rows : KeyRows) (gap : ℕ) (new : KeyRow) → IsTrue (is_table rows) → IsGapFor new.name rows gap → IfSome (slot_for new.name rows) (λ slot. insert rows gap (gap, new) ≡ with_row slot new rows)
put_in_gap rows gap new is fits = rw (slot_for-first_gap new.name rows gap is fits) (insert-with_row gap new rows (table_from rows is) fits.first)

pub is_table-gap : (rows : KeyRows) (gap : ℕ) (new : KeyRow) → IsTrue (is_table rows) → IsGapFor new.name rows gap → IsTrue (is_table (insert rows gap (gap, new)))
is_table-gap rows gap new is fits =
    rw (insert-with_row gap new rows (table_from rows is) fits.first) (rw (slot_for-first_gap new.name rows gap is fits) at (is_table-put rows new is))

-- taken out

out-put_row : (name : List ℕ) (rows : KeyRows) (place : ℕ) (found : SlotRow) → IsTrue (is_table rows) → StandsAt name rows place found → remove rows place ≡ put_row found.0 None rows
out-put_row name rows place found is stands = remove-filter place rows found (table_from rows is) (within name rows place found stands) stands.at

pub taken_out : (name : List ℕ) (rows : KeyRows) (place : ℕ) (row : SlotRow) → IsTrue (is_table rows) → StandsAt name rows place row → IfSome (find_key name rows) (λ found. remove rows place ≡ put_row found.0 None rows)
taken_out name rows place row is stands = rw (find_key-stands name rows place row stands) (out-put_row name rows place row is stands)

pub is_table-out : (name : List ℕ) (rows : KeyRows) (place : ℕ) (found : SlotRow) → IsTrue (is_table rows) → StandsAt name rows place found → IsTrue (is_table (remove rows place))
is_table-out name rows place found is stands = rw (out-put_row name rows place found is stands) (is_table-emptied rows found.0 is)
