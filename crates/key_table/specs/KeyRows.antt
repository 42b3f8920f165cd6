-- The key rows: pairs of a slot and its row. A key stands in a slot, and is found by its name. That slots rise and are below 64, and that names differ, is `is_table`.
use Rattle.key_attributes.specs.declared.KeyRow.{KeyRow}
use Rattle.std.specs.List.{list_any}
use Rattle.std.specs.Option.{option_map}
use Rattle.std.specs.Prelude.{Bool, List, None, Option, Some, [], bytes_eq, false, filter, if◌then◌else◌, map, nat_lt, not, suc, true, zero, ℕ, ◌&&◌, ◌+◌, ◌==◌, ◌∷◌}

-- pairs of a slot and its row
abbrev pub KeyRows : Type 0
KeyRows = List (ℕ × KeyRow)

-- the slot and the row of a name, if the name is present
abbrev pub find_key : List ℕ → KeyRows → Option (ℕ × KeyRow)
find_key name [] = None
find_key name (first ∷ rows) = if bytes_eq first.1.name name then Some first else find_key name rows

-- the row of a name, if the name is present
abbrev pub find_row : List ℕ → KeyRows → Option KeyRow
find_row name rows = option_map (λ found. found.1) (find_key name rows)

-- the slot of a name, if the name is present
abbrev pub slot_of : List ℕ → KeyRows → Option ℕ
slot_of name rows = option_map (λ found. found.0) (find_key name rows)

-- the row that stands in a slot, if one does
abbrev pub row_in : ℕ → KeyRows → Option KeyRow
row_in slot [] = None
row_in slot (first ∷ rows) = if first.0 == slot then Some first.1 else row_in slot rows

-- a row stands in the slot
abbrev pub slot_taken : ℕ → KeyRows → Bool
slot_taken slot rows = list_any (λ row. row.0 == slot) rows

-- the lowest empty slot among the next `count`, from `slot` on
abbrev pub empty_slot : ℕ → ℕ → KeyRows → Option ℕ
empty_slot slot zero rows = None
empty_slot slot (suc count) rows = if slot_taken slot rows then empty_slot (slot + 1) count rows else Some slot

-- the slot of what was found, or else the lowest empty one of 64
abbrev pub slot_or_empty : KeyRows → Option (ℕ × KeyRow) → Option ℕ
slot_or_empty rows (Some found) = Some found.0
slot_or_empty rows None = empty_slot 0 64 rows

-- the slot of a row of this name: a present name keeps its slot, a new one takes the lowest empty slot of 64; none where there is none
abbrev pub slot_for : List ℕ → KeyRows → Option ℕ
slot_for name rows = slot_or_empty rows (find_key name rows)

-- the slot has this row: in place of its own, or at its place in the rising order
abbrev pub with_row : ℕ → KeyRow → KeyRows → KeyRows
with_row slot row [] = (slot, row) ∷ []
with_row slot row (first ∷ rows) = if nat_lt slot first.0 then (slot, row) ∷ first ∷ rows else (if slot == first.0 then (slot, row) ∷ rows else first ∷ with_row slot row rows)

-- the slot has this row, or none
abbrev pub put_row : ℕ → Option KeyRow → KeyRows → KeyRows
put_row slot None rows = filter (λ each. not (each.0 == slot)) rows
put_row slot (Some row) rows = with_row slot row rows

-- the names in the order of their slots
abbrev pub names_of : KeyRows → List (List ℕ)
names_of rows = map (λ each. each.1.name) rows

-- the two rows have the same name, value and uses
abbrev pub same_row : KeyRow → KeyRow → Bool
same_row first second = bytes_eq first.name second.name && bytes_eq first.value second.value && (first.uses == second.uses)

-- the two lists have the same rows in the same slots
abbrev pub same_rows : KeyRows → KeyRows → Bool
same_rows [] [] = true
same_rows [] (second ∷ seconds) = false
same_rows (first ∷ firsts) [] = false
same_rows (first ∷ firsts) (second ∷ seconds) = (first.0 == second.0) && same_row first.1 second.1 && same_rows firsts seconds
