-- What the bytes of a store say of key rows.
use Rattle.key_attributes.specs.declared.KeyRow.{KeyRow}
use Rattle.key_record.specs.Records.{record_of, spelled}
use Rattle.key_table.specs.Changes.{Change}
use Rattle.key_table.specs.KeyRows.{KeyRows, put_row, row_in}
use Rattle.key_table.specs.Tables.{is_free}
use Rattle.nv_store.specs.Cells.{cell_of, with_cell}
use Rattle.std.specs.Prelude.{List, None, Option, Some, [], if◌then◌else◌, suc, zero, ℕ, ◌++◌, ◌+◌, ◌<◌, ◌∷◌, ◌≡◌, ◌⊎◌}

-- the rows of slots, or the lowest bad one of them
pub data Scanned : Type 0 where
  Shows : KeyRows → Scanned
  BadAt : ℕ → Scanned

-- a slot and those behind it, by the record of its cell and the rows of the slots below: it is bad where the cell is no record, or where its name stands in a lower slot
abbrev pub scan_slot : ℕ → Option (Option KeyRow) → KeyRows → (KeyRows → Scanned) → Scanned
scan_slot slot None rows behind = BadAt slot
scan_slot slot (Some None) rows behind = behind rows
scan_slot slot (Some (Some row)) rows behind = if is_free row.name rows then behind (rows ++ (slot, row) ∷ []) else BadAt slot

-- the next `count` slots, from `slot` on, behind the rows of the slots below
unfoldable pub scan : List ℕ → ℕ → ℕ → KeyRows → Scanned
scan bytes slot zero rows = Shows rows
scan bytes slot (suc count) rows = scan_slot slot (record_of (cell_of bytes slot)) rows (scan bytes (slot + 1) count)

-- the rows, where no slot is bad
abbrev pub rows_in : Scanned → Option KeyRows
rows_in (Shows rows) = Some rows
rows_in (BadAt slot) = None

-- the slot, where one is bad
abbrev pub bad_in : Scanned → Option ℕ
bad_in (Shows rows) = None
bad_in (BadAt slot) = Some slot

-- the rows that the bytes show; none where a slot is bad
abbrev pub rows_of : List ℕ → Option KeyRows
rows_of bytes = rows_in (scan bytes 0 64 [])

-- the lowest bad slot (BADSTORE)
abbrev pub bad_slot : List ℕ → Option ℕ
bad_slot bytes = bad_in (scan bytes 0 64 [])

-- the bytes with this row in the slot, or with none
abbrev pub put_bytes : List ℕ → ℕ → Option KeyRow → List ℕ
put_bytes bytes slot row = with_cell bytes slot (spelled row)

-- each cell is the record of the row that stands in its slot
abbrev pub HasCells : List ℕ → KeyRows → Type 0
HasCells bytes rows = (slot : ℕ) → slot < 64 → record_of (cell_of bytes slot) ≡ Some (row_in slot rows)

-- the bytes show these rows, or these after the change
abbrev pub ShowsOldOrNew : Change → KeyRows → List ℕ → Type 0
ShowsOldOrNew change rows bytes = (rows_of bytes ≡ Some rows) ⊎ (rows_of bytes ≡ Some (put_row change.slot change.row rows))
