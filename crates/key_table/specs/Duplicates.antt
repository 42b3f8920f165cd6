-- Keys of one value (NODUPLICATE; the rule is this project's own).
use Rattle.key_attributes.specs.UseBits.{forbids_duplicates, under_construction}
use Rattle.key_attributes.specs.declared.KeyRow.{KeyRow}
use Rattle.key_table.specs.KeyRows.{KeyRows}
use Rattle.std.specs.Prelude.{Bool, List, None, Option, Some, [], bytes_eq, if◌then◌else◌, not, ℕ, ◌&&◌, ◌||◌, ◌∷◌}

-- both rows are complete, the other has another name and the same value, and at least one of the two forbids that
abbrev pub is_duplicate : KeyRow → KeyRow → Bool
is_duplicate new row = not (under_construction new.uses) && not (under_construction row.uses) && not (bytes_eq row.name new.name) && bytes_eq row.value new.value
    && (forbids_duplicates row.uses || forbids_duplicates new.uses)

-- the name of the lowest slot whose row is such a duplicate of the new row
abbrev pub duplicate : KeyRow → KeyRows → Option (List ℕ)
duplicate new [] = None
duplicate new (first ∷ rows) = if is_duplicate new first.1 then Some first.1.name else duplicate new rows
