-- Slots that change one by one.
use Rattle.key_attributes.specs.declared.KeyRow.{KeyRow}
use Rattle.key_table.specs.KeyRows.{KeyRows, put_row}
use Rattle.std.specs.Prelude.{List, None, Option, Some, [], map, ℕ, ◌∷◌}

-- a slot and the row that it gets; none empties it
pub record Change : Type 0 where
  pub slot : ℕ
  pub row : Option KeyRow

-- a slot gets this row
abbrev pub change_to : (ℕ × KeyRow) → Change
change_to found = record { slot = found.0; row = Some found.1 }

-- the rows after changes one by one
abbrev pub changed : List Change → KeyRows → KeyRows
changed [] rows = rows
changed (change ∷ rest) rows = changed rest (put_row change.slot change.row rows)

-- a slot is emptied
abbrev pub erasure : ℕ → Change
erasure slot = record { slot = slot; row = None }

-- every occupied slot is emptied, in rising order (INITIALIZATION)
abbrev pub erasures : KeyRows → List Change
erasures rows = map (λ each. erasure each.0) rows
