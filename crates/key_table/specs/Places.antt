-- Where the slots of rows leave a gap, and where a slot is in their order.
use Rattle.key_table.specs.KeyRows.{KeyRows}
use Rattle.std.specs.Prelude.{[], if◌then◌else◌, nat_lt, suc, ℕ, ◌+◌, ◌==◌, ◌∷◌}

-- the first number from `slot` on that is not the slot of the row in its turn
abbrev pub first_gap : ℕ → KeyRows → ℕ
first_gap slot [] = slot
first_gap slot (first ∷ rows) = if first.0 == slot then first_gap (slot + 1) rows else slot

-- how many first rows stand below the slot
abbrev pub place_in_order : ℕ → KeyRows → ℕ
place_in_order slot [] = 0
place_in_order slot (first ∷ rows) = if nat_lt first.0 slot then suc (place_in_order slot rows) else 0
