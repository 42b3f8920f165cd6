-- What is so of the rows of every key table.
use Rattle.key_table.specs.KeyRows.{KeyRows}
use Rattle.std.specs.List.{list_all, list_any}
use Rattle.std.specs.Prelude.{Bool, List, [], bytes_eq, nat_lt, not, true, ℕ, ◌&&◌, ◌∷◌}

-- every row stands in a slot above this one
abbrev pub above_slot : ℕ → KeyRows → Bool
above_slot slot rows = list_all (λ row. nat_lt slot row.0) rows

-- no row has this name
abbrev pub is_free : List ℕ → KeyRows → Bool
is_free name rows = not (list_any (λ row. bytes_eq row.1.name name) rows)

-- slots rise and are below 64, and no name stands twice
abbrev pub is_table : KeyRows → Bool
is_table [] = true
is_table (first ∷ rows) = nat_lt first.0 64 && above_slot first.0 rows && is_free first.1.name rows && is_table rows
