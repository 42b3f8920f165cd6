-- Key rows behind their slots.
use Rattle.key_attributes.specs.declared.KeyRow.{KeyRow}
use Rattle.std.specs.List.Sorted.{IsStrictlyIncreasing}
use Rattle.std.specs.Prelude.{List, map, ℕ}

-- each row stands in a slot above those of the rows before it
abbrev pub SlotsRise : List (ℕ × KeyRow) → Type 0
SlotsRise rows = IsStrictlyIncreasing (map (λ row. row.0) rows)
