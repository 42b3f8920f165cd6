-- A running entry: its rules, and the digits that stand.
use Rattle.entry_core.specs.Entries.{Entry}
use Rattle.std.specs.Prelude.{List, [], ℕ}

-- the rules of the entry, and the digits that were entered and are kept
pub record Run : Type 0 where
  pub entry : Entry
  pub digits : List ℕ

-- an entry as it begins: no digit is entered
abbrev pub begun : Entry → Run
begun entry = record { entry = entry; digits = [] }
