use Rattle.std.proofs.Common.{drop, ◌++◌, ◌≡◌}
use Rattle.key_table.specs.KeyRows.{names_of}
use Rattle.pad_machine.proofs.shared_part.asking.names_of.Given as goal

abbrev pub invariant-loop-row : goal.invariant-loop-row
invariant-loop-row l = l.names ++ names_of (drop l.row-index l.rows) ≡ names_of l.rows
