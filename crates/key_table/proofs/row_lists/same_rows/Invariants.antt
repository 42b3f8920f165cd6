use Rattle.std.proofs.Common.{drop, ◌≡◌}
use Rattle.key_table.specs.KeyRows.{same_rows}
use Rattle.key_table.proofs.row_lists.same_rows.Given as goal

abbrev pub invariant-loop-index : goal.invariant-loop-index
invariant-loop-index l = same_rows l.first l.second ≡ same_rows (drop l.index l.first) (drop l.index l.second)
