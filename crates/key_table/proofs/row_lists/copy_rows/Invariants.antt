use Rattle.std.proofs.Common.{take, ◌≡◌, ◌≤◌}
use Rattle.std.specs.Prelude.{vec_capacity}
use Rattle.key_table.proofs.row_lists.copy_rows.Given as goal

abbrev pub invariant-loop-row : goal.invariant-loop-row
invariant-loop-row l = record {
  rows : l.into.items ≡ take l.row-index l.rows;
  room : vec_capacity l.fn.into ≤ vec_capacity l.into;
}
