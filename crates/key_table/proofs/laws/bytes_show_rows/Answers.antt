use Rattle.key_table.proofs.ScanLemmas.{cells-rows_of, is_some-rows_of, is_table-rows_of, rows_of-cells}
use Rattle.key_table.proofs.laws.bytes_show_rows.Goals as goal

pub returns-clause-table : goal.returns-clause-table
returns-clause-table c = is_table-rows_of

pub returns-clause-bad : goal.returns-clause-bad
returns-clause-bad c = is_some-rows_of

pub returns-clause-cells : goal.returns-clause-cells
returns-clause-cells c = cells-rows_of

pub returns-clause-rows : goal.returns-clause-rows
returns-clause-rows c = rows_of-cells
