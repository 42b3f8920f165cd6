use Rattle.std.proofs.Common.{sym}
use Rattle.key_table.proofs.RowListLemmas.{same_rows-lengths}
use Rattle.key_table.proofs.row_lists.same_rows.Goals as goal

pub returns-then-first-second : goal.returns-then-first-second
returns-then-first-second c = sym (same_rows-lengths c.args.first.now c.args.second.now c.if-first-second.true)
