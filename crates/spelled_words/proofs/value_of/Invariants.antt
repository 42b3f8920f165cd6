use Rattle.std.proofs.Common.{◌≡◌, drop}
use Rattle.spelled_words.specs.Tables.{value_of, rows}
use Rattle.spelled_words.proofs.value_of.Given as goal

abbrev pub invariant-loop-row : goal.invariant-loop-row
invariant-loop-row g l = value_of (rows l.table) l.word ≡ value_of (rows (drop l.row-index l.table)) l.word
