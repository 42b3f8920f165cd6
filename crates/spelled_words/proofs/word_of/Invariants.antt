use Rattle.std.proofs.Common.{◌≡◌, drop}
use Rattle.spelled_words.specs.Tables.{word_of, rows}
use Rattle.spelled_words.proofs.word_of.Given as goal

abbrev pub invariant-loop-row : goal.invariant-loop-row
invariant-loop-row g l = word_of g.T.PartialEq.eq (rows l.table) l.value ≡ word_of g.T.PartialEq.eq (rows (drop l.row-index l.table)) l.value
