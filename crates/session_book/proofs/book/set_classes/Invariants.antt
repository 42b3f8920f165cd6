use Rattle.std.proofs.Common.{◌≡◌, drop, take, ◌++◌}
use Rattle.session_book.specs.Sessions.{with_classes}
use Rattle.session_book.proofs.book.set_classes.Given as goal

abbrev pub invariant-loop-row : goal.invariant-loop-row
invariant-loop-row l = l.rows ≡ with_classes l.session l.classes (take l.row-index l.fn.rows) ++ drop l.row-index l.fn.rows
