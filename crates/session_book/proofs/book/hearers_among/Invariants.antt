use Rattle.std.proofs.Common.{◌≡◌, ◌≤◌, drop, length, ◌++◌}
use Rattle.session_book.specs.Sessions.{hearers}
use Rattle.session_book.proofs.book.hearers_among.Given as goal

abbrev pub invariant-loop-row : goal.invariant-loop-row
invariant-loop-row l = record {
  few : length l.found ≤ l.row-index;
  said : l.found ++ hearers l.class (drop l.row-index l.rows) ≡ hearers l.class l.rows;
}
