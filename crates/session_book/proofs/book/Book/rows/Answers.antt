use Rattle.std.proofs.Common.{subst, sym}
use Rattle.session_book.specs.RisingLaws.{increasing}
use Rattle.session_book.specs.Rising.{Rising}
use Rattle.session_book.proofs.book.Book.rows.Goals as goal

pub returns-clause-rising : goal.returns-clause-rising
returns-clause-rising c = increasing c.as_slice.result.now (subst Rising (sym c.as_slice.ensures.value) c.self.invariant)
