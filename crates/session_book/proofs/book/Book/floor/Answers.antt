use Rattle.std.proofs.Common.{ap, sym, ◌∙◌}
use Rattle.std.specs.Option.{is_some}
use Rattle.session_book.proofs.BookLemmas.{floor_of-find, is_open-find}
use Rattle.session_book.specs.Sessions.{floor_of, is_open}
use Rattle.session_book.proofs.book.Book.floor.Goals as goal

pub returns-in-Some-clause-open : goal.returns-in-Some-clause-open
returns-in-Some-clause-open c =
    ap is_some c.in-Some.ensures ∙ is_open-find c.args.session c.rows.result.now ∙ ap (is_open c.args.session) c.rows.ensures.rows

pub returns-in-Some-clause-value : goal.returns-in-Some-clause-value
returns-in-Some-clause-value c =
    sym (floor_of-find c.args.session c.rows.result.now c.in-Some.row.now (sym c.in-Some.ensures)) ∙ ap (floor_of c.args.session) c.rows.ensures.rows

pub returns-in-None-clause-open : goal.returns-in-None-clause-open
returns-in-None-clause-open c =
    ap is_some c.in-None.ensures ∙ is_open-find c.args.session c.rows.result.now ∙ ap (is_open c.args.session) c.rows.ensures.rows
