use Rattle.std.proofs.Common.{subst, sym, List, ap, ◌∙◌}
use Rattle.std.specs.List.Sorted.{IsStrictlyIncreasing}
use Rattle.pad_words.specs.declared.numbers.Session.{Session}
use Rattle.session_book.proofs.BookLemmas.{rising-hearers}
use Rattle.session_book.specs.Rising.{numbers_of}
use Rattle.session_book.specs.Sessions.{hearers}
use Rattle.session_book.proofs.book.Book.hearers.Goals as goal

pub returns-clause-rising : goal.returns-clause-rising
returns-clause-rising c =
    subst (λ (sessions : List Session). IsStrictlyIncreasing (numbers_of sessions))
    (sym (c.hearers_among.ensures ∙ ap (hearers c.args.class) c.as_slice.ensures.value))
    (rising-hearers c.args.class c.self.inside.rows.items c.self.invariant)
