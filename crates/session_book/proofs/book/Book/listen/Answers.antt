use Rattle.std.proofs.Common.{◌≡◌, ap, length, subst, sym, ◌∙◌}
use Rattle.std.specs.List.{refill}
use Rattle.std.proofs.lemmas.List.{length-map}
use Rattle.session_book.proofs.BookLemmas.{refill-same}
use Rattle.session_book.specs.RisingLaws.{rising-with_classes}
use Rattle.session_book.specs.Rising.{Rising}
use Rattle.session_book.specs.Sessions.{listening, with_classes}
use Rattle.session_book.proofs.book.Book.listen.Goals as goal

pub invariant_of-self : goal.invariant_of-self
invariant_of-self c =
    let kept : c.set_classes.new.rows ≡ with_classes c.args.session c.args.classes c.self.inside.rows.items =
    c.set_classes.ensures ∙ ap (with_classes c.args.session c.args.classes) c.as_mut_slice.ensures.value in
    let same : refill (length c.self.inside.rows.items) c.self.inside.rows.items c.set_classes.new.rows ≡ with_classes c.args.session c.args.classes c.self.inside.rows.items =
    refill-same c.self.inside.rows.items c.set_classes.new.rows (ap length kept ∙ length-map c.self.inside.rows.items (listening c.args.session c.args.classes)) ∙ kept in
    subst Rising (sym same) (rising-with_classes c.args.session c.args.classes c.self.inside.rows.items c.self.invariant)
