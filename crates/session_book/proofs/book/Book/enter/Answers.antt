use Rattle.std.proofs.Common.{◌≡◌, ◌≤◌, ap, arith, false, length, List, subst, sym, ◌∙◌, ℕ}
use Rattle.std.specs.List.{insert}
use Rattle.session_book.proofs.BookLemmas.{insert-place_above, room}
use Rattle.session_book.specs.RisingLaws.{rising-with_session}
use Rattle.session_book.specs.Places.{place_above}
use Rattle.session_book.specs.Rising.{Rising, opened}
use Rattle.session_book.specs.Sessions.{is_open, with_session}
use Rattle.session_book.specs.declared.sessions.SessionRow.{SessionRow}
use Rattle.session_book.proofs.book.Book.enter.Goals as goal

pub insert-requires : goal.insert-requires
insert-requires c =
    let same : c.rows.result.now ≡ c.self.inside.rows.items = c.rows.ensures.rows ∙ sym c.self.view_is in
    let absent : is_open c.args.session c.self.inside.rows.items ≡ false = ap (is_open c.args.session) c.self.view_is ∙ sym c.is_open.ensures ∙ c.if-is_open.false in (
      omega arith,
      (
        subst (λ (rows : List SessionRow). c.place_above-place.result ≤ length rows) same c.place_above-place.ensures.within,
        room (opened c.args.session c.args.floor) c.self.inside.rows.items absent c.self.invariant,
      ),
    )

pub invariant_of-self : goal.invariant_of-self
invariant_of-self c =
    let same : c.rows.result.now ≡ c.self.inside.rows.items = c.rows.ensures.rows ∙ sym c.self.view_is in
    let absent : is_open c.args.session c.self.inside.rows.items ≡ false = ap (is_open c.args.session) c.self.view_is ∙ sym c.is_open.ensures ∙ c.if-is_open.false in
    let entered : c.insert.new.self.items ≡ with_session (opened c.args.session c.args.floor) c.self.inside.rows.items =
    c.insert.ensures.items
    ∙ ap (λ (place : ℕ). insert c.self.inside.rows.items place c.opened.result) (c.place_above-place.ensures.place ∙ ap (place_above c.args.session) same)
    ∙ ap (λ (row : SessionRow). insert c.self.inside.rows.items (place_above c.args.session c.self.inside.rows.items) row) c.opened.ensures
    ∙ insert-place_above (opened c.args.session c.args.floor) c.self.inside.rows.items in
    subst Rising (sym entered) (rising-with_session (opened c.args.session c.args.floor) c.self.inside.rows.items absent c.self.invariant)

pub returns-clause-entered : goal.returns-clause-entered
returns-clause-entered c =
    let same : c.rows.result.now ≡ c.self.inside.rows.items = c.rows.ensures.rows ∙ sym c.self.view_is in
    c.insert.ensures.items
    ∙ ap (λ (place : ℕ). insert c.self.inside.rows.items place c.opened.result) (c.place_above-place.ensures.place ∙ ap (place_above c.args.session) same)
    ∙ ap (λ (row : SessionRow). insert c.self.inside.rows.items (place_above c.args.session c.self.inside.rows.items) row) c.opened.ensures
    ∙ insert-place_above (opened c.args.session c.args.floor) c.self.inside.rows.items
    ∙ ap (with_session (opened c.args.session c.args.floor)) c.self.view_is
