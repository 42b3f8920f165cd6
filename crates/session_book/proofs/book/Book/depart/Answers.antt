use Rattle.std.proofs.Common.{rules, ◌≡◌, ap, subst, sym, ◌∙◌}
use Rattle.arrayvec.proofs.ArrayVecLemmas.{filter-from_retain}
use Rattle.session_book.specs.RisingLaws.{rising-filter}
use Rattle.session_book.specs.Rising.{Rising}
use Rattle.session_book.specs.Sessions.{without_session}
use Rattle.session_book.proofs.book.Book.depart.Goals as goal

pub invariant_of-self : goal.invariant_of-self
invariant_of-self c =
    let kept : c.retain.new.self.items ≡ without_session c.args.session c.self.inside.rows.items =
    filter-from_retain _ _ _ (λ x b f' y called. search rules) _ _ c.retain.ensures.filtered in
    subst Rising (sym kept) (rising-filter _ c.self.inside.rows.items c.self.invariant)

pub returns-clause-rows : goal.returns-clause-rows
returns-clause-rows c =
    let kept : c.retain.new.self.items ≡ without_session c.args.session c.self.inside.rows.items =
    filter-from_retain _ _ _ (λ x b f' y called. search rules) _ _ c.retain.ensures.filtered in
    kept ∙ ap (without_session c.args.session) c.self.view_is
