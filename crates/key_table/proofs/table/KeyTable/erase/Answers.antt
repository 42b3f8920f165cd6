use Rattle.std.proofs.Common.{sym, ◌==◌, ◌∙◌}
use Rattle.key_table.proofs.ChangeLemmas.{element, position_within}
use Rattle.key_table.proofs.SlotLemmas.{put_row-absent, put_row-present}
use Rattle.key_table.proofs.table.KeyTable.erase.Goals as goal

pub take_row-requires : goal.take_row-requires
take_row-requires c =
    let at = rw c.as_slice.ensures.value at c.place_of_slot.ensures in
    rw (sym c.self.view_is) (position_within (λ row. row.0 == c.args.slot) c.self.inside.rows.items c.in-Some.place (sym at ∙ c.in-Some.is))

pub returns-in-Some : goal.returns-in-Some
returns-in-Some c =
    let at = rw c.as_slice.ensures.value at c.place_of_slot.ensures in
    let found = element c.self.inside.rows.items c.in-Some.place (position_within (λ row. row.0 == c.args.slot) c.self.inside.rows.items c.in-Some.place (sym at ∙ c.in-Some.is)) in
    rw (c.take_row.ensures, sym c.self.view_is) (put_row-present c.args.slot c.self.inside.rows.items c.in-Some.place found.0 c.self.invariant.0 (sym at ∙ c.in-Some.is) found.1)

pub returns-in_default : goal.returns-in_default
returns-in_default c =
    let at = rw c.as_slice.ensures.value at c.place_of_slot.ensures in
    rw (sym c.self.view_is) (sym (put_row-absent c.args.slot c.self.inside.rows.items (sym at ∙ c.in_default.is)))
