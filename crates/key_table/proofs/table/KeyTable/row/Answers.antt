use Rattle.std.proofs.Common.{refl, sym, ◌∙◌}
use Rattle.key_table.proofs.FindLemmas.{row_in-absent, row_in-present}
use Rattle.key_table.proofs.table.KeyTable.row.Goals as goal

pub returns-in-Some : goal.returns-in-Some
returns-in-Some c =
    let at = rw c.as_slice.ensures.value at c.place_of_slot.ensures in
    rw (sym c.self.view_is, row_in-present c.args.slot c.self.inside.rows.items c.in-Some.place c.index.result.now (sym at ∙ c.in-Some.is) c.index.ensures) refl

pub returns-in-None : goal.returns-in-None
returns-in-None c =
    let at = rw c.as_slice.ensures.value at c.place_of_slot.ensures in
    rw (sym c.self.view_is, row_in-absent c.args.slot c.self.inside.rows.items (sym at ∙ c.in-None.is)) refl
