use Rattle.std.proofs.Common.{sym, ◌∙◌}
use Rattle.key_table.proofs.SlotLemmas.{put_row-absent, put_row-present}
use Rattle.key_table.proofs.row_lists.empty_slot.Goals as goal

pub returns-in-Some-clause-rows : goal.returns-in-Some-clause-rows
returns-in-Some-clause-rows c =
    let at = rw c.as_slice.ensures.value at c.place_of_slot.ensures in
    rw c.remove.ensures.items (put_row-present c.args.slot c.args.rows.now.items c.in-Some.place c.remove.result c.requires.table (sym at ∙ c.in-Some.is) c.remove.ensures.value)

pub returns-in_default-clause-rows : goal.returns-in_default-clause-rows
returns-in_default-clause-rows c =
    let at = rw c.as_slice.ensures.value at c.place_of_slot.ensures in
    sym (put_row-absent c.args.slot c.args.rows.now.items (sym at ∙ c.in_default.is))
