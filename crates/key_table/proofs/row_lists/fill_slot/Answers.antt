use Rattle.std.proofs.Common.{sym, ◌∙◌}
use Rattle.key_table.proofs.RowListLemmas.{insert-in_order, set-present}
use Rattle.key_table.proofs.row_lists.fill_slot.Goals as goal

pub returns-in-Some-clause-rows : goal.returns-in-Some-clause-rows
returns-in-Some-clause-rows c =
    let at = rw c.as_slice.ensures.value at c.place_of_slot.ensures in
    rw c.copy.ensures (set-present c.args.slot c.args.rows.now.items c.in-Some.place c.index_mut.result.now c.args.row.now c.requires.table (sym at ∙ c.in-Some.is) c.index_mut.ensures.value)

pub returns-clause-rows : goal.returns-clause-rows
returns-clause-rows c =
    let at = rw c.as_slice.ensures.value at c.place_of_slot.ensures in
    let place = rw c.as_slice-2.ensures.value at c.place_in_order-place.ensures.place in
    rw (c.in-Ok.ensures.items, c.copy-2.ensures, place) (insert-in_order c.args.slot c.args.row.now c.args.rows.now.items (sym at ∙ c.in_default.is))
