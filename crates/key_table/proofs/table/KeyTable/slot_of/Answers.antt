use Rattle.std.proofs.Common.{refl, sym, ◌∙◌}
use Rattle.key_table.proofs.FindLemmas.{find_key-absent, find_key-present}
use Rattle.key_table.proofs.table.KeyTable.slot_of.Goals as goal

pub returns-in-Some : goal.returns-in-Some
returns-in-Some c =
    let at = rw c.as_slice.ensures.value at c.place_of_name.ensures in
    rw (sym c.self.view_is, find_key-present c.args.name.now c.self.inside.rows.items c.in-Some.place c.index.result.now (sym at ∙ c.in-Some.is) c.index.ensures) refl

pub returns-in-None : goal.returns-in-None
returns-in-None c =
    let at = rw c.as_slice.ensures.value at c.place_of_name.ensures in
    rw (sym c.self.view_is, find_key-absent c.args.name.now c.self.inside.rows.items (sym at ∙ c.in-None.is)) refl
