use Rattle.std.proofs.Common.{refl, sym, ◌∙◌}
use Rattle.std.specs.Prelude.{bytes_eq}
use Rattle.key_table.proofs.ChangeLemmas.{find_key-stands, position_within, stands_at, taken_out}
use Rattle.key_table.proofs.FindLemmas.{find_key-absent}
use Rattle.key_table.proofs.table.KeyTable.remove.Goals as goal

pub returns-in_default-clause-absent : goal.returns-in_default-clause-absent
returns-in_default-clause-absent c =
    let at = rw c.as_slice.ensures.value at c.place_of_name.ensures in
    rw (sym c.self.view_is, find_key-absent c.args.name.now c.self.inside.rows.items (sym at ∙ c.in_default.is)) refl

pub take_row-requires : goal.take_row-requires
take_row-requires c =
    let at = rw c.as_slice.ensures.value at c.place_of_name.ensures in
    rw (sym c.self.view_is) (position_within (λ row. bytes_eq row.1.name c.args.name.now) c.self.inside.rows.items c.in-Some.place (sym at ∙ c.in-Some.is))

pub returns-clause-absent : goal.returns-clause-absent
returns-clause-absent c =
    let at = rw c.as_slice.ensures.value at c.place_of_name.ensures in
    let found = stands_at c.args.name.now c.self.inside.rows.items c.in-Some.place (sym at ∙ c.in-Some.is) in
    rw (sym c.self.view_is, find_key-stands c.args.name.now c.self.inside.rows.items c.in-Some.place found.0 found.1) refl

pub returns-clause-ok : goal.returns-clause-ok
returns-clause-ok c =
    let at = rw c.as_slice.ensures.value at c.place_of_name.ensures in
    let found = stands_at c.args.name.now c.self.inside.rows.items c.in-Some.place (sym at ∙ c.in-Some.is) in
    rw (c.take_row.ensures, sym c.self.view_is) (taken_out c.args.name.now c.self.inside.rows.items c.in-Some.place found.0 c.self.invariant.0 found.1)
