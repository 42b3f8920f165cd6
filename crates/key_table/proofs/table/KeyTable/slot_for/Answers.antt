use Rattle.std.proofs.Common.{arith, refl, sym, ◌∙◌}
use Rattle.key_table.proofs.ChangeLemmas.{slot_for-first_gap, slot_for-stands}
use Rattle.key_table.proofs.FindLemmas.{find_key-absent}
use Rattle.key_table.proofs.GapLemmas.{length-table, slot_for-full}
use Rattle.key_table.proofs.TableLemmas.{table_from}
use Rattle.key_table.proofs.table.KeyTable.slot_for.Goals as goal

pub returns-in-Some : goal.returns-in-Some
returns-in-Some c =
    let at = rw c.as_slice.ensures.value at c.place_of_name.ensures in
    rw (sym c.self.view_is, slot_for-stands c.args.name.now c.self.inside.rows.items c.in-Some.place c.index.result.now (record { place_is = sym at ∙ c.in-Some.is; at = c.index.ensures })) refl

pub returns-then-is_full : goal.returns-then-is_full
returns-then-is_full c =
    let at = rw c.as_slice.ensures.value at c.place_of_name.ensures in
    let counted = rw c.as_slice.ensures.value at c.as_slice.ensures.len in
    rw (sym c.self.view_is, slot_for-full c.args.name.now c.self.inside.rows.items (table_from c.self.inside.rows.items c.self.invariant.0) (find_key-absent c.args.name.now c.self.inside.rows.items (sym at ∙ c.in_default.is)) (omega (arith, counted, c.len-is_full.ensures, c.if-is_full.true))) refl

pub overflow_cast-result : goal.overflow_cast-result
overflow_cast-result c =
    let counted = rw c.as_slice.ensures.value at c.as_slice.ensures.len in
    let within = rw c.as_slice-2.ensures.value at c.place_of_gap-gap.ensures.within in
    omega (arith, length-table c.self.inside.rows.items c.self.invariant.0, counted, within, c.len-is_full.ensures, c.if-is_full.false)

pub returns : goal.returns
returns c =
    let at = rw c.as_slice.ensures.value at c.place_of_name.ensures in
    let counted = rw c.as_slice.ensures.value at c.as_slice.ensures.len in
    let within = rw c.as_slice-2.ensures.value at c.place_of_gap-gap.ensures.within in
    rw (
      sym c.self.view_is,
      slot_for-first_gap c.args.name.now c.self.inside.rows.items c.place_of_gap-gap.result c.self.invariant.0 (record {
        absent = find_key-absent c.args.name.now c.self.inside.rows.items (sym at ∙ c.in_default.is);
        first = rw c.as_slice-2.ensures.value at c.place_of_gap-gap.ensures.gap;
        below = omega (arith, length-table c.self.inside.rows.items c.self.invariant.0, counted, within, c.len-is_full.ensures, c.if-is_full.false);
      }),
    ) refl
