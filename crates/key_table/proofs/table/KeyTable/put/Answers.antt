use Rattle.std.proofs.Common.{None, arith, length, refl, sym, ◌∙◌, ◌≡◌}
use Rattle.key_table.proofs.ChangeLemmas.{StandsAt, first_gap_for, find_key-stands, is_table-gap, is_table-over, put_in_gap, put_over, slot_for-first_gap, slot_for-stands, stands_named}
use Rattle.key_table.proofs.FindLemmas.{find_key-absent}
use Rattle.key_table.proofs.GapLemmas.{slot_for-full}
use Rattle.key_table.proofs.SlotIndexLemmas.{leads_over}
use Rattle.key_table.proofs.TableLemmas.{table_from}
use Rattle.key_table.specs.KeyRows.{find_key}
use Rattle.key_table.proofs.table.KeyTable.put.Goals as goal

-- a present name

stands : (c : goal.After-self-1) → StandsAt c.args.row.now.name c.self.inside.rows.items c.in-Some.place c.index_mut.result.now
stands c =
    let at = rw c.as_slice.ensures.value at c.place_of_name.ensures in
    record { place_is = sym at ∙ c.in-Some.is; at = c.index_mut.ensures.value }

pub invariant_of-self : goal.invariant_of-self
invariant_of-self c =
    let named = stands_named c.args.row.now.name c.self.inside.rows.items c.in-Some.place c.index_mut.result.now (stands c) in (
      rw c.copy.ensures (is_table-over c.self.inside.rows.items c.in-Some.place c.index_mut.result.now c.args.row.now c.self.invariant.0 (stands c)),
      c.self.invariant.1,
      rw c.copy.ensures (leads_over c.self.inside.index c.in-Some.place c.self.inside.rows.items c.index_mut.result.now c.args.row.now named.0 c.index_mut.ensures.value named.1 c.self.invariant.2),
    )

pub returns-in-Some-clause-full : goal.returns-in-Some-clause-full
returns-in-Some-clause-full c = rw (sym c.self.view_is, find_key-stands c.args.row.now.name c.self.inside.rows.items c.in-Some.place c.index_mut.result.now (stands c)) refl

pub returns-in-Some-clause-slotless : goal.returns-in-Some-clause-slotless
returns-in-Some-clause-slotless c = rw (sym c.self.view_is, slot_for-stands c.args.row.now.name c.self.inside.rows.items c.in-Some.place c.index_mut.result.now (stands c)) refl

pub returns-in-Some-clause-ok : goal.returns-in-Some-clause-ok
returns-in-Some-clause-ok c = rw (sym c.self.view_is, c.copy.ensures) (put_over c.self.inside.rows.items c.in-Some.place c.index_mut.result.now c.args.row.now c.self.invariant.0 (stands c))

-- an absent name, where all slots are taken

length_is : (c : goal.Then-is_full) → length c.self.inside.rows.items ≡ 64
length_is c =
    let counted = rw c.as_slice.ensures.value at c.as_slice.ensures.len in
    omega (arith, counted, c.len-is_full.ensures, c.if-is_full.true)

is_absent : (c : goal.Then-is_full) → find_key c.args.row.now.name c.self.inside.rows.items ≡ None
is_absent c =
    let at = rw c.as_slice.ensures.value at c.place_of_name.ensures in
    find_key-absent c.args.row.now.name c.self.inside.rows.items (sym at ∙ c.in_default.is)

pub returns-then-is_full-clause-full : goal.returns-then-is_full-clause-full
returns-then-is_full-clause-full c = rw (sym c.self.view_is, is_absent c, length_is c) refl

pub returns-then-is_full-clause-slotless : goal.returns-then-is_full-clause-slotless
returns-then-is_full-clause-slotless c = rw (sym c.self.view_is, slot_for-full c.args.row.now.name c.self.inside.rows.items (table_from c.self.inside.rows.items c.self.invariant.0) (is_absent c) (length_is c)) refl

-- an absent name, where a slot is empty

pub insert_row-requires-clause-table : goal.insert_row-requires-clause-table
insert_row-requires-clause-table c =
    let at = rw c.as_slice.ensures.value at c.place_of_name.ensures in
    let counted = rw c.as_slice.ensures.value at c.as_slice.ensures.len in
    let first = rw c.as_slice-2.ensures.value at c.place_of_gap-gap.ensures.gap in
    let within = rw c.as_slice-2.ensures.value at c.place_of_gap-gap.ensures.within in
    let gap = first_gap_for c.args.row.now.name c.self.inside.rows.items c.len-is_full.result c.place_of_gap-gap.result c.self.invariant.0 (sym at ∙ c.in_default.is) (counted ∙ sym c.len-is_full.ensures) c.if-is_full.false first within in
    rw (sym c.self.view_is, c.copy-2.ensures) (is_table-gap c.self.inside.rows.items c.place_of_gap-gap.result c.args.row.now c.self.invariant.0 gap.0)

pub insert_row-requires-clause-within : goal.insert_row-requires-clause-within
insert_row-requires-clause-within c = let within = rw c.as_slice-2.ensures.value at c.place_of_gap-gap.ensures.within in rw (sym c.self.view_is) within

pub insert_row-requires-clause-few : goal.insert_row-requires-clause-few
insert_row-requires-clause-few c =
    let at = rw c.as_slice.ensures.value at c.place_of_name.ensures in
    let counted = rw c.as_slice.ensures.value at c.as_slice.ensures.len in
    let first = rw c.as_slice-2.ensures.value at c.place_of_gap-gap.ensures.gap in
    let within = rw c.as_slice-2.ensures.value at c.place_of_gap-gap.ensures.within in
    let gap = first_gap_for c.args.row.now.name c.self.inside.rows.items c.len-is_full.result c.place_of_gap-gap.result c.self.invariant.0 (sym at ∙ c.in_default.is) (counted ∙ sym c.len-is_full.ensures) c.if-is_full.false first within in
    rw (sym c.self.view_is) gap.1

pub returns-clause-slotless : goal.returns-clause-slotless
returns-clause-slotless c =
    let at = rw c.as_slice.ensures.value at c.place_of_name.ensures in
    let counted = rw c.as_slice.ensures.value at c.as_slice.ensures.len in
    let first = rw c.as_slice-2.ensures.value at c.place_of_gap-gap.ensures.gap in
    let within = rw c.as_slice-2.ensures.value at c.place_of_gap-gap.ensures.within in
    let gap = first_gap_for c.args.row.now.name c.self.inside.rows.items c.len-is_full.result c.place_of_gap-gap.result c.self.invariant.0 (sym at ∙ c.in_default.is) (counted ∙ sym c.len-is_full.ensures) c.if-is_full.false first within in
    rw (sym c.self.view_is, slot_for-first_gap c.args.row.now.name c.self.inside.rows.items c.place_of_gap-gap.result c.self.invariant.0 gap.0) refl

pub returns-clause-ok : goal.returns-clause-ok
returns-clause-ok c =
    let at = rw c.as_slice.ensures.value at c.place_of_name.ensures in
    let counted = rw c.as_slice.ensures.value at c.as_slice.ensures.len in
    let first = rw c.as_slice-2.ensures.value at c.place_of_gap-gap.ensures.gap in
    let within = rw c.as_slice-2.ensures.value at c.place_of_gap-gap.ensures.within in
    let gap = first_gap_for c.args.row.now.name c.self.inside.rows.items c.len-is_full.result c.place_of_gap-gap.result c.self.invariant.0 (sym at ∙ c.in_default.is) (counted ∙ sym c.len-is_full.ensures) c.if-is_full.false first within in
    rw (c.insert_row.ensures, sym c.self.view_is, c.copy-2.ensures) (put_in_gap c.self.inside.rows.items c.place_of_gap-gap.result c.args.row.now c.self.invariant.0 gap.0)
