use Rattle.std.proofs.Common.{arith, sym, ◌∙◌}
use Rattle.key_table.proofs.SlotIndexLemmas.{walk_begins, walk_ends, walk_finds, walk_goes_on, walk_looks}
use Rattle.key_table.proofs.TableLemmas.{table_from}
use Rattle.key_table.proofs.slot_index.place_of_name.Goals as goal

pub loop-slot-init : goal.loop-slot-init
loop-slot-init c = rw c.chain_of.ensures.chain (walk_begins c.args.name.now c.args.index.now c.args.rows.now c.requires.index)

pub bounds-rows-place : goal.bounds-rows-place
bounds-rows-place c =
    let looks = walk_looks c.args.name.now c.args.index.now c.args.rows.now c.loop-slot.slot c.from-at.result c.from-place.result c.requires.table c.requires.index c.loop-slot.invariant c.loop-slot-test.true c.from-at.ensures c.from-place.ensures in
    looks.within

pub returns-then-is_named : goal.returns-then-is_named
returns-then-is_named c =
    let looks = walk_looks c.args.name.now c.args.index.now c.args.rows.now c.loop-slot.slot c.from-at.result c.from-place.result c.requires.table c.requires.index c.loop-slot.invariant c.loop-slot-test.true c.from-at.ensures c.from-place.ensures in
    let named = c.is_named.ensures in
    walk_finds c.args.name.now c.args.index.now c.args.rows.now c.loop-slot.slot c.from-place.result c.index-rows-place.result looks c.index-rows-place.is (sym named ∙ c.if-is_named.true)

pub loop-slot-smaller : goal.loop-slot-smaller
loop-slot-smaller c =
    let looks = walk_looks c.args.name.now c.args.index.now c.args.rows.now c.loop-slot.slot c.from-at.result c.from-place.result c.requires.table c.requires.index c.loop-slot.invariant c.loop-slot-test.true c.from-at.ensures c.from-place.ensures in
    rw c.from-at.ensures (omega (arith, looks.over, c.loop-slot-test.true))

pub loop-slot-preserved : goal.loop-slot-preserved
loop-slot-preserved c =
    let looks = walk_looks c.args.name.now c.args.index.now c.args.rows.now c.loop-slot.slot c.from-at.result c.from-place.result c.requires.table c.requires.index c.loop-slot.invariant c.loop-slot-test.true c.from-at.ensures c.from-place.ensures in
    let named = c.is_named.ensures in
    rw c.from-at.ensures (walk_goes_on c.args.name.now c.args.index.now c.args.rows.now c.loop-slot.slot c.from-place.result c.index-rows-place.result looks c.index-rows-place.is (sym named ∙ c.if-is_named.false))

pub returns : goal.returns
returns c = walk_ends c.args.name.now c.args.rows.now c.loop-slot.slot (table_from c.args.rows.now c.requires.table) c.loop-slot.invariant c.loop-slot-test.false
