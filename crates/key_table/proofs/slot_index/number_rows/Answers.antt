use Rattle.std.proofs.Common.{arith, length, sym, ◌≡◌}
use Rattle.key_table.proofs.GapLemmas.{length-table}
use Rattle.key_table.proofs.SlotIndexLemmas.{places_next, slot_below}
use Rattle.key_table.proofs.slot_index.number_rows.Goals as goal

pub overflow_cast-index : goal.overflow_cast-index
overflow_cast-index c = omega (arith, length-table c.args.rows.now c.requires, c.loop-place-test.true)

pub bounds-index-from : goal.bounds-index-from
bounds-index-from c = rw (c.from.ensures, sym c.index-rows-place.is) (slot_below c.loop-place.place c.args.rows.now c.index-rows-place.result c.requires c.loop-place-test.true c.index-rows-place.is)

pub loop-place-preserved : goal.loop-place-preserved
loop-place-preserved c =
    let whole : length c.loop-place.index.places ≡ 64 = omega arith in
    record {
      first = c.loop-place.invariant.first;
      next = c.loop-place.invariant.next;
      places = rw (c.from.ensures, sym c.index-rows-place.is) (places_next c.loop-place.index.places c.loop-place.place c.args.rows.now c.index-rows-place.result c.requires whole c.loop-place-test.true c.index-rows-place.is c.loop-place.invariant.places);
    }
