use Rattle.std.proofs.Common.{arith, drop, length, suc, ◌-◌, ◌<◌, ◌≡◌}
use Rattle.key_table.proofs.GapLemmas.{length-table}
use Rattle.key_table.proofs.SlotIndexLemmas.{is_table-from, leads_before, leads_next, leads_none, slot_below}
use Rattle.key_table.proofs.slot_index.chains_of.Goals as goal

pub overflow_cast-place : goal.overflow_cast-place
overflow_cast-place c = omega (arith, length-table c.args.rows.now c.requires, c.loop-place.invariant.within, c.loop-place-test.true)

pub enter-requires : goal.enter-requires
enter-requires c =
    let within : c.loop-place.place - 1 < length c.args.rows.now = omega (arith, c.loop-place.invariant.within, c.loop-place-test.true) in
    slot_below (c.loop-place.place - 1) c.args.rows.now c.index-rows-place.result c.requires within c.index-rows-place.is

pub loop-place-preserved : goal.loop-place-preserved
loop-place-preserved c =
    let within : c.loop-place.place - 1 < length c.args.rows.now = omega (arith, c.loop-place.invariant.within, c.loop-place-test.true) in
    let next : c.loop-place.place ≡ suc (c.loop-place.place - 1) = omega (arith, c.loop-place-test.true) in
    record {
      leads = leads_before (c.loop-place.place - 1) c.loop-place.place c.args.rows.now c.index-rows-place.result c.enter.new.index next within c.index-rows-place.is
          (c.enter.ensures (drop (suc (c.loop-place.place - 1)) c.args.rows.now) (is_table-from (c.loop-place.place - 1) c.args.rows.now c.index-rows-place.result c.requires within c.index-rows-place.is)
          (leads_next (c.loop-place.place - 1) c.loop-place.place c.args.rows.now c.loop-place.index next c.loop-place.invariant.leads));
      within = omega (arith, c.loop-place.invariant.within);
    }

pub loop-place-init : goal.loop-place-init
loop-place-init c = record { leads = leads_none c.no_chains-index.result c.args.rows.now c.no_chains-index.ensures; within = omega arith }
