use Rattle.std.proofs.Common.{refl, ap, arith, ◌∙◌, length-set, take, drop}
use Rattle.des_core.specs.KeyTables.{left_shifts}
use Rattle.des_core.specs.Des.{round_keys_from, round_keys}
use Rattle.des_core.proofs.BitLemmas.{bits_of-parts, parts-below}
use Rattle.des_core.proofs.RoundLemmas.{schedule_step, schedule_end, same_two}
use Rattle.des_core.proofs.key_schedule.round_keys.Goals as goal

pub loop-i-init : goal.loop-i-init
unfolding round_keys
loop-i-init c =
    let chosen = c.permute-chosen in
    let parts = bits_of-parts 28 28 chosen.result in
    let small = parts-below 28 28 chosen.result chosen.ensures.bound in
    let left = parts.0 ∙ ap (take 28) chosen.ensures.bits in
    let right = parts.1 ∙ ap (drop 28) chosen.ensures.bits in
    record {
      keys = same_two (round_keys_from left_shifts) left right;
      sixteen = refl;
      c_small = small.0;
      d_small = small.1;
    }

pub loop-i-preserved : goal.loop-i-preserved
loop-i-preserved c =
    let l = c.loop-i in
    let next_c = c.rotate_left-c in
    let next_d = c.rotate_left-d in
    let step =
    schedule_step left_shifts l.keys l.i l.c l.d next_c.result next_d.result c.permute.result c.loop-i-test.true (omega arith)
    next_c.ensures.bound next_d.ensures.bound next_c.ensures.bits next_d.ensures.bits c.permute.ensures.bits in
    record {
      keys = step ∙ l.invariant.keys;
      sixteen = length-set l.keys l.i c.permute.result ∙ l.invariant.sixteen;
      c_small = next_c.ensures.bound;
      d_small = next_d.ensures.bound;
    }

pub returns : goal.returns
returns c = schedule_end left_shifts c.loop-i.keys _ _ c.loop-i.i _ (omega arith) (omega arith) c.loop-i.invariant.keys
