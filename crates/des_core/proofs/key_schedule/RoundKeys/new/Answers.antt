use Rattle.std.proofs.Common.{length-set, arith, ◌∙◌}
use Rattle.des_core.proofs.GroupLemmas.{kept_more, all_kept_more, kept_whole}
use Rattle.des_core.proofs.key_schedule.RoundKeys.new.Goals as goal

pub loop-i-preserved : goal.loop-i-preserved
loop-i-preserved c =
    let l = c.loop-i in
    let key = c.kept_of.result in
    record {
      keys = kept_more l.kept c.args.keys.now key l.i (omega arith) (omega arith) l.invariant.keys c.kept_of.ensures.bits;
      kept = all_kept_more l.kept key l.i (omega arith) l.invariant.kept c.kept_of.ensures.kept;
      sixteen = length-set l.kept l.i key ∙ l.invariant.sixteen;
    }

pub invariant_of-result : goal.invariant_of-result
invariant_of-result c =
    let l = c.loop-i in
    let each = (kept_whole l.kept c.args.keys.now l.i (omega arith) (omega arith) l.invariant.kept l.invariant.keys).0 in
    record { sixteen = l.invariant.sixteen; each = each }

pub returns : goal.returns
returns c =
    let l = c.loop-i in
    (kept_whole l.kept c.args.keys.now l.i (omega arith) (omega arith) l.invariant.kept l.invariant.keys).1
