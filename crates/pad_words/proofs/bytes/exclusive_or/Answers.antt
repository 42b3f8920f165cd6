use Rattle.std.proofs.Common.{length-set, refl, ◌∙◌, arith}
use Rattle.pad_words.proofs.ExclusiveOr.{exclusive_or_step, exclusive_or_end}
use Rattle.pad_words.proofs.bytes.exclusive_or.Goals as goal

pub loop-i-preserved : goal.loop-i-preserved
loop-i-preserved c =
    let l = c.loop-i in
    record {
      joined = exclusive_or_step l.bytes c.args.other.now l.i _ _ (omega (arith, l.invariant.long)) (omega (arith, l.invariant.long)) refl l.invariant.joined;
      long = length-set l.bytes l.i _ ∙ l.invariant.long;
    }

pub returns : goal.returns
returns c =
    exclusive_or_end c.loop-i.bytes c.args.other.now c.loop-i.i _ (omega (arith, c.loop-i.invariant.long)) c.loop-i.invariant.joined
