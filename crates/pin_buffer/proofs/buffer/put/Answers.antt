use Rattle.std.proofs.Common.{arith, length-set, ◌∙◌}
use Rattle.pin_buffer.proofs.Padded.{padded_all, padded_step}
use Rattle.pin_buffer.proofs.buffer.put.Goals as goal

pub loop-i-preserved : goal.loop-i-preserved
loop-i-preserved c =
    let l = c.loop-i in
    record {
      long = length-set l.places l.i _ ∙ l.invariant.long;
      front = padded_step c.args.digits.now l.places l.i c.digit_at.result c.requires.few (omega arith) l.invariant.long c.digit_at.ensures l.invariant.front;
    }

pub returns : goal.returns
returns c =
    padded_all c.args.digits.now c.loop-i.places c.loop-i.i c.requires.few (omega arith) c.loop-i.invariant.long c.loop-i.invariant.front
