use Rattle.std.proofs.Common.{arith}
use Rattle.local_check.proofs.SumLemmas.{sums-by_place}
use Rattle.local_check.proofs.checking.added.Goals as goal

pub returns : goal.returns
returns c =
    sums-by_place c.args.digits.now c.args.offset.now c.loop-i.sums (omega arith) (λ k within. c.loop-i.invariant.1 k (omega arith))
