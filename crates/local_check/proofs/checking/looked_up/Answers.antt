use Rattle.std.proofs.Common.{◌∙◌, ap, arith}
use Rattle.local_check.specs.Checks.{looked_up}
use Rattle.local_check.proofs.SumLemmas.{looked_up-by_place}
use Rattle.pad_words.specs.Bytes.{unpacked}
use Rattle.local_check.proofs.checking.looked_up.Goals as goal

pub returns-clause-digits : goal.returns-clause-digits
returns-clause-digits c =
    looked_up-by_place c.items-table.result.now c.args.block.0 c.loop-i.digits (omega arith)
    (λ k within. c.loop-i.invariant.2 k (omega arith)) (λ k within. c.loop-i.invariant.3 k (omega arith))
    ∙ ap (λ table. looked_up table (unpacked c.args.block.0)) c.items-table.ensures.items
