use Rattle.std.proofs.Common.{List, ap, rules, ◌∙◌, ℕ}
use Rattle.des_core.specs.Bits.{bits_of_bytes, bytes_of_bits}
use Rattle.des_core.specs.Des.{output_block}
use Rattle.des_core.proofs.PermutedLemmas.{block_of_permuted-preoutput}
use Rattle.des_core.proofs.RoundLemmas.{map_three}
use Rattle.des_core.proofs.permuted.PermutedBlock.three_after.Goals as goal

pub returns : goal.returns
returns c =
    let keys = c.args.keys.now in
    let after : List ℕ → List ℕ = λ block. bytes_of_bits 8 (output_block keys (bits_of_bytes block)) in
    let rounds = block_of_permuted-preoutput keys in
    map_three after c.args.blocks.now _ _ _ _ _ _ (search rules)
    (rounds c.word.result _ c.preoutputs.ensures.first ∙ ap after c.word.ensures)
    (rounds c.word-2.result _ c.preoutputs.ensures.second ∙ ap after c.word-2.ensures)
    (rounds c.word-3.result _ c.preoutputs.ensures.third ∙ ap after c.word-3.ensures)
