use Rattle.std.proofs.Common.{ap, rules, ◌∙◌}
use Rattle.des_core.specs.Permutations.{initial_permutation}
use Rattle.des_core.specs.Des.{bits_by_table}
use Rattle.des_core.proofs.ByteLemmas.{bits_of-from_be_bytes}
use Rattle.des_core.proofs.PermutedLemmas.{block_of_permuted-initial}
use Rattle.des_core.proofs.permuted.PermutedBlock.new.Goals as goal

pub returns : goal.returns
returns c =
    let bits = bits_of-from_be_bytes c.args.block.0 c.from_be_bytes.result (search rules) (search rules) c.from_be_bytes.ensures in
    block_of_permuted-initial c.args.block.0 c.permute_initially.result (search rules) (search rules)
    (c.permute_initially.ensures ∙ ap (bits_by_table initial_permutation) bits)
