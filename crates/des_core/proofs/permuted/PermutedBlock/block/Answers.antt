use Rattle.std.proofs.Common.{ap, ◌∙◌}
use Rattle.des_core.specs.Bits.{bytes_of_bits}
use Rattle.des_core.specs.PermutedBlocks.{block_of_permuted}
use Rattle.des_core.proofs.ByteLemmas.{bytes_high_first_is}
use Rattle.des_core.proofs.permuted.PermutedBlock.block.Goals as goal

pub returns : goal.returns
unfolding block_of_permuted
returns c =
    c.to_be_bytes.ensures ∙ (bytes_high_first_is 8 c.permute_finally.result ∙ (ap (bytes_of_bits 8) c.permute_finally.ensures ∙ c.self.view_is))
