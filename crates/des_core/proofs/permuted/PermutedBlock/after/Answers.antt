use Rattle.std.proofs.Common.{ap, ◌∙◌}
use Rattle.des_core.specs.Bits.{bytes_of_bits, bits_of_bytes}
use Rattle.des_core.specs.Des.{output_block}
use Rattle.des_core.proofs.PermutedLemmas.{block_of_permuted-preoutput}
use Rattle.des_core.proofs.permuted.PermutedBlock.after.Goals as goal

pub returns : goal.returns
returns c =
    block_of_permuted-preoutput c.args.keys.now _ c.preoutput.result c.preoutput.ensures
    ∙ ap (λ bytes. bytes_of_bits 8 (output_block c.args.keys.now (bits_of_bytes bytes))) c.self.view_is
