use Rattle.std.proofs.Common.{ap, map, ◌∙◌}
use Rattle.des_core.specs.Bits.{bits_of_bytes, bytes_of_bits}
use Rattle.des_core.specs.Des.{des_back_bytes, des_back, output_block}
use Rattle.des_core.proofs.cipher.Des.decrypt_three.Goals as goal

pub returns : goal.returns
unfolding des_back_bytes des_back
returns c =
    let blocks = c.args.blocks.now in
    c.three_after.ensures
    ∙ (ap (λ keys. map (λ block. bytes_of_bits 8 (output_block keys (bits_of_bytes block))) blocks) c.self.invariant.backward_is
    ∙ ap (λ key. map (des_back_bytes key) blocks) c.self.view_is)
