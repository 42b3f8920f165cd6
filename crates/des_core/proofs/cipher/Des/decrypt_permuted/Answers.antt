use Rattle.std.proofs.Common.{ap, ◌∙◌}
use Rattle.des_core.specs.Bits.{bits_of_bytes, bytes_of_bits}
use Rattle.des_core.specs.Des.{des_back_bytes, des_back, output_block}
use Rattle.des_core.proofs.cipher.Des.decrypt_permuted.Goals as goal

pub returns : goal.returns
unfolding des_back_bytes des_back
returns c =
    let block = c.args.x.now in
    c.after.ensures
    ∙ (ap (λ keys. bytes_of_bits 8 (output_block keys (bits_of_bytes block))) c.self.invariant.backward_is
    ∙ ap (λ key. des_back_bytes key block) c.self.view_is)
