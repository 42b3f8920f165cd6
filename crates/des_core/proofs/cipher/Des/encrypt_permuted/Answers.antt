use Rattle.std.proofs.Common.{ap, ◌∙◌}
use Rattle.des_core.specs.Bits.{bits_of_bytes, bytes_of_bits}
use Rattle.des_core.specs.Des.{des_bytes, des, output_block}
use Rattle.des_core.proofs.cipher.Des.encrypt_permuted.Goals as goal

pub returns : goal.returns
unfolding des_bytes des
returns c =
    let block = c.args.x.now in
    c.after.ensures
    ∙ (ap (λ keys. bytes_of_bits 8 (output_block keys (bits_of_bytes block))) c.self.invariant.forward_is
    ∙ ap (λ key. des_bytes key block) c.self.view_is)
