use Rattle.des_core.specs.TripleDes.{tdea_bytes, tdea_back_bytes}
use Rattle.cbc_mac.proofs.UndoneLemmas.{ecb-undone}
use Rattle.cbc_mac.proofs.laws.ecb_decryption_undoes_encryption.Goals as goal

pub returns : goal.returns
returns c key =
    let law = c.triple_encryption_of_blocks.ensures in
    ecb-undone (tdea_bytes key) (tdea_back_bytes key) record { gives_a_block = law.gives_a_block key; undone = law.undone key }
