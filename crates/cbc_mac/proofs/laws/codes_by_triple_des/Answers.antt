use Rattle.std.proofs.Common.{ap, ◌∙◌}
use Rattle.std.specs.Prelude.{List, ℕ}
use Rattle.cbc_mac.specs.Macs.{mac}
use Rattle.cbc_mac.specs.Modes.{padded}
use Rattle.des_core.specs.Des.{des_back_bytes, des_bytes}
use Rattle.des_core.specs.TripleDes.{tdea_back_bytes, tdea_bytes}
use Rattle.cbc_mac.proofs.CodeLemmas.{chain-same, length-chain}
use Rattle.cbc_mac.proofs.laws.codes_by_triple_des.Goals as goal

pub returns-clause-single : goal.returns-clause-single
returns-clause-single c = λ key message pad long.
    chain-same (tdea_bytes key) (des_bytes key) (λ block is. c.one_key_is_single_des.ensures.encrypted key block long is) (c.one_key_is_single_des.ensures.eight key) c.exclusive_or_undoes_itself.ensures.long (padded message pad)

pub returns-clause-retail : goal.returns-clause-retail
returns-clause-retail c = λ left right message pad left_long right_long.
    let one = chain-same (tdea_bytes left) (des_bytes left) (λ block is. c.one_key_is_single_des.ensures.encrypted left block left_long is) (c.one_key_is_single_des.ensures.eight left) c.exclusive_or_undoes_itself.ensures.long (padded message pad) in
    let eight = length-chain (tdea_bytes left) (des_bytes left) (λ block is. c.one_key_is_single_des.ensures.encrypted left block left_long is) (c.one_key_is_single_des.ensures.eight left) c.exclusive_or_undoes_itself.ensures.long (padded message pad) in
    ap (λ (block : List ℕ). tdea_bytes left (tdea_back_bytes right block)) one
    ∙ ap (tdea_bytes left) (c.one_key_is_single_des.ensures.decrypted right (mac des_bytes left message pad) right_long eight)
    ∙ c.one_key_is_single_des.ensures.encrypted left (des_back_bytes right (mac des_bytes left message pad)) left_long (c.one_key_is_single_des.ensures.eight_back right (mac des_bytes left message pad))
