use Rattle.std.proofs.Common.{ap, map, sym, take, ◌∙◌}
use Rattle.des_core.specs.Des.{des_bytes, des_back_bytes}
use Rattle.des_core.specs.TripleDes.{tdea_back_bytes}
use Rattle.des_core.proofs.TripleLemmas.{tdea_back_bytes-each_short, tdea_back_bytes-of_each}
use Rattle.des_core.proofs.triple.Tdea.decrypt_three.Goals as goal

pub returns-then-has_one_key : goal.returns-then-has_one_key
returns-then-has_one_key c =
    let key = c.args.self.now in
    let blocks = c.args.blocks.now in
    c.decrypt_three.ensures
    ∙ (ap (λ k. map (des_back_bytes k) blocks) (c.self.invariant.first_is ∙ ap (take 8) c.self.view_is)
    ∙ sym (tdea_back_bytes-each_short key blocks c.if-has_one_key.ensures))

pub returns : goal.returns
returns c =
    let t = c.self.inside in
    let are = c.self.invariant in
    let blocks = c.args.blocks.now in
    let second = c.encrypt_three-second.ensures ∙ ap (map (des_bytes t.second)) c.decrypt_three-third.ensures in
    c.decrypt_three-2.ensures ∙ (ap (map (des_back_bytes t.first)) second
    ∙ (tdea_back_bytes-of_each _ t.first t.second t.third are.first_is are.second_is are.third_is blocks
    ∙ ap (λ key. map (tdea_back_bytes key) blocks) c.self.view_is))
