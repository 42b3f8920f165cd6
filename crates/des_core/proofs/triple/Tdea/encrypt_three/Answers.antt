use Rattle.std.proofs.Common.{ap, map, sym, take, ◌∙◌}
use Rattle.des_core.specs.Des.{des_bytes, des_back_bytes}
use Rattle.des_core.specs.TripleDes.{tdea_bytes}
use Rattle.des_core.proofs.TripleLemmas.{tdea_bytes-each_short, tdea_bytes-of_each}
use Rattle.des_core.proofs.triple.Tdea.encrypt_three.Goals as goal

pub returns-then-has_one_key : goal.returns-then-has_one_key
returns-then-has_one_key c =
    let key = c.args.self.now in
    let blocks = c.args.blocks.now in
    c.encrypt_three.ensures
    ∙ (ap (λ k. map (des_bytes k) blocks) (c.self.invariant.first_is ∙ ap (take 8) c.self.view_is)
    ∙ sym (tdea_bytes-each_short key blocks c.if-has_one_key.ensures))

pub returns : goal.returns
returns c =
    let t = c.self.inside in
    let are = c.self.invariant in
    let blocks = c.args.blocks.now in
    let second = c.decrypt_three-second.ensures ∙ ap (map (des_back_bytes t.second)) c.encrypt_three-first.ensures in
    c.encrypt_three-2.ensures ∙ (ap (map (des_bytes t.third)) second
    ∙ (tdea_bytes-of_each _ t.first t.second t.third are.first_is are.second_is are.third_is blocks
    ∙ ap (λ key. map (tdea_bytes key) blocks) c.self.view_is))
