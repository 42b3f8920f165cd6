use Rattle.std.proofs.Common.{ap, sym, take, ◌++◌, ◌∙◌}
use Rattle.des_core.specs.Des.{des_bytes, des_back_bytes}
use Rattle.des_core.specs.TripleDes.{tdea_back_bytes}
use Rattle.des_core.proofs.RoundLemmas.{same_two}
use Rattle.des_core.proofs.TripleLemmas.{tdea_back_bytes-in_a_row, tdea_back_bytes-short}
use Rattle.des_core.proofs.triple.Tdea.decrypt_permuted.Goals as goal

pub returns-then-has_one_key : goal.returns-then-has_one_key
returns-then-has_one_key c =
    let key = c.args.self.now in
    let block = c.args.x.now in
    c.decrypt_permuted.ensures
    ∙ (ap (λ k. des_back_bytes k block) (c.self.invariant.first_is ∙ ap (take 8) c.self.view_is)
    ∙ sym (tdea_back_bytes-short key block c.if-has_one_key.ensures))

pub returns : goal.returns
returns c =
    let t = c.self.inside in
    let block = c.args.x.now in
    let third = c.decrypt_permuted-third.ensures ∙ ap (λ key. des_back_bytes key block) c.self.invariant.third_is in
    let second = c.encrypt_permuted-second.ensures ∙ same_two des_bytes c.self.invariant.second_is third in
    let first = c.decrypt_permuted-2.ensures ∙ same_two des_back_bytes c.self.invariant.first_is second in
    first ∙ (sym (tdea_back_bytes-in_a_row (take t.key_length (t.first ++ t.second ++ t.third)) block) ∙ ap (λ key. tdea_back_bytes key block) c.self.view_is)
