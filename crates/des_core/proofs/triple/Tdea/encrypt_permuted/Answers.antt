use Rattle.std.proofs.Common.{ap, sym, take, ◌++◌, ◌∙◌}
use Rattle.des_core.specs.Des.{des_bytes, des_back_bytes}
use Rattle.des_core.specs.TripleDes.{tdea_bytes}
use Rattle.des_core.proofs.RoundLemmas.{same_two}
use Rattle.des_core.proofs.TripleLemmas.{tdea_bytes-in_a_row, tdea_bytes-short}
use Rattle.des_core.proofs.triple.Tdea.encrypt_permuted.Goals as goal

pub returns-then-has_one_key : goal.returns-then-has_one_key
returns-then-has_one_key c =
    let key = c.args.self.now in
    let block = c.args.x.now in
    c.encrypt_permuted.ensures
    ∙ (ap (λ k. des_bytes k block) (c.self.invariant.first_is ∙ ap (take 8) c.self.view_is)
    ∙ sym (tdea_bytes-short key block c.if-has_one_key.ensures))

pub returns : goal.returns
returns c =
    let t = c.self.inside in
    let block = c.args.x.now in
    let first = c.encrypt_permuted-first.ensures ∙ ap (λ key. des_bytes key block) c.self.invariant.first_is in
    let second = c.decrypt_permuted-second.ensures ∙ same_two des_back_bytes c.self.invariant.second_is first in
    let third = c.encrypt_permuted-2.ensures ∙ same_two des_bytes c.self.invariant.third_is second in
    third ∙ (sym (tdea_bytes-in_a_row (take t.key_length (t.first ++ t.second ++ t.third)) block) ∙ ap (λ key. tdea_bytes key block) c.self.view_is)
