use Rattle.std.proofs.Common.{ℕ, List, ◌++◌, ◌∷◌, [], map, ◌/◌, ◌%◌}
use Rattle.script_lang.specs.Words.{hex_digit}
use Rattle.script_lang.specs.Spelling.{four_values, mask_values}
use Rattle.script_lang.proofs.WriteLemmas.{then_put}
use Rattle.script_lang.proofs.put_fields.put_mask.Goals as goal

pub returns : goal.returns
unfolding mask_values
returns c =
    let m = c.args.mask.now in
    let old : List ℕ = c.args.text.now in
    let space : List ℕ = 32 ∷ [] in
    let p : List ℕ = map hex_digit (four_values (m.keys / 65536)) in
    let q : List ℕ = map hex_digit (four_values (m.keys % 65536)) in
    let r : List ℕ = map hex_digit (four_values (m.fdks / 65536)) in
    let t : List ℕ = map hex_digit (four_values (m.fdks % 65536)) in
    then_put old c.put_four_digits-3.new.text c.put_four_digits-4.new.text (space ++ (p ++ (q ++ r))) t
    (then_put old c.put_four_digits-2.new.text c.put_four_digits-3.new.text (space ++ (p ++ q)) r
    (then_put old c.put_four_digits.new.text c.put_four_digits-2.new.text (space ++ p) q
    (then_put old c.push.new.self c.put_four_digits.new.text space p c.in_ok-push.ensures.ok c.in_ok-put_four_digits.ensures) c.in_ok-put_four_digits-2.ensures) c.in_ok-put_four_digits-3.ensures) c.in_ok-put_four_digits-4.ensures
