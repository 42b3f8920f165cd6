use Rattle.std.proofs.Common.{◌≡◌, ℕ, length, rules, tests, cond, ltb, Some, None, ◌∙◌}
use Rattle.std.specs.Prelude.{◌==◌}
use Rattle.std.proofs.lemmas.Iterator.{YieldsList-from_slice}
use Rattle.std.proofs.lemmas.Iterator.Search.{position_from_yields_List}
use Rattle.std.proofs.lemmas.List.Sums.{prefix_len-le-length}
use Rattle.script_lang.specs.Reading.{is_no_colon, tag_len}
use Rattle.script_lang.proofs.CuttingLemmas.{place_or_length}
use Rattle.script_lang.proofs.crypt_fields.tag_len.Goals as goal

pub returns-clause-exact : goal.returns-clause-exact
returns-clause-exact c =
    let word = c.args.word.now in
    let found : c.position.result ≡ cond (ltb (tag_len word) (length word)) (Some (tag_len word)) None = position_from_yields_List (λ (b : ℕ). b == 58) _ _ c.position.result c.position.ensures.ran (YieldsList-from_slice _ c.iter.ensures.rest) (λ x b q k. search (rules, tests)) in
    c.unwrap_or.ensures ∙ place_or_length (tag_len word) (length word) c.position.result (prefix_len-le-length is_no_colon word) found
