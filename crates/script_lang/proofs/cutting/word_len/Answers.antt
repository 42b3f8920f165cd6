use Rattle.std.proofs.Common.{◌≡◌, ℕ, length, rules, tests, cond, ltb, Some, None, ◌∙◌}
use Rattle.std.specs.Prelude.{◌==◌}
use Rattle.std.proofs.lemmas.Iterator.{YieldsList-from_slice}
use Rattle.std.proofs.lemmas.Iterator.Search.{position_from_yields_List}
use Rattle.std.proofs.lemmas.List.Sums.{prefix_len-le-length}
use Rattle.script_lang.specs.Words.{is_no_space}
use Rattle.script_lang.specs.Reading.{word_len}
use Rattle.script_lang.proofs.CuttingLemmas.{place_or_length}
use Rattle.script_lang.proofs.cutting.word_len.Goals as goal

pub returns-clause-exact : goal.returns-clause-exact
returns-clause-exact c =
    let text = c.args.text.now in
    let found : c.position.result ≡ cond (ltb (word_len text) (length text)) (Some (word_len text)) None = position_from_yields_List (λ (b : ℕ). b == 32) _ _ c.position.result c.position.ensures.ran (YieldsList-from_slice _ c.iter.ensures.rest) (λ x b q k. search (rules, tests)) in
    c.unwrap_or.ensures ∙ place_or_length (word_len text) (length text) c.position.result (prefix_len-le-length is_no_space text) found
