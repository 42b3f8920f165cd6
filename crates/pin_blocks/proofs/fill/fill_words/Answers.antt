use Rattle.std.proofs.Common.{◌≡◌, ◌∙◌, ◌+◌, ◌<◌, ◌∷◌, ◌++◌, [], List, ap, arith, length, length-set, map, refl, sym, ℕ}
use Rattle.std.specs.List.{range_with_len}
use Rattle.std.proofs.lemmas.List.{take_more_set}
use Rattle.std.proofs.lemmas.List.FromFn.{map-range_with_len_more}
use Rattle.rand_chacha.specs.ChaCha.{ChaCha, next_word}
use Rattle.pin_blocks.specs.FillWords.{fill_word}
use Rattle.pin_blocks.proofs.FillLemmas.{generator_at, generator_at-next}
use Rattle.pin_blocks.proofs.fill.fill_words.Goals as goal

pub loop-word-preserved : goal.loop-word-preserved
loop-word-preserved c =
    let seed : List ℕ = c.args.seed.now in
    let first : ℕ = c.args.first in
    let i : ℕ = c.loop-word.word-index in
    let items : List ℕ = c.loop-word.word-items in
    let long : length items ≡ length c.args.words.now = c.loop-word.invariant.1 in
    let within : i < length items = omega arith in
    let step : (c.next_word.result, c.next_word.new.self) ≡ next_word 10 (generator_at seed (first + i)) =
    c.next_word.ensures ∙ ap (λ (generator : ChaCha). next_word 10 generator) c.loop-word.invariant.0 in
    let word : c.next_word.result ≡ fill_word seed (first + i) = ap (λ (pair : ℕ × ChaCha). pair.0) step in (
      ap (λ (pair : ℕ × ChaCha). pair.1) step ∙ generator_at-next seed (first + i) (first + (i + 1)) (omega arith),
      length-set items i c.next_word.result ∙ long,
      take_more_set items i c.next_word.result within
          ∙ (ap (λ front. front ++ c.next_word.result ∷ []) c.loop-word.invariant.2
          ∙ (ap (λ last. map (fill_word seed) (range_with_len first i) ++ last ∷ []) word
          ∙ sym (map-range_with_len_more (fill_word seed) first i (first + i) refl))),
    )
