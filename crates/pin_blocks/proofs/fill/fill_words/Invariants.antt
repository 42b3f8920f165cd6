use Rattle.std.proofs.Common.{◌≡◌, ◌+◌, length, map, take}
use Rattle.std.specs.List.{range_with_len}
use Rattle.pin_blocks.specs.FillWords.{fill_word}
use Rattle.pin_blocks.proofs.FillLemmas.{generator_at}
use Rattle.pin_blocks.proofs.fill.fill_words.Given as goal

abbrev pub invariant-loop-word : goal.invariant-loop-word
invariant-loop-word l =
    (l.generator ≡ generator_at l.seed (l.first + l.word-index))
    × (length l.word-items ≡ length l.initial.word-items)
    × (take l.word-index l.word-items ≡ map (fill_word l.seed) (range_with_len l.first l.word-index))
