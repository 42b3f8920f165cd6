use Rattle.std.proofs.Common.{◌≡◌, ◌++◌, take}
use Rattle.pin_blocks.specs.Blocks.{fill_nibbles, sixteen}
use Rattle.pin_blocks.proofs.fields.Field.put_fill.Given as goal

abbrev pub invariant-loop-word : goal.invariant-loop-word
invariant-loop-word l = l.self ≡ sixteen (l.initial.self ++ take l.word-index (fill_nibbles l.words))
