use Rattle.std.proofs.Common.{◌≡◌, ◌++◌, take}
use Rattle.pin_blocks.specs.Blocks.{sixteen}
use Rattle.pin_blocks.proofs.fields.Field.put_all.Given as goal

abbrev pub invariant-loop-nibble : goal.invariant-loop-nibble
invariant-loop-nibble l = l.self ≡ sixteen (l.initial.self ++ take l.nibble-index l.nibbles)
