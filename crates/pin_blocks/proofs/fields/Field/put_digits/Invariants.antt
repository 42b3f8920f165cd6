use Rattle.std.proofs.Common.{◌≡◌, ◌++◌, map, take}
use Rattle.pin_blocks.specs.Blocks.{sixteen}
use Rattle.pin_blocks.proofs.fields.Field.put_digits.Given as goal

abbrev pub invariant-loop-digit : goal.invariant-loop-digit
invariant-loop-digit l = l.self ≡ sixteen (l.initial.self ++ take l.digit-index (map (λ digit. digit.value) l.digits))
