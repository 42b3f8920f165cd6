use Rattle.std.proofs.Common.{◌≡◌, ◌++◌, map, take}
use Rattle.script_lang.specs.Words.{hex_digit}
use Rattle.script_lang.proofs.put_fields.put_digits.Given as goal

abbrev pub invariant-loop-value : goal.invariant-loop-value
invariant-loop-value l = l.text ≡ l.fn.text ++ map hex_digit (take l.value-index l.values)
