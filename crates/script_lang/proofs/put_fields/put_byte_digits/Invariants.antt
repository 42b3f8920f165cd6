use Rattle.std.proofs.Common.{◌≡◌, ◌++◌, map, take}
use Rattle.pad_words.specs.Bytes.{unpacked}
use Rattle.script_lang.specs.Words.{hex_digit}
use Rattle.script_lang.proofs.put_fields.put_byte_digits.Given as goal

abbrev pub invariant-loop-byte : goal.invariant-loop-byte
invariant-loop-byte l = l.text ≡ l.fn.text ++ map hex_digit (unpacked (take l.byte-index l.bytes))
