use Rattle.std.proofs.Common.{◌≡◌, ◌*◌, drop, length, take}
use Rattle.pad_words.specs.Bytes.{unpacked}
use Rattle.script_lang.specs.Words.{hex_values}
use Rattle.script_lang.proofs.DigitLemmas.{values_before}
use Rattle.script_lang.proofs.digit_fields.fill_bytes.Given as goal

abbrev pub invariant-loop-i : goal.invariant-loop-i
invariant-loop-i l = record {
  count : length l.bytes ≡ length l.fn.bytes;
  same : hex_values l.word ≡ values_before (unpacked (take l.i l.bytes)) (hex_values (drop (2 * l.i) l.word));
}
