use Rattle.std.proofs.Common.{◌≡◌, drop, length}
use Rattle.script_lang.specs.Words.{hex_values}
use Rattle.script_lang.proofs.DigitLemmas.{values_before}
use Rattle.script_lang.proofs.digit_fields.hex_values.Given as goal

abbrev pub invariant-loop-c : goal.invariant-loop-c
invariant-loop-c l = record {
  count : length l.values ≡ l.c-index;
  same : hex_values l.word ≡ values_before l.values (hex_values (drop l.c-index l.word));
}
