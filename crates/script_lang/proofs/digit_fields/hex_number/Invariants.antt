use Rattle.std.proofs.Common.{◌≡◌, ◌<◌, ◌^◌, drop}
use Rattle.script_lang.specs.Reading.{hex_number, digits_onto}
use Rattle.script_lang.specs.Words.{hex_value}
use Rattle.script_lang.proofs.digit_fields.hex_number.Given as goal

abbrev pub invariant-loop-c : goal.invariant-loop-c
invariant-loop-c l = record {
  small : l.n < 16 ^ l.c-index;
  same : hex_number l.word ≡ digits_onto 16 hex_value l.n (drop l.c-index l.word);
}
