use Rattle.std.proofs.Common.{◌≡◌, ◌<◌, ◌^◌, drop}
use Rattle.script_lang.specs.Reading.{decimal_number, digits_onto, decimal_value}
use Rattle.script_lang.proofs.fields.decimal_number.Given as goal

abbrev pub invariant-loop-c : goal.invariant-loop-c
invariant-loop-c l = record {
  small : l.n < 10 ^ l.c-index;
  same : decimal_number l.word ≡ digits_onto 10 decimal_value l.n (drop l.c-index l.word);
}
