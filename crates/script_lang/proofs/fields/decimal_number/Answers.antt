use Rattle.std.proofs.Common.{◌∙◌}
use Rattle.script_lang.specs.Reading.{decimal_value}
use Rattle.script_lang.proofs.LoopLemmas.{digits_onto-more, digits_onto-stop, digits_onto-end, pow_more}
use Rattle.script_lang.proofs.fields.decimal_number.Goals as goal

pub returns-in_err-digit : goal.returns-in_err-digit
returns-in_err-digit c = c.from_residual.ensures ∙ digits_onto-stop 10 decimal_value c.args.word.now c.loop-c.n c.loop-c.c-index _ c.loop-c-test.true c.in_err-digit.ensures.value c.loop-c.invariant.same

pub loop-c-preserved : goal.loop-c-preserved
loop-c-preserved c = rw c.from.ensures record {
  small = pow_more 10 c.loop-c.c-index c.loop-c.n c.in_ok-digit.digit c.loop-c.invariant.small c.in_ok-digit.ensures.small;
  same = digits_onto-more 10 decimal_value c.args.word.now c.loop-c.n c.loop-c.c-index c.in_ok-digit.digit _ c.loop-c-test.true c.in_ok-digit.ensures.value c.loop-c.invariant.same;
}

pub returns : goal.returns
returns c = digits_onto-end 10 decimal_value c.args.word.now c.loop-c.n c.loop-c.c-index _ c.loop-c-test.false c.loop-c.invariant.same
