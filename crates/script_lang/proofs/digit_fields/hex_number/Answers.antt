use Rattle.std.proofs.Common.{arith, ◌∙◌}
use Rattle.script_lang.specs.Words.{hex_value}
use Rattle.script_lang.proofs.LoopLemmas.{digits_onto-more, digits_onto-stop, digits_onto-end, pow_more, small_pow}
use Rattle.script_lang.proofs.digit_fields.hex_number.Goals as goal

pub returns-in_err-digit-clause-value : goal.returns-in_err-digit-clause-value
returns-in_err-digit-clause-value c = c.from_residual.ensures ∙ digits_onto-stop 16 hex_value c.args.word.now c.loop-c.n c.loop-c.c-index _ c.loop-c-test.true c.in_err-digit.ensures.value c.loop-c.invariant.same

pub loop-c-preserved : goal.loop-c-preserved
loop-c-preserved c = rw c.from.ensures record {
  small = pow_more 16 c.loop-c.c-index c.loop-c.n c.in_ok-digit.digit c.loop-c.invariant.small c.in_ok-digit.ensures.small;
  same = digits_onto-more 16 hex_value c.args.word.now c.loop-c.n c.loop-c.c-index c.in_ok-digit.digit _ c.loop-c-test.true c.in_ok-digit.ensures.value c.loop-c.invariant.same;
}

pub overflow_add-n : goal.overflow_add-n
overflow_add-n c = omega (arith, small_pow 16 c.loop-c.c-index 8 c.loop-c.n (omega arith) (omega (arith, c.requires, c.loop-c-test.true)) c.loop-c.invariant.small, c.in_ok-digit.ensures.small, c.from.ensures)

pub returns-clause-value : goal.returns-clause-value
returns-clause-value c = digits_onto-end 16 hex_value c.args.word.now c.loop-c.n c.loop-c.c-index _ c.loop-c-test.false c.loop-c.invariant.same

pub overflow_cast-result : goal.overflow_cast-result
overflow_cast-result c = omega (arith, small_pow 16 c.loop-c.c-index 8 c.loop-c.n (omega arith) (omega arith) c.loop-c.invariant.small)
