use Rattle.std.proofs.Common.{◌≡◌, ℕ, List, [], ◌∷◌, ◌++◌, ◌+◌, drop, length, ap, sym, ◌∙◌, arith}
use Rattle.std.proofs.lemmas.List.{length-append}
use Rattle.script_lang.specs.Words.{hex_values}
use Rattle.script_lang.proofs.DigitLemmas.{values_before, values_more, values_stop, values_end, if_true}
use Rattle.script_lang.proofs.digit_fields.hex_values.Goals as goal

pub returns-in_err-value : goal.returns-in_err-value
returns-in_err-value c = c.from_residual.ensures ∙ values_stop c.args.word.now c.loop-c.values c.loop-c.c-index c.loop-c-test.true c.in_err-value.ensures.value c.loop-c.invariant.same

pub loop-c-preserved : goal.loop-c-preserved
loop-c-preserved c =
    let old : List ℕ = c.loop-c.values in
    let v : ℕ = c.in_ok-value.value in
    let more = values_more c.args.word.now old c.loop-c.c-index v c.loop-c-test.true c.in_ok-value.ensures.value c.loop-c.invariant.same in
    let put : c.push.new.self ≡ old ++ v ∷ [] = if_true c.push.result _ c.push.ensures.put (c.push.ensures.fits.1 (omega (arith, c.requires, c.loop-c.invariant.count, c.loop-c-test.true), c.in_ok-value.ensures.small)) in
    record {
      count = ap (λ (vs : List ℕ). length vs) put ∙ omega (arith, length-append old (v ∷ []), c.loop-c.invariant.count);
      same = more ∙ ap (λ (vs : List ℕ). values_before vs (hex_values (drop (c.loop-c.c-index + 1) c.args.word.now))) (sym put);
    }

pub returns : goal.returns
returns c = values_end c.args.word.now c.loop-c.values c.loop-c.c-index c.loop-c-test.false c.loop-c.invariant.same
