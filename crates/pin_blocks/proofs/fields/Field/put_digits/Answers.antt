use Rattle.std.proofs.Common.{◌≡◌, ◌∙◌, List, ap, arith, get_or, length, map, sym, ℕ}
use Rattle.std.proofs.lemmas.List.{get_or-map, length-map}
use Rattle.pad_words.specs.declared.numbers.Digit.{Digit}
use Rattle.std.proofs.lemmas.Bool.Decides.{nat_tests}
use Rattle.pin_blocks.proofs.PutNibbles.{sixteen-full, sixteen-more}
use Rattle.pin_blocks.proofs.fields.Field.put_digits.Goals as goal

pub returns-then-is_full : goal.returns-then-is_full
returns-then-is_full c = sixteen-full c.args.self.now (map (λ (digit : Digit). digit.value) c.args.digits.now) (grind (arith, nat_tests, c.self.view_is, c.is_full.ensures.value, c.if-is_full.true))

pub loop-digit-preserved : goal.loop-digit-preserved
loop-digit-preserved c =
    let digits : List Digit = c.args.digits.now in
    let values : List ℕ = map (λ (digit : Digit). digit.value) digits in
    let long : length values ≡ length digits = length-map digits _ in
    let digit : Digit = c.digit-item.result in
    let value : c.get.result ≡ get_or values c.loop-digit.digit-index 0 =
    c.get.ensures.value
    ∙ (ap (λ (d : Digit). d.value) c.digit-item.is
    ∙ sym (get_or-map (λ (d : Digit). d.value) digits c.loop-digit.digit-index digit 0 c.loop-digit-test.true)) in
    c.put.ensures
    ∙ sixteen-more c.args.self.now values c.loop-digit.self c.loop-digit.digit-index c.get.result (omega arith) value c.loop-digit.invariant
