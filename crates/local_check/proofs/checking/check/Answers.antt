use Rattle.std.proofs.Common.{◌≡◌, ◌∙◌, ◌<◌, ◌≤◌, List, ap, arith, get_or, length, map, sym, take, ℕ}
use Rattle.std.specs.Prelude.{bytes_eq}
use Rattle.std.proofs.lemmas.Bool.Decides.{nat_tests}
use Rattle.std.proofs.lemmas.List.{get_or-map, get_or-take, length-map, take_more_same}
use Rattle.local_check.proofs.SumLemmas.{bytes_eq-differ}
use Rattle.pad_words.specs.declared.numbers.Digit.{Digit}
use Rattle.local_check.proofs.checking.check.Goals as goal

-- a digit of the list is a value of the values
value_at : (digits : List Digit) (digit : Digit) (value i : ℕ) → i < length digits → value ≡ digit.value → digit ≡ get_or digits i digit
    → get_or (map (λ (d : Digit). d.value) digits) i 0 ≡ value
value_at digits digit value i within is at =
    get_or-map (λ (d : Digit). d.value) digits i digit 0 within ∙ (ap (λ (d : Digit). d.value) (sym at) ∙ sym is)

pub returns-then-get-sums : goal.returns-then-get-sums
returns-then-get-sums c =
    let digits : List Digit = c.args.digits.now in
    let values : List ℕ = map (λ (d : Digit). d.value) digits in
    let sums : List ℕ = c.check_sums-sums.result in
    let count : ℕ = c.args.request.now.count in
    let i : ℕ = c.loop-i.i in
    let few = c.requires.enough in
    let value : get_or values i 0 ≡ c.get.result =
    value_at digits c.index-digits-i.result c.get.result i (omega arith) c.get.ensures.value c.index-digits-i.is in
    bytes_eq-differ (take count values) (take count sums) i
    (λ same. c.if-get-sums.true (sym value ∙ (sym (get_or-take count values i 0 c.loop-i-test.true) ∙ (same ∙ get_or-take count sums i 0 c.loop-i-test.true))))
    ∙ ap (λ others. bytes_eq (take count values) (take count others)) c.check_sums-sums.ensures

pub loop-i-preserved : goal.loop-i-preserved
loop-i-preserved c =
    let digits : List Digit = c.args.digits.now in
    let values : List ℕ = map (λ (d : Digit). d.value) digits in
    let long : length values ≡ length digits = length-map digits _ in
    let i : ℕ = c.loop-i.i in
    let few : c.args.request.now.count ≤ 16 = grind (arith, nat_tests, c.requires.admitted) in
    let value : get_or values i 0 ≡ c.get.result =
    value_at digits c.index-digits-i.result c.get.result i (omega arith) c.get.ensures.value c.index-digits-i.is in
    take_more_same values c.check_sums-sums.result i 0 (omega arith) (omega arith) c.loop-i.invariant (value ∙ c.if-get-sums.false)
