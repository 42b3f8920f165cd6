use Rattle.std.proofs.Common.{◌≡◌, ◌<◌, ℕ, List, ◌∙◌, ◌+◌, ◌*◌, ◌++◌, [], ◌∷◌, Some, drop, length, take, ap, sym, arith}
use Rattle.std.specs.Prelude.{slice_set}
use Rattle.std.proofs.lemmas.List.{length-set, take_all}
use Rattle.pad_words.specs.Bytes.{unpacked}
use Rattle.script_lang.specs.Words.{hex_values}
use Rattle.script_lang.proofs.DigitLemmas.{values_before, values_more, values_stop, values_end, bytes_end, bytes_stop, none_mapped, unpacked_set}
use Rattle.script_lang.proofs.digit_fields.fill_bytes.Goals as goal

pub returns-in_err-left : goal.returns-in_err-left
returns-in_err-left c = none_mapped _ _ _ c.from_residual.ensures (bytes_stop c.args.word.now (values_stop c.args.word.now (unpacked (take c.loop-i.i c.loop-i.bytes)) (2 * c.loop-i.i) (omega (arith, c.requires, c.loop-i-test.true)) c.in_err-left.ensures.value c.loop-i.invariant.same))

pub returns-in_err-right : goal.returns-in_err-right
returns-in_err-right c =
    let word : List ℕ = c.args.word.now in
    let i : ℕ = c.loop-i.i in
    let front : List ℕ = unpacked (take i c.loop-i.bytes) in
    let left = values_more word front (2 * i) c.in_ok-left.left (omega (arith, c.requires, c.loop-i-test.true)) c.in_ok-left.ensures.value c.loop-i.invariant.same in
    none_mapped _ _ _ c.from_residual-in_err-right.ensures (bytes_stop word (values_stop word (front ++ c.in_ok-left.left ∷ []) (2 * i + 1) (omega (arith, c.requires, c.loop-i-test.true)) c.in_err-right.ensures.value left))

pub loop-i-preserved : goal.loop-i-preserved
loop-i-preserved c =
    let word : List ℕ = c.args.word.now in
    let bytes : List ℕ = c.loop-i.bytes in
    let i : ℕ = c.loop-i.i in
    let l : ℕ = c.in_ok-left.left in
    let r : ℕ = c.in_ok-right.right in
    let front : List ℕ = unpacked (take i bytes) in
    let inside : i < length bytes = omega (arith, c.loop-i-test.true, c.loop-i.invariant.count) in
    let left = values_more word front (2 * i) l (omega (arith, c.requires, c.loop-i-test.true)) c.in_ok-left.ensures.value c.loop-i.invariant.same in
    let right = values_more word (front ++ l ∷ []) (2 * i + 1) r (omega (arith, c.requires, c.loop-i-test.true)) c.in_ok-right.ensures.value left in
    let here : 2 * i + 1 + 1 ≡ 2 * (i + 1) = omega arith in
    let is : c.byte_of.result ≡ 16 * l + r = c.byte_of.ensures in
    record {
      count = length-set bytes i c.byte_of.result ∙ c.loop-i.invariant.count;
      same = right
          ∙ ap (λ (vs : List ℕ). values_before vs (hex_values (drop (2 * i + 1 + 1) word))) (unpacked_set bytes i l r inside c.in_ok-left.ensures.small c.in_ok-right.ensures.small)
          ∙ ap (λ (k : ℕ). values_before (unpacked (take (i + 1) (slice_set bytes i (16 * l + r)))) (hex_values (drop k word))) here
          ∙ ap (λ (b : ℕ). values_before (unpacked (take (i + 1) (slice_set bytes i b))) (hex_values (drop (2 * (i + 1)) word))) (sym is);
    }

pub returns : goal.returns
returns c =
    let i : ℕ = c.loop-i.i in
    let whole : take i c.loop-i.bytes ≡ c.loop-i.bytes = take_all i c.loop-i.bytes (omega (arith, c.loop-i-test.false, c.loop-i.invariant.count)) in
    let read = values_end c.args.word.now (unpacked (take i c.loop-i.bytes)) (2 * i) (omega (arith, c.requires, c.loop-i-test.false)) c.loop-i.invariant.same in
    bytes_end c.args.word.now c.loop-i.bytes (ap (λ (bs : List ℕ). Some (unpacked bs)) (sym whole) ∙ read)
