use Rattle.std.proofs.Common.{ℕ, [], ◌∷◌, ◌++◌, ap, ◌∙◌}
use Rattle.script_lang.proofs.DigitLemmas.{digits_put}
use Rattle.script_lang.proofs.put_fields.put_byte_digits.Goals as goal

pub loop-byte-preserved : goal.loop-byte-preserved
loop-byte-preserved c =
    digits_put c.args.text.now c.loop-byte.text c.push.new.self c.push-in-loop-byte.new.self c.args.bytes.now c.loop-byte.byte-index c.loop-byte-test.true c.loop-byte.invariant
    (c.in_ok-push.ensures.ok ∙ ap (λ (d : ℕ). c.loop-byte.text ++ d ∷ []) c.hex_digit.ensures)
    (c.in_ok-push-2.ensures.ok ∙ ap (λ (d : ℕ). c.push.new.self ++ d ∷ []) c.hex_digit-in-loop-byte.ensures)
