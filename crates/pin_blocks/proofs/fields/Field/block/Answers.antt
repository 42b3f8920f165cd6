use Rattle.std.proofs.Common.{◌≡◌, ◌<◌, ◌≢◌, ◌∙◌, List, ap, length, arith, below_more, get_or-set_other, get_or-set_same, length-set, ℕ}
use Rattle.pad_words.specs.Bytes.{packed}
use Rattle.pin_blocks.proofs.Packing.{packed-by_place}
use Rattle.pin_blocks.proofs.fields.Field.block.Goals as goal

pub loop-i-preserved : goal.loop-i-preserved
loop-i-preserved c =
    let long : length c.loop-i.bytes ≡ 8 = c.loop-i.invariant.0 in
    let within : c.loop-i.i < length c.loop-i.bytes = omega arith in (
      length-set c.loop-i.bytes c.loop-i.i _ ∙ long,
      below_more _ _
          (λ k below. let other : k ≢ c.loop-i.i = omega arith in rw get_or-set_other (c.loop-i.invariant.1 k below))
          (rw get_or-set_same),
    )

pub returns : goal.returns
returns c =
    let nibbles : List ℕ = c.as_slice-nibbles.result.now in
    let whole : nibbles ≡ c.args.self.now = c.as_slice-nibbles.ensures.value ∙ c.self.view_is in
    let sixteen : length nibbles ≡ 16 = ap length whole ∙ c.requires in
    packed-by_place nibbles c.loop-i.bytes (omega arith) (λ k below. c.loop-i.invariant.1 k (omega arith)) ∙ ap packed whole
