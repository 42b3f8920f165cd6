use Rattle.std.proofs.Common.{arith, refl, ◌∙◌}
use Rattle.std.proofs.lemmas.Bool.Decides.{nat_tests}
use Rattle.pin_blocks.proofs.PutNibbles.{sixteen-full, sixteen-more}
use Rattle.pin_blocks.proofs.fields.Field.put_all.Goals as goal

pub returns-then-is_full : goal.returns-then-is_full
returns-then-is_full c = sixteen-full c.args.self.now c.args.nibbles.now (grind (arith, nat_tests, c.self.view_is, c.is_full.ensures.value, c.if-is_full.true))

pub loop-nibble-preserved : goal.loop-nibble-preserved
loop-nibble-preserved c =
    c.put.ensures
    ∙ sixteen-more c.args.self.now c.args.nibbles.now c.loop-nibble.self c.loop-nibble.nibble-index _ c.loop-nibble-test.true refl c.loop-nibble.invariant
