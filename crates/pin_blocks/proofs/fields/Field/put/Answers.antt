use Rattle.std.proofs.Common.{arith, ◌∷◌, []}
use Rattle.std.proofs.lemmas.Bool.Decides.{nat_tests}
use Rattle.pin_blocks.proofs.PutNibbles.{sixteen-full}
use Rattle.pin_blocks.proofs.fields.Field.put.Goals as goal

pub returns-else-not-is_full : goal.returns-else-not-is_full
returns-else-not-is_full c = sixteen-full c.args.self.now (c.args.nibble ∷ []) (grind (arith, nat_tests, c.self.view_is, c.is_full.ensures.value, c.if-not-is_full.false))
