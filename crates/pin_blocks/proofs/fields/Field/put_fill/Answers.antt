use Rattle.std.proofs.Common.{◌+◌, ◌≡◌, ◌∙◌, List, arith, length, sym, ℕ}
use Rattle.std.specs.Prelude.{◌%◌}
use Rattle.std.proofs.lemmas.List.{get_or-map, length-map}
use Rattle.pin_blocks.specs.Blocks.{fill_nibbles}
use Rattle.std.proofs.lemmas.Bool.Decides.{nat_tests}
use Rattle.pin_blocks.proofs.PutNibbles.{sixteen-full, sixteen-more}
use Rattle.pin_blocks.proofs.fields.Field.put_fill.Goals as goal

pub returns-then-is_full : goal.returns-then-is_full
returns-then-is_full c = sixteen-full c.args.self.now (fill_nibbles c.args.words.now) (grind (arith, nat_tests, c.self.view_is, c.is_full.ensures.value, c.if-is_full.true))

pub loop-word-preserved : goal.loop-word-preserved
loop-word-preserved c =
    let words : List ℕ = c.args.words.now in
    let long : length (fill_nibbles words) ≡ length words = length-map words _ in
    let within = c.loop-word-test.true in
    c.put.ensures
    ∙ sixteen-more c.args.self.now (fill_nibbles words) c.loop-word.self c.loop-word.word-index _ (omega arith)
    (sym (get_or-map (λ (word : ℕ). 10 + word % 6) words c.loop-word.word-index 0 0 within)) c.loop-word.invariant
