use Rattle.std.proofs.Common.{ap, arith, length, ◌∙◌}
use Rattle.script_lang.proofs.LineLemmas.{Stays-then, grown-behind}
use Rattle.script_lang.specs.Lines.{IsOpen, feed_at}
use Rattle.script_lang.proofs.line_buffer.LineBuffer.gather.Goals as goal

pub loop-self-preserved : goal.loop-self-preserved
loop-self-preserved g c =
    let open_front : IsOpen c.loop-self.self = c.is_open.ensures.open_front c.loop-self-test.true in
    record {
      text = Stays-then _ _ _ c.loop-self.invariant.text c.in-Ok-true.ensures.grows.text;
      behind = grown-behind _ _ _ _ open_front c.in-Ok-true.ensures.grows;
      faults = c.in-Ok-true.ensures.cause.done ∙ c.loop-self.invariant.faults;
      lazy = λ lt. let same = (c.loop-self.invariant.lazy lt).0 in absurd (omega (arith, lt, ap length same, ap feed_at same, open_front.feed));
    }
