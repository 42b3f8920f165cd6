use Rattle.std.proofs.Common.{arith, length-drop, ◌∙◌}
use Rattle.disk_core.proofs.GivenBytes.{with_more-take_add}
use Rattle.disk_core.proofs.counted_sink.give_all.Goals as goal

pub loop-at-preserved : goal.loop-at-preserved
loop-at-preserved g c = record {
  within = omega (arith, c.in_ok-n.ensures.gives.0, length-drop c.loop-at.at c.args.bytes.now);
  given = with_more-take_add _ _ _ c.args.bytes.now c.loop-at.at c.in_ok-n.n c.loop-at.invariant.given c.in_ok-n.ensures.gives.1;
  same = c.in_ok-n.ensures.cause.done ∙ c.loop-at.invariant.same;
}
