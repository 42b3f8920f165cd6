use Rattle.std.proofs.Common.{length, ◌+◌, ◌-◌, ◌<◌, ◌≡◌, ◌≤◌}
use Rattle.script_lang.specs.Lines.{Stays, feed_at, still}
use Rattle.script_lang.proofs.line_buffer.LineBuffer.gather.Given as goal

abbrev pub invariant-loop-self : goal.invariant-loop-self
invariant-loop-self g l = record {
  text : Stays (still l.fn.self (g.S.Source.left l.fn.source)) (still l.self (g.S.Source.left l.source));
  behind : length l.self ≤ feed_at l.self + 4096;
  faults : g.S.Source.faults l.source ≡ g.S.Source.faults l.fn.source;
  lazy : feed_at l.fn.self < length l.fn.self → (l.self ≡ l.fn.self) × (l.source ≡ l.fn.source);
}

abbrev pub decreases-loop-self : goal.decreases-loop-self
decreases-loop-self g l = 4097 - length l.self
