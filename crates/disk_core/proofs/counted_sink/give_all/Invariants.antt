use Rattle.std.proofs.Common.{◌≡◌, ◌≤◌, ◌-◌, take, length}
use Rattle.disk_core.specs.Streams.{with_more}
use Rattle.disk_core.specs.CountedSinks.{counted_given, counted_faults}
use Rattle.disk_core.proofs.counted_sink.give_all.Given as goal

abbrev pub invariant-loop-at : goal.invariant-loop-at
invariant-loop-at g l = record {
  within : l.at ≤ length l.bytes;
  given : counted_given g.K.Sink.given l.sink ≡ with_more (counted_given g.K.Sink.given l.fn.sink) (take l.at l.bytes);
  same : counted_faults g.K.Sink.faults l.sink ≡ counted_faults g.K.Sink.faults l.fn.sink;
}

abbrev pub decreases-loop-at : goal.decreases-loop-at
decreases-loop-at g l = length l.bytes - l.at
