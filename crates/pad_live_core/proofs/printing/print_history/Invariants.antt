use Rattle.std.proofs.Common.{take, ◌≡◌, ◌≤◌}
use Rattle.std.specs.Prelude.{flat_map}
use Rattle.disk_core.specs.CountedSinks.{counted_faults}
use Rattle.disk_core.specs.Streams.{with_more}
use Rattle.pad_live_core.specs.HistoryTexts.{entry_text}
use Rattle.pad_live_core.proofs.printing.print_history.Given as goal

abbrev pub invariant-loop-entry : goal.invariant-loop-entry
invariant-loop-entry g l = (g.K.Sink.given l.sink.inner ≡ with_more (g.K.Sink.given l.fn.sink.inner) (flat_map entry_text (take l.entry-index l.history)))
    × (counted_faults g.K.Sink.faults l.fn.sink ≤ counted_faults g.K.Sink.faults l.sink)
