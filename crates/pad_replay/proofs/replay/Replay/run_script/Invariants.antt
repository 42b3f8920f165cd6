use Rattle.std.proofs.Common.{length, ◌-◌, ◌≡◌, ◌≤◌}
use Rattle.disk_core.specs.CountedSinks.{counted_faults, counted_given}
use Rattle.flat_machine.specs.State.{opening}
use Rattle.pad_machine.specs.Runs.{PadIsTied}
use Rattle.pad_machine.specs.Stands.{StandsFor}
use Rattle.pad_replay.specs.Parts.{RanLines}
use Rattle.pad_replay.specs.Replays.{progress_of}
use Rattle.script_lang.specs.Lines.{still}
use Rattle.std.specs.Prelude.{IfSome, List, Some, ℕ}
use Rattle.pad_replay.proofs.replay.Replay.run_script.Given as goal

abbrev pub invariant-loop-line : goal.invariant-loop-line
invariant-loop-line g l = record {
  ran : IfSome (g.S.Source.left l.fn.source) (λ script. (rest : List ℕ) × (still l.reader.kept (g.S.Source.left l.source) ≡ Some rest) × ((seed : List ℕ) → StandsFor l.fn.self.pad seed opening
      → RanLines seed script l.count rest (progress_of l.fn.self (counted_given g.K.Sink.given l.fn.sink) (g.D.Disk.state l.fn.disk)) (progress_of l.self (counted_given g.K.Sink.given l.sink) (g.D.Disk.state l.disk))));
  few : length l.reader.kept ≤ 4096;
  lines : l.reader.lines ≡ l.count;
  most : l.count ≤ 65536;
  ids : length l.self.pad.kept.shared.requests ≤ l.count;
  tied : PadIsTied l.self.pad (g.D.Disk.state l.disk);
  source_later : g.S.Source.faults l.fn.source ≤ g.S.Source.faults l.source;
  sink_later : counted_faults g.K.Sink.faults l.fn.sink ≤ counted_faults g.K.Sink.faults l.sink;
}

abbrev pub decreases-loop-line : goal.decreases-loop-line
decreases-loop-line g l = 65536 - l.count
