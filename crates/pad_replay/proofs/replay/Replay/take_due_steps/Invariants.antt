use Rattle.std.proofs.Common.{length, ◌≤◌}
use Rattle.disk_core.specs.CountedSinks.{counted_faults, counted_given}
use Rattle.flat_machine.specs.RequestFacts.{work_left}
use Rattle.flat_machine.specs.State.{Flat}
use Rattle.pad_machine.specs.Runs.{PadIsTied}
use Rattle.pad_machine.specs.Stands.{StandsFor}
use Rattle.pad_replay.specs.Parts.{Ran}
use Rattle.pad_replay.specs.Replays.{progress_of}
use Rattle.pad_replay.specs.Runs.{Player, auto_then}
use Rattle.std.specs.Prelude.{List, ℕ}
use Rattle.pad_replay.proofs.replay.Replay.take_due_steps.Given as goal

abbrev pub invariant-loop-step : goal.invariant-loop-step
invariant-loop-step g l = record {
  ran : (seed : List ℕ) (start : Flat) (rest : Player) → StandsFor l.fn.self.pad seed start → Ran seed start (auto_then seed rest) (auto_then seed rest)
      (progress_of l.fn.self (counted_given g.K.Sink.given l.fn.sink) (g.D.Disk.state l.fn.disk)) (progress_of l.self (counted_given g.K.Sink.given l.sink) (g.D.Disk.state l.disk));
  later : counted_faults g.K.Sink.faults l.fn.sink ≤ counted_faults g.K.Sink.faults l.sink;
  ids : length l.self.pad.kept.shared.requests ≤ length l.fn.self.pad.kept.shared.requests;
  tied : PadIsTied l.self.pad (g.D.Disk.state l.disk);
}

abbrev pub decreases-loop-step : goal.decreases-loop-step
decreases-loop-step g l = work_left l.self.pad.kept.shared.requests
