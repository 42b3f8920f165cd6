use Rattle.std.proofs.Common.{length, ◌+◌, ◌≤◌}
use Rattle.flat_machine.specs.State.{opening}
use Rattle.pad_machine.specs.Runs.{PadIsTied}
use Rattle.pad_machine.specs.Stands.{StandsFor}
use Rattle.pad_replay.specs.Generators.{IsWithin, lines_left}
use Rattle.pad_replay.specs.Parts.{RanFront}
use Rattle.pad_replay.specs.Replays.{progress_of}
use Rattle.std.specs.Prelude.{List, None, ℕ}
use Rattle.pad_replay.proofs.replay.Replay.run_generated.Given as goal

abbrev pub invariant-loop-line : goal.invariant-loop-line
invariant-loop-line g l = record {
  ran : (seed : List ℕ) → StandsFor l.fn.self.pad seed opening
      → RanFront seed (lines_left l.fn.script) (lines_left l.script) l.count (progress_of l.fn.self None (g.D.Disk.state l.fn.disk)) (progress_of l.self None (g.D.Disk.state l.disk));
  within : IsWithin l.script;
  few : length (lines_left l.script) + l.count ≤ 100000;
  ids : length l.self.pad.kept.shared.requests ≤ l.count;
  tied : PadIsTied l.self.pad (g.D.Disk.state l.disk);
}

abbrev pub decreases-loop-line : goal.decreases-loop-line
decreases-loop-line g l = length (lines_left l.script)
