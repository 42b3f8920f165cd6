use Rattle.std.proofs.Common.{length, ◌-◌, ◌≡◌, ◌≤◌}
use Rattle.lane_scripts.specs.NextLines.{AreFormed, IsRead}
use Rattle.script_lang.specs.Lines.{still}
use Rattle.std.specs.Prelude.{IfSome}
use Rattle.lane_scripts.proofs.reading.read_lanes.Given as goal

abbrev pub invariant-loop-lanes : goal.invariant-loop-lanes
invariant-loop-lanes g l = record {
  read : IfSome (g.S.Source.left l.fn.source) (λ script. IsRead script l.count (still l.reader.kept (g.S.Source.left l.source)) l.lanes);
  sixteen : length l.lanes ≡ 16;
  formed : AreFormed l.lanes;
  few : length l.reader.kept ≤ 4096;
  lines : l.reader.lines ≡ l.count;
  most : l.count ≤ 65536;
  later : g.S.Source.faults l.fn.source ≤ g.S.Source.faults l.source;
}

abbrev pub decreases-loop-lanes : goal.decreases-loop-lanes
decreases-loop-lanes g l = 65536 - l.count
