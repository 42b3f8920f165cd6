use Rattle.std.proofs.Common.{ap}
use Rattle.disk_core.specs.DiskMemories.{DiskMemory}
use Rattle.pad_live_core_tests.proofs.tests.meeting.are_met.Goals as goal

pub run_live-ended-requires-clause-fresh : goal.run_live-ended-requires-clause-fresh
run_live-ended-requires-clause-fresh g c κs within = record {
  faults = ap (λ (memory : DiskMemory). memory.faults) c.new-disk.ensures.memory;
  cuts = ap (λ (memory : DiskMemory). memory.cuts) c.new-disk.ensures.memory;
  images = c.new-disk.ensures.stable;
}
