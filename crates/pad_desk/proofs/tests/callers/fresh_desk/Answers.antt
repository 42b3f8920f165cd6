use Rattle.std.proofs.Common.{ap}
use Rattle.disk_core.specs.DiskMemories.{DiskMemory}
use Rattle.pad_desk.proofs.tests.callers.fresh_desk.Goals as goal

pub new-requires-3-clause-disk : goal.new-requires-3-clause-disk
new-requires-3-clause-disk c = record {
  faults = ap (λ (memory : DiskMemory). memory.faults) c.new-2.ensures.memory;
  cuts = ap (λ (memory : DiskMemory). memory.cuts) c.new-2.ensures.memory;
  images = c.new-2.ensures.stable;
}
