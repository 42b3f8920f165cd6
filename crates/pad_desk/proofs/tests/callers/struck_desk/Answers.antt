use Rattle.std.proofs.Common.{◌≡◌, ap, subst, sym, ◌∙◌}
use Rattle.disk_core.specs.DiskMemories.{DiskMemory, memory_state}
use Rattle.disk_core.specs.DiskStates.{EachImage}
use Rattle.pad_desk.specs.Machines.{zero_bytes}
use Rattle.pad_desk.proofs.tests.callers.struck_desk.Goals as goal

pub new-requires-2-clause-disk : goal.new-requires-2-clause-disk
new-requires-2-clause-disk c = record {
  faults = ap (λ (memory : DiskMemory). memory.faults) c.arm.ensures.effect ∙ ap (λ (memory : DiskMemory). memory.faults) c.new-disk.ensures.memory;
  cuts = ap (λ (memory : DiskMemory). memory.cuts) c.arm.ensures.effect ∙ ap (λ (memory : DiskMemory). memory.cuts) c.new-disk.ensures.memory;
  images = subst (λ (memory : DiskMemory). EachImage (memory_state memory) (λ bytes. bytes ≡ zero_bytes)) (sym c.arm.ensures.effect) c.new-disk.ensures.stable;
}
