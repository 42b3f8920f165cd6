use Rattle.std.proofs.Common.{arith}
use Rattle.disk_core.proofs.memory_disk.settle.Goals as goal

pub returns : goal.returns
returns c i lt = c.loop-i.invariant.done i (omega arith)
