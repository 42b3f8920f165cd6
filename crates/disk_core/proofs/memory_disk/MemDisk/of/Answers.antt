use Rattle.std.proofs.Common.{arith, refl}
use Rattle.disk_core.specs.declared.disk.TheConstants.{DISK_BYTES}
use Rattle.disk_core.proofs.CrashImages.{only_clean}
use Rattle.disk_core.proofs.memory_disk.MemDisk.of.Goals as goal

pub returns-clause-stable : goal.returns-clause-stable
returns-clause-stable c = only_clean c.args.bytes _ DISK_BYTES refl (omega arith)
