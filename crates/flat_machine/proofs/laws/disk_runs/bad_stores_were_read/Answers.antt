use Rattle.flat_machine.proofs.BadStores.{bad_bytes, bad_unloaded}
use Rattle.flat_machine.specs.DiskSteps.{switched}
use Rattle.flat_machine.specs.Machine.{plan}
use Rattle.flat_machine.proofs.laws.disk_runs.bad_stores_were_read.Goals as goal

pub returns-clause-bytes : goal.returns-clause-bytes
returns-clause-bytes g c = λ layout set before after step slot s t on. bad_bytes layout before after (switched before step) (plan set before step) slot (g.D.Disk.state s) (g.D.Disk.state t) on (g.met.D.Disk.laws t)

pub returns-clause-unloaded : goal.returns-clause-unloaded
returns-clause-unloaded g c = λ layout set before after step slot s t apart on. bad_unloaded layout apart before after (switched before step) (plan set before step) slot (g.D.Disk.state s) (g.D.Disk.state t) on (g.met.D.Disk.laws t)
