use Rattle.flat_machine.proofs.LoadingWork.{loading_work}
use Rattle.flat_machine.proofs.ReplacingWork.{changes_work}
use Rattle.flat_machine.proofs.laws.devices.table_calls_are_device_work.Goals as goal

pub returns-clause-changes : goal.returns-clause-changes
returns-clause-changes g c = λ todo count fault old new s t on in_step made. changes_work c.splices.ensures.range todo count fault old new (g.D.Disk.state s) (g.D.Disk.state t) (g.met.D.Disk.laws s) (g.met.D.Disk.laws t) on made in_step

pub returns-clause-loading : goal.returns-clause-loading
returns-clause-loading g c = λ result old new s t on loads. loading_work result old new (g.D.Disk.state s) (g.D.Disk.state t) on loads
