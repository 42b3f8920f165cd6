use Rattle.disk_core.proofs.FlakySteps.{refused_write}
use Rattle.disk_core.proofs.flaky_disk.FlakyDiskDisk.write_at.Goals as goal

pub returns-in_err-begin-clause-step : goal.returns-in_err-begin-clause-step
returns-in_err-begin-clause-step g c = refused_write g.D.Disk.state g.met.D.Disk.laws c.args.at c.args.bytes.now c.requires c.args.self.now c.begin.new.self c.from_residual.result c.in_err-begin.field-0.0 c.from_residual.ensures.1 (c.in_err-begin.ensures.same)
