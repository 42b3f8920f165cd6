use Rattle.file_disk.proofs.FileSteps.{write_step}
use Rattle.file_disk.proofs.file_disk.FileDiskDisk.write_at.Goals as goal

pub returns-in_err-begin-clause-step : goal.returns-in_err-begin-clause-step
returns-in_err-begin-clause-step g c = write_step c.torn_lists.ensures.same c.args.at c.args.bytes.now c.args.self.now c.begin.new.self _ c.requires

pub returns-clause-step : goal.returns-clause-step
returns-clause-step g c = write_step c.torn_lists.ensures.same c.args.at c.args.bytes.now c.args.self.now c.end.new.self _ c.requires
