use Rattle.flat_machine.proofs.DeviceStays.{performs_keeps}
use Rattle.flat_machine.proofs.QuietWorks.{kept_keeps, quiet_on_disk}
use Rattle.flat_machine.proofs.laws.devices.quiet_steps_leave_the_disk.Goals as goal
use Rattle.pad_steps.specs.declared.steps.DiskWord.TheVariants.{Quiet}

pub returns-clause-kept : goal.returns-clause-kept
returns-clause-kept g c = kept_keeps

pub returns-clause-works : goal.returns-clause-works
returns-clause-works g c = λ set shared held owner work. performs_keeps set shared held owner work Quiet

pub returns-clause-on_disk : goal.returns-clause-on_disk
returns-clause-on_disk g c = λ before after store d keeps kept. quiet_on_disk before after keeps store (g.D.Disk.state d) (g.met.D.Disk.laws d) kept
