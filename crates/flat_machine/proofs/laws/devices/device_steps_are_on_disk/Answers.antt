use Rattle.flat_machine.proofs.StepsOnDisk.{boot_keeps, off_keeps, replaced_keeps, reset_keeps}
use Rattle.flat_machine.proofs.laws.devices.device_steps_are_on_disk.Goals as goal

pub returns-clause-replaced : goal.returns-clause-replaced
returns-clause-replaced g c = λ set shared held owner work todo count fault old new s t replaces.
    replaced_keeps c.splices.ensures.range set shared held owner todo count fault old new (g.D.Disk.state s) (g.D.Disk.state t) (g.met.D.Disk.laws s) (g.met.D.Disk.laws t) work replaces

pub returns-clause-reset : goal.returns-clause-reset
returns-clause-reset g c = λ set shared held owner result old new s t. reset_keeps set shared held owner result old new (g.D.Disk.state s) (g.D.Disk.state t)

pub returns-clause-boot : goal.returns-clause-boot
returns-clause-boot g c = λ shared result old new s on t off. boot_keeps shared result old new (g.D.Disk.state s) (g.D.Disk.state on) (g.D.Disk.state t)

pub returns-clause-off : goal.returns-clause-off
returns-clause-off g c = λ shared store s t on. off_keeps shared store (g.D.Disk.state s) (g.D.Disk.state t) on (g.met.D.Disk.laws s)
