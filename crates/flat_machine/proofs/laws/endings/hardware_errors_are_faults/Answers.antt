use Rattle.flat_machine.proofs.EndCauses
use Rattle.flat_machine.proofs.StoppedRuns
use Rattle.flat_machine.proofs.laws.endings.hardware_errors_are_faults.Goals as goal

pub returns-clause-ended : goal.returns-clause-ended
returns-clause-ended c = λ set h s w e tells. EndCauses.hardware_why set h s w e tells.told tells.reply

pub returns-clause-stopped : goal.returns-clause-stopped
returns-clause-stopped c = StoppedRuns.stopped_by_fault

pub returns-clause-loaded : goal.returns-clause-loaded
returns-clause-loaded c = StoppedRuns.loaded_ready

pub returns-clause-unloaded : goal.returns-clause-unloaded
returns-clause-unloaded c = StoppedRuns.unloaded_since
