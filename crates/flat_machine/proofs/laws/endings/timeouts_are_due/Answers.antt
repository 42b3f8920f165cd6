use Rattle.flat_machine.proofs.EndCauses
use Rattle.flat_machine.proofs.OverdueRuns
use Rattle.flat_machine.proofs.laws.endings.timeouts_are_due.Goals as goal

pub returns-clause-ended : goal.returns-clause-ended
returns-clause-ended c = λ set h s w e tells. EndCauses.timeout_why set h s w e tells.told tells.reply

pub returns-clause-tick : goal.returns-clause-tick
returns-clause-tick c = OverdueRuns.tick_leaves_none

pub returns-clause-run : goal.returns-clause-run
returns-clause-run c = OverdueRuns.none_overdue
