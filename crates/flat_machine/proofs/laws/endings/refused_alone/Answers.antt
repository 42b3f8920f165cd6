use Rattle.flat_machine.proofs.Accusations
use Rattle.flat_machine.proofs.laws.endings.refused_alone.Goals as goal

pub returns-clause-finish : goal.returns-clause-finish
returns-clause-finish c = Accusations.refused_alone

pub returns-clause-entry : goal.returns-clause-entry
returns-clause-entry c = λ set h w a e why is. Accusations.refused_entry_says set h w a e why is.on is.idle is.first
