use Rattle.flat_machine.proofs.Completeness as lemma
use Rattle.flat_machine.proofs.laws.completeness.begin_is_complete.Goals as goal

pub returns-clause-command : goal.returns-clause-command
returns-clause-command c = λ set h w a is none. lemma.begin_complete set h w a is.on is.idle is.first none

pub returns-clause-entry : goal.returns-clause-entry
returns-clause-entry c = λ set h w a e is. lemma.entry_complete set h w a e is.on is.idle is.first
