use Rattle.flat_machine.proofs.Accusations
use Rattle.flat_machine.proofs.laws.endings.accusations_are_denials.Goals as goal

pub returns-clause-only : goal.returns-clause-only
returns-clause-only c = Accusations.accusations_are_denials

pub returns-clause-each : goal.returns-clause-each
returns-clause-each c = Accusations.denial_is_heard
