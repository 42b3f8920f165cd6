use Rattle.flat_machine.proofs.TwinRuns as lemma
use Rattle.flat_machine.proofs.laws.twins.alike_work.Goals as goal

pub returns-clause-due : goal.returns-clause-due
returns-clause-due c = lemma.alike_due

pub returns-clause-fate : goal.returns-clause-fate
returns-clause-fate c = lemma.alike_fate
