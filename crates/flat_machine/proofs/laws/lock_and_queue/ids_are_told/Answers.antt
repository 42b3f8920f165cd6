use Rattle.flat_machine.proofs.OwnersTold as lemma
use Rattle.flat_machine.proofs.laws.lock_and_queue.ids_are_told.Goals as goal

pub returns-clause-ids : goal.returns-clause-ids
returns-clause-ids c = lemma.ids_told

pub returns-clause-owners : goal.returns-clause-owners
returns-clause-owners c = lemma.owners_told

pub returns-clause-submitter : goal.returns-clause-submitter
returns-clause-submitter c = lemma.told_to_submitter
