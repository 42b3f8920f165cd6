use Rattle.flat_machine.proofs.ClearingChanges as lemma
use Rattle.flat_machine.proofs.laws.clearing.part_changes_at.Goals as goal

pub returns : goal.returns
returns c = lemma.part_changes
