use Rattle.flat_machine.proofs.PowerLemmas as lemma
use Rattle.flat_machine.proofs.laws.pins.power_goes.Goals as goal

pub returns-clause-cut : goal.returns-clause-cut
returns-clause-cut c = lemma.cut_leaves

pub returns-clause-off : goal.returns-clause-off
returns-clause-off c = lemma.off_leaves
