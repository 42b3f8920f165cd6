use Rattle.flat_machine.proofs.ClearingOff as lemma
use Rattle.flat_machine.proofs.laws.clearing.nothing_held_while_off.Goals as goal

pub returns-clause-runs : goal.returns-clause-runs
returns-clause-runs c = lemma.nothing_while_off

pub returns-clause-off : goal.returns-clause-off
returns-clause-off c = lemma.nothing_after_off
