use Rattle.flat_machine.proofs.PressLemmas as lemma
use Rattle.flat_machine.proofs.laws.kept.presses_of_entry.Goals as goal

pub returns : goal.returns
returns c = lemma.presses_of_entry
