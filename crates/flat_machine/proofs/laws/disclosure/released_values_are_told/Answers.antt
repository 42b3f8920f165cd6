use Rattle.flat_machine.proofs.ReleasesTold as lemma
use Rattle.flat_machine.proofs.laws.disclosure.released_values_are_told.Goals as goal

pub returns : goal.returns
returns c = lemma.run_tells
