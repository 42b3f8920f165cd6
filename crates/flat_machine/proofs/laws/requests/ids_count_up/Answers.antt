use Rattle.flat_machine.proofs.RequestRuns as lemma
use Rattle.flat_machine.proofs.laws.requests.ids_count_up.Goals as goal

pub returns : goal.returns
returns c = lemma.ids_count_up
