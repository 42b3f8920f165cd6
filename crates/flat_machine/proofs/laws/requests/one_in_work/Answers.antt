use Rattle.flat_machine.proofs.RequestRuns as lemma
use Rattle.flat_machine.proofs.laws.requests.one_in_work.Goals as goal

pub returns : goal.returns
returns c = lemma.one_in_work
