use Rattle.flat_machine.proofs.RequestRuns as lemma
use Rattle.flat_machine.proofs.laws.requests.queue_bound.Goals as goal

pub returns : goal.returns
returns c = lemma.queue_bound
