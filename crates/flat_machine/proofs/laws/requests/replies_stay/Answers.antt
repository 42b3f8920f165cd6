use Rattle.flat_machine.proofs.RequestRuns as lemma
use Rattle.flat_machine.proofs.laws.requests.replies_stay.Goals as goal

pub returns : goal.returns
returns c = lemma.replies_stay
