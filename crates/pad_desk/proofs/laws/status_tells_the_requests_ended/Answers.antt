use Rattle.pad_desk.proofs.StatusLemmas.{ended-status}
use Rattle.pad_desk.proofs.laws.status_tells_the_requests_ended.Goals as goal

pub returns : goal.returns
returns c = ended-status
