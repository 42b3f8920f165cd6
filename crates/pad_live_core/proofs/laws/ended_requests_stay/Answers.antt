use Rattle.pad_live_core.proofs.StatusLemmas.{ended-stays}
use Rattle.pad_live_core.proofs.laws.ended_requests_stay.Goals as goal

pub returns : goal.returns
returns c = ended-stays c.replies_stay.ensures c.status_tells_the_requests_ended.ensures
