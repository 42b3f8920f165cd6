use Rattle.pad_desk.proofs.StatusLemmas.{due-status}
use Rattle.pad_desk.proofs.laws.status_tells_the_step_due.Goals as goal

pub returns : goal.returns
returns c = due-status
