use Rattle.request_queue.proofs.Totals.{pending-or-gone}
use Rattle.request_queue.proofs.laws.pending_or_ended.Goals as goal

pub returns : goal.returns
returns g c = λ rows. pending-or-gone rows
