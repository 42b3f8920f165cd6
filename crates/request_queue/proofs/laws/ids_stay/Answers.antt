use Rattle.request_queue.proofs.EndLemmas.{begun-ids, ended-ids}
use Rattle.request_queue.proofs.laws.ids_stay.Goals as goal

pub returns-clause-ended : goal.returns-clause-ended
returns-clause-ended g c = λ test reply rows ids. ended-ids test reply rows ids

pub returns-clause-begun : goal.returns-clause-begun
returns-clause-begun g c = λ id rows ids. begun-ids id rows ids
