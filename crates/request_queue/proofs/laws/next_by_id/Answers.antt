use Rattle.request_queue.proofs.LawLemmas.{eligible-begun, eligible-refused}
use Rattle.request_queue.proofs.laws.next_by_id.Goals as goal

pub returns-clause-begun : goal.returns-clause-begun
returns-clause-begun g c = λ holder rows id ids e. eligible-begun holder rows id ids e

pub returns-clause-refused : goal.returns-clause-refused
returns-clause-refused g c = λ reply holder rows id ids e. eligible-refused reply holder rows id ids e
