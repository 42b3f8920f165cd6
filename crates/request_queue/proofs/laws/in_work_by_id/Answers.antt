use Rattle.request_queue.proofs.LawLemmas.{request_in_work-finished}
use Rattle.request_queue.proofs.laws.in_work_by_id.Goals as goal

pub returns : goal.returns
returns g c = λ reply rows id ids e. request_in_work-finished reply rows id ids e
