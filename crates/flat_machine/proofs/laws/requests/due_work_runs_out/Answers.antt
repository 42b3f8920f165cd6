use Rattle.flat_machine.proofs.LeftWork.{ids-more, left-less, left-more}
use Rattle.flat_machine.proofs.laws.requests.due_work_runs_out.Goals as goal

pub returns-clause-less : goal.returns-clause-less
returns-clause-less c = left-less

pub returns-clause-more : goal.returns-clause-more
returns-clause-more c = left-more

pub returns-clause-ids : goal.returns-clause-ids
returns-clause-ids c = ids-more
