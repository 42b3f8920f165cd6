use Rattle.flat_machine.proofs.DueWork.{less-next}
use Rattle.flat_machine.proofs.RequestCounts.{draws-next}
use Rattle.flat_machine.proofs.laws.requests.due_steps_come_to_an_end.Goals as goal

pub returns-clause-less : goal.returns-clause-less
returns-clause-less c = less-next

pub returns-clause-ids : goal.returns-clause-ids
returns-clause-ids c = draws-next
