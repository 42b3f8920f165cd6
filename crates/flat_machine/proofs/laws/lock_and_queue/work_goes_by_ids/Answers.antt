use Rattle.flat_machine.proofs.QueueMoves as queue
use Rattle.flat_machine.proofs.WorkOrder as order
use Rattle.flat_machine.proofs.laws.lock_and_queue.work_goes_by_ids.Goals as goal

pub returns-clause-begin : goal.returns-clause-begin
returns-clause-begin c = order.brought_by_begin

pub returns-clause-least : goal.returns-clause-least
returns-clause-least c = λ set start acts w begins place other_place a b taken at less. queue.takes_the_least set start acts w place other_place a b begins taken at less

pub returns-clause-order : goal.returns-clause-order
returns-clause-order c = order.begun_in_order
