use Rattle.flat_machine.proofs.QueueMoves as lemma
use Rattle.flat_machine.proofs.laws.lock_and_queue.lock_keeps_others_out.Goals as goal

pub returns-clause-submit : goal.returns-clause-submit
returns-clause-submit c = lemma.submit_locked_out

pub returns-clause-begin : goal.returns-clause-begin
returns-clause-begin c = lemma.taken_of_holder
