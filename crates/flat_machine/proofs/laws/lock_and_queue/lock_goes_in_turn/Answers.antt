use Rattle.flat_machine.proofs.LineMoves as lemma
use Rattle.flat_machine.proofs.laws.lock_and_queue.lock_goes_in_turn.Goals as goal

pub returns-clause-holder : goal.returns-clause-holder
returns-clause-holder c = lemma.holder_stays

pub returns-clause-next : goal.returns-clause-next
returns-clause-next c = λ set start acts s w begins t rest at leaves. lemma.lock_goes_on set start acts t rest s w begins at leaves

pub returns-clause-free : goal.returns-clause-free
returns-clause-free c = lemma.free_lock
