use Rattle.flat_machine.proofs.RequestRuns as lemma
use Rattle.flat_machine.proofs.laws.requests.one_reply.Goals as goal

pub returns-clause-told : goal.returns-clause-told
returns-clause-told c = lemma.endings_told

pub returns-clause-once : goal.returns-clause-once
returns-clause-once c = lemma.one_ending
