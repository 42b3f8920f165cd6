use Rattle.flat_machine.proofs.ValidRows as lemma
use Rattle.flat_machine.proofs.laws.key_access.key_rows_are_valid.Goals as goal

pub returns-clause-runs : goal.returns-clause-runs
returns-clause-runs c = λ set start acts keeps begins fine. lemma.valid_runs set start acts keeps begins fine

pub returns-clause-triple : goal.returns-clause-triple
returns-clause-triple c = lemma.triple_des_keeps_blocks
