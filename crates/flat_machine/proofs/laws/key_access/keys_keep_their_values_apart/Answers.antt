use Rattle.flat_machine.proofs.KeyRowRuns as lemma
use Rattle.flat_machine.proofs.laws.key_access.keys_keep_their_values_apart.Goals as goal

pub returns-clause-runs : goal.returns-clause-runs
returns-clause-runs c = lemma.apart_runs

pub returns-clause-step : goal.returns-clause-step
returns-clause-step c = lemma.apart_step
