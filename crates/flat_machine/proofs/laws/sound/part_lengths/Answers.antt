use Rattle.flat_machine.proofs.LengthRuns as lemma
use Rattle.flat_machine.proofs.laws.sound.part_lengths.Goals as goal

pub returns-clause-runs : goal.returns-clause-runs
returns-clause-runs c = lemma.part_runs

pub returns-clause-step : goal.returns-clause-step
returns-clause-step c = lemma.part_step
