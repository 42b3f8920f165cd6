use Rattle.flat_machine.proofs.LengthRuns as lemma
use Rattle.flat_machine.proofs.laws.sound.sound_runs.Goals as goal

pub returns : goal.returns
returns c = lemma.sound_runs
