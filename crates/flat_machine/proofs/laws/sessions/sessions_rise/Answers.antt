use Rattle.flat_machine.proofs.SessionRuns as lemma
use Rattle.flat_machine.proofs.laws.sessions.sessions_rise.Goals as goal

pub returns : goal.returns
returns c = lemma.sessions_rise
