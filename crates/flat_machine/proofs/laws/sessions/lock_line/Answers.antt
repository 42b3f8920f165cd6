use Rattle.flat_machine.proofs.SessionRuns as lemma
use Rattle.flat_machine.proofs.laws.sessions.lock_line.Goals as goal

pub returns-clause-apart : goal.returns-clause-apart
returns-clause-apart c = lemma.line_apart

pub returns-clause-open_ones : goal.returns-clause-open_ones
returns-clause-open_ones c = lemma.line_open
