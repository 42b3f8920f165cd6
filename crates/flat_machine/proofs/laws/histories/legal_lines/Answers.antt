use Rattle.flat_machine.proofs.LegalLemmas as lemma
use Rattle.flat_machine.proofs.laws.histories.legal_lines.Goals as goal

pub returns-clause-lines : goal.returns-clause-lines
returns-clause-lines c = lemma.legal_lines

pub returns-clause-words : goal.returns-clause-words
returns-clause-words c = lemma.legal_fits
