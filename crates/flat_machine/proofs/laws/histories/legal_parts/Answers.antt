use Rattle.flat_machine.proofs.LegalLemmas as lemma
use Rattle.flat_machine.proofs.laws.histories.legal_parts.Goals as goal

pub returns-clause-joined : goal.returns-clause-joined
returns-clause-joined c = lemma.legal_joined

pub returns-clause-front : goal.returns-clause-front
returns-clause-front c = lemma.legal_front

pub returns-clause-rest : goal.returns-clause-rest
returns-clause-rest c = lemma.legal_rest
