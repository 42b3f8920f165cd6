use Rattle.flat_machine.proofs.ArmLemmas as lemma
use Rattle.flat_machine.proofs.laws.arms.strikes_are_as_armed.Goals as goal

pub returns-clause-fits : goal.returns-clause-fits
returns-clause-fits c = lemma.struck_fits

pub returns-clause-only : goal.returns-clause-only
returns-clause-only c = lemma.one_word_is_due

pub returns-clause-strikes : goal.returns-clause-strikes
returns-clause-strikes c = lemma.within_struck

pub returns-clause-within : goal.returns-clause-within
returns-clause-within c = lemma.struck_within

pub returns-clause-unarmed : goal.returns-clause-unarmed
returns-clause-unarmed c = lemma.unarmed_unstruck

pub returns-clause-ahead : goal.returns-clause-ahead
returns-clause-ahead c = lemma.stays_ahead
