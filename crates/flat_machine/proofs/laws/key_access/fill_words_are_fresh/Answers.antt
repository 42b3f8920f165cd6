use Rattle.flat_machine.proofs.FillWords as lemma
use Rattle.flat_machine.proofs.laws.key_access.fill_words_are_fresh.Goals as goal

pub returns-clause-own : goal.returns-clause-own
returns-clause-own c = lemma.own_words

pub returns-clause-rise : goal.returns-clause-rise
returns-clause-rise c = lemma.drawn_rises
