use Rattle.flat_machine.proofs.ClearingAnswers as lemma
use Rattle.flat_machine.proofs.laws.clearing.part_is_cleared.Goals as goal

pub returns-clause-started : goal.returns-clause-started
returns-clause-started c = lemma.begun_part

pub returns-clause-imported : goal.returns-clause-imported
returns-clause-imported c = lemma.imported_part

pub returns-clause-initialized : goal.returns-clause-initialized
returns-clause-initialized c = lemma.initialized_part

pub returns-clause-reset : goal.returns-clause-reset
returns-clause-reset c = lemma.reset_part
