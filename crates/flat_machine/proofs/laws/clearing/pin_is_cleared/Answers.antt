use Rattle.flat_machine.proofs.ClearingAnswers as lemma
use Rattle.flat_machine.proofs.laws.clearing.pin_is_cleared.Goals as goal

pub returns-clause-started : goal.returns-clause-started
returns-clause-started c = lemma.begun_pin

pub returns-clause-used : goal.returns-clause-used
returns-clause-used c = lemma.used_pin

pub returns-clause-unmaintained : goal.returns-clause-unmaintained
returns-clause-unmaintained c = lemma.unmaintained_pin

pub returns-clause-initialized : goal.returns-clause-initialized
returns-clause-initialized c = lemma.initialized_pin

pub returns-clause-reset : goal.returns-clause-reset
returns-clause-reset c = lemma.reset_pin
