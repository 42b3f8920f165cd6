use Rattle.flat_machine.proofs.HeldRuns as lemma
use Rattle.flat_machine.proofs.laws.pins.held_digits.Goals as goal

pub returns-clause-few : goal.returns-clause-few
returns-clause-few c = lemma.held_few

pub returns-clause-decimal : goal.returns-clause-decimal
returns-clause-decimal c = lemma.held_decimal
