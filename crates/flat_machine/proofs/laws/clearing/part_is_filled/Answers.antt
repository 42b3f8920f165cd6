use Rattle.flat_machine.proofs.ClearingAnswers as lemma
use Rattle.flat_machine.proofs.laws.clearing.part_is_filled.Goals as goal

pub returns : goal.returns
returns c = lemma.filled_part
