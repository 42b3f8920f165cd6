use Rattle.flat_machine.proofs.FewWords.{stays_few}
use Rattle.flat_machine.proofs.laws.devices.few_words_are_drawn.Goals as goal

pub returns : goal.returns
returns c = stays_few
