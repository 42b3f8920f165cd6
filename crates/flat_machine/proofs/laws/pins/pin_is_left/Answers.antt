use Rattle.flat_machine.proofs.PinHeld as lemma
use Rattle.flat_machine.proofs.laws.pins.pin_is_left.Goals as goal

pub returns : goal.returns
returns c = lemma.left_held
