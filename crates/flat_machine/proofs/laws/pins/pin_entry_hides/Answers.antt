use Rattle.flat_machine.proofs.PinShown as lemma
use Rattle.flat_machine.proofs.laws.pins.pin_entry_hides.Goals as goal

pub returns-clause-outs : goal.returns-clause-outs
returns-clause-outs c = λ set state key word entry. lemma.pin_entry_hides set state key word entry.current entry.runs entry.kind

pub returns-clause-press : goal.returns-clause-press
returns-clause-press c = λ set state key word press. lemma.pin_digit_unshown set state key word press.current press.runs press.digit
