use Rattle.flat_machine.proofs.PinHeld as lemma
use Rattle.flat_machine.proofs.laws.pins.pin_is_held.Goals as goal
use Rattle.std.specs.Prelude.{length}
use Rattle.entry_core.specs.Entries.{entered}

pub returns-clause-after : goal.returns-clause-after
returns-clause-after c = lemma.pin_after

pub returns-clause-canceled : goal.returns-clause-canceled
returns-clause-canceled c = λ entry presses key shown ends. lemma.canceled_is_empty entry (length (entered entry presses)) presses key shown ends
