use Rattle.flat_machine.proofs.PinHeld as lemma
use Rattle.flat_machine.proofs.WorkKinds.{refusal-is, release-is}
use Rattle.flat_machine.proofs.laws.pins.used_pin.Goals as goal

pub returns-clause-refused : goal.returns-clause-refused
returns-clause-refused c = λ set state word found.
    let kind = refusal-is _ found.kind in
    lemma.refused_pin_stays set state found.request kind.0 kind.1 word found.in_work kind.2

pub returns-clause-used : goal.returns-clause-used
returns-clause-used c = λ set state word found.
    let kind = release-is _ found.kind in
    lemma.used_pin_goes set state found.request kind.0 kind.1 kind.2 kind.3 word found.in_work kind.4

pub returns-clause-maintained : goal.returns-clause-maintained
returns-clause-maintained c = λ set state word found.
    let kind = release-is _ found.kind in
    lemma.maintained_pin_stays set state found.request kind.0 kind.1 kind.2 kind.3 word found.in_work kind.4
