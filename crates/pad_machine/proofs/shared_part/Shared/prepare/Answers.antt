use Rattle.pad_machine.proofs.shared_part.Shared.prepare.Goals as goal

pub returns-in-Press-clause-planned : goal.returns-in-Press-clause-planned
returns-in-Press-clause-planned g c = rw c.in-Press.is c.prepare_press.ensures.planned
