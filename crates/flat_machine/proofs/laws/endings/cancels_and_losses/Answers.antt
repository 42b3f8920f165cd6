use Rattle.flat_machine.proofs.EndCauses
use Rattle.flat_machine.proofs.laws.endings.cancels_and_losses.Goals as goal

pub returns-clause-canceled : goal.returns-clause-canceled
returns-clause-canceled c = λ set h s w e tells. EndCauses.canceled_why set h s w e tells.told tells.reply

pub returns-clause-lost : goal.returns-clause-lost
returns-clause-lost c = λ set h s w e tells. EndCauses.connection_why set h s w e tells.told tells.reply
