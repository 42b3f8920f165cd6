use Rattle.flat_machine.proofs.PendingPass.{pending_passes}
use Rattle.flat_machine.proofs.laws.kept.pending_commands_pass.Goals as goal

pub returns : goal.returns
returns c = pending_passes
