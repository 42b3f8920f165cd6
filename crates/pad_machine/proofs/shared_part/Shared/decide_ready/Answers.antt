use Rattle.std.proofs.Common.{subst}
use Rattle.std.specs.Prelude.{IsTrue}
use Rattle.pad_machine.proofs.AdmittedLemmas.{import-valid, pin-formed}
use Rattle.pad_machine.specs.Stands.{is_admitted}
use Rattle.pad_steps.specs.declared.commands.Command.{Command}
use Rattle.pad_machine.proofs.shared_part.Shared.decide_ready.Goals as goal

pub import_work-requires : goal.import_work-requires
import_work-requires g c = import-valid g.W.PinWork.rules c.in-ImportKey.request (subst (λ (x : Command). IsTrue (is_admitted g.W.PinWork.rules x)) c.in-ImportKey.is c.requires.admitted)

pub pin_work-requires-clause-formed : goal.pin_work-requires-clause-formed
pin_work-requires-clause-formed g c = pin-formed g.W.PinWork.rules c.args.command.now c.in-Pin.request c.in-Pin.is c.requires.admitted
