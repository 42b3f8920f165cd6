use Rattle.flat_machine.specs.State.{is_off}
use Rattle.pad_machine.proofs.PendingLemmas.{if_due_on}
use Rattle.pad_machine.specs.Stands.{PadState, is_admitted, shared_of}
use Rattle.std.proofs.Common.{subst}
use Rattle.std.specs.Prelude.{IfSome, false, ◌≡◌}
use Rattle.pad_machine.proofs.pad.Pad.next_work.Goals as goal

pub returns-clause-on : goal.returns-clause-on
returns-clause-on g c = subst (λ (pad : PadState). IfSome c.next_work.result (λ step. is_off pad.kept.shared.device ≡ false)) c.self.view_is
    (if_due_on (is_admitted g.W.PinWork.rules) (shared_of c.self.inside.parts.common) c.next_work.result c.self.invariant.sound c.next_work.ensures)
