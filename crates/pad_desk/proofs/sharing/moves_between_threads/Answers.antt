use denote.Param.Send.{sendable}
use Rattle.atomic_table.proofs.shared.Seat.TheSendSync as seat
use Rattle.pad_desk.proofs.machine.PadAndDisk.TheSendSync as machine
use Rattle.pad_desk.proofs.SendLemmas.{desk_send, outcome_send}
use Rattle.pad_steps.proofs.steps.Step.TheSendSync as step
use Rattle.std.proofs.Crossing.{crosses}
use Rattle.turnstile.proofs.held.Held.TheSendSync as held
use Rattle.pad_desk.proofs.sharing.moves_between_threads.Goals as goal

pub needs_send-requires-send-T : goal.needs_send-requires-send-T
needs_send-requires-send-T g c κs within = search (desk_send, sendable) depth 12

pub needs_send-requires-2-send-T : goal.needs_send-requires-2-send-T
needs_send-requires-2-send-T g c κs within = search (seat.the_send, held.the_send, machine.the_send, step.the_send, outcome_send, crosses, sendable) depth 20
