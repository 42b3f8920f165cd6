use denote.Param.Send.{sendable}
use Rattle.atomic_table.proofs.shared.Seat.TheSendSync as seat
use Rattle.pad_desk.proofs.SendLemmas.{desk_sync, outcome_send}
use Rattle.pad_desk.proofs.machine.PadAndDisk.TheSendSync as machine
use Rattle.pad_live_core.proofs.SendLemmas.{lane_end_send}
use Rattle.pad_steps.proofs.steps.Step.TheSendSync as step
use Rattle.script_lang.proofs.lane_kinds.LaneStep.TheSendSync as line
use Rattle.std.proofs.Crossing.{crosses}
use Rattle.turnstile.proofs.held.Held.TheSendSync as held
use Rattle.pad_live_core.proofs.sharing.end_moves.Goals as goal

pub needs_send-requires-send-T : goal.needs_send-requires-send-T
needs_send-requires-send-T g c κs within = search (lane_end_send, sendable) depth 20
