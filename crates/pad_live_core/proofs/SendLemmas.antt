-- A pass, and how a lane or the worker ended, may go to another thread.
use denote.Param.Send.{IsSend, recorded_send, sendable, struct_send}
use denote.RattleType.{RattleType}
use denote.Struct.Declared.{shape}
use Rattle.std.proofs.Crossing.{crosses}
use Rattle.atomic_table.proofs.shared.Seat.TheSendSync as seat
use Rattle.atomic_table.specs.contracts.shared.Seat as seat_row
use Rattle.disk_core.specs.declared.disk.Disk.{Ghosts as DiskGhosts}
use Rattle.pad_desk.proofs.SendLemmas.{outcome_send}
use Rattle.pad_desk.proofs.machine.PadAndDisk.TheSendSync as machine
use Rattle.pad_desk.specs.contracts.machine.PadAndDisk as machine_row
use Rattle.pad_desk.specs.contracts.outcome.StepOut as outcome_row
use Rattle.pad_live_core.specs.contracts.lane.LaneEnd as lane_end
use Rattle.pad_live_core.specs.contracts.worker.WorkerEnd as worker_end
use Rattle.pad_steps.proofs.steps.Step.TheSendSync as step
use Rattle.pad_steps.specs.contracts.steps.Step as step_row
use Rattle.pin_blocks.specs.declared.work.PinWork.{Ghosts as PinWorkGhosts}
use Rattle.std.specs.contracts.option.Option as option_row
use Rattle.turnstile.proofs.held.Held.TheSendSync as held
use Rattle.turnstile.specs.contracts.held.Held as held_row
use Rattle.turnstile.specs.contracts.view.PassView as view_row

module _ (W D : RattleType) (work : PinWorkGhosts W.Denot) (disk : DiskGhosts D.Denot) (w : IsSend W) (d : IsSend D) where
  pub pass_send : IsSend (seat_row.the_row (option_row.the_row (held_row.the_row (machine_row.the_row W D work disk) step_row.the_row outcome_row.the_row)) (view_row.the_row step_row.the_row outcome_row.the_row))
  pass_send = search (seat.the_send, held.the_send, machine.the_send, step.the_send, outcome_send, crosses, sendable) depth 20

  pub lane_end_send : IsSend (lane_end.the_row W D work disk)
  lane_end_send = recorded_send _ _ _ (lane_end.the_type W D work disk).to_one (struct_send (shape (lane_end.the_type W D work disk))
      (search (seat.the_send, held.the_send, machine.the_send, step.the_send, outcome_send, crosses, sendable) depth 20, (search (crosses, sendable) depth 12, tt)))

  pub worker_end_send : IsSend (worker_end.the_row W D work disk)
  worker_end_send = recorded_send _ _ _ (worker_end.the_type W D work disk).to_one (struct_send (shape (worker_end.the_type W D work disk))
      (search (seat.the_send, held.the_send, machine.the_send, step.the_send, outcome_send, crosses, sendable) depth 20, (search (crosses, sendable) depth 12, tt)))
