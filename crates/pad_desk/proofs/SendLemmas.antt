-- Outcomes and desks may go to other threads, and desks may be shared by them.
use denote.Param.Send.{AllSend, IsSend, IsSync, recorded_send, recorded_sync, sendable, struct_send, struct_sync}
use denote.RattleType.{RattleType}
use denote.Struct.Declared.{shape}
use denote.Struct.Field.{rows}
use denote.Struct.Tuple.{TupleAt, parts, type_at}
use mathlib.Core.List.{List, [], ◌∷◌}
use mir.Syntax.{Sym}
use Rattle.crypt_commands.specs.contracts.jobs.CryptDone as done
use Rattle.crypt_commands.specs.contracts.jobs.CryptJob as job
use Rattle.disk_core.specs.declared.disk.Disk.{Ghosts as DiskGhosts}
use Rattle.disk_core.specs.declared.disk.PowerDisk.{Ghosts as PowerDiskGhosts}
use Rattle.pad_desk.proofs.machine.PadAndDisk.TheSendSync as machine
use Rattle.pad_desk.specs.contracts.desk.Desk as desk
use Rattle.pad_desk.specs.contracts.machine.PadAndDiskMachine.TheImpl.{ghosts, no_dict}
use Rattle.pad_desk.specs.contracts.outcome.StepOut as outcome
use Rattle.pad_desk.specs.contracts.outcome.StepOuts as said
use Rattle.pad_steps.proofs.lists.Outs.TheSendSync as outs
use Rattle.pad_steps.proofs.lists.Rows.TheSendSync as rows
use Rattle.pad_steps.proofs.steps.Fate.TheSendSync as fate
use Rattle.pad_steps.proofs.steps.Step.TheSendSync as step
use Rattle.pin_blocks.specs.declared.work.PinWork.{Ghosts as PinWorkGhosts}
use Rattle.std.proofs.Crossing.{crosses}
use Rattle.turnstile.proofs.turn.Turn.TheSendSync as turn

-- what a closure captured may go to another thread where each part of it may
tuple_rows : (captured : List RattleType) → AllSend captured → AllSend (rows (parts captured))
tuple_rows [] all = tt
tuple_rows (row ∷ others) all = (all.0, tuple_rows others all.1)

pub tuple_send : (name : Sym) (captured : List RattleType) → AllSend captured → IsSend (TupleAt name captured)
tuple_send name captured all = recorded_send _ _ _ (type_at name captured).to_one (struct_send (shape (type_at name captured)) (tuple_rows captured all))

said_send : IsSend said.the_row
said_send = search (outs.the_send, crosses, sendable) depth 20

pub outcome_send : IsSend outcome.the_row
outcome_send =
    let parts : AllSend (shape outcome.the_type).fields = (search (rows.the_send, crosses, sendable) depth 20, (said_send, (search sendable, (search (fate.the_send, sendable) depth 12, tt)))) in
    recorded_send _ _ _ (outcome.the_type).to_one (struct_send (shape outcome.the_type) parts)

module _ (W D : RattleType) (work : PinWorkGhosts W.Denot) (disk : DiskGhosts D.Denot) (power : PowerDiskGhosts D.Denot) (w : IsSend W) (d : IsSend D) where
  -- the desk as a field of another type
  pub desk_field_sync : IsSync (desk.the_field W D work disk power).row
  desk_field_sync = struct_sync (shape (desk.the_type W D work disk power)) (turn.the_field_sync _ _ _ job.the_row done.the_row (ghosts W D work no_dict power no_dict disk no_dict no_dict no_dict) (machine.the_send W D work disk w d) step.the_send outcome_send, tt)

  pub desk_sync : IsSync (desk.the_row W D work disk power)
  desk_sync = recorded_sync _ _ _ (desk.the_type W D work disk power).to_one desk_field_sync

  pub desk_send : IsSend (desk.the_row W D work disk power)
  desk_send = recorded_send _ _ _ (desk.the_type W D work disk power).to_one (struct_send (shape (desk.the_type W D work disk power)) (turn.the_field_send _ _ _ job.the_row done.the_row (ghosts W D work no_dict power no_dict disk no_dict no_dict no_dict) (machine.the_send W D work disk w d) step.the_send outcome_send, tt))
