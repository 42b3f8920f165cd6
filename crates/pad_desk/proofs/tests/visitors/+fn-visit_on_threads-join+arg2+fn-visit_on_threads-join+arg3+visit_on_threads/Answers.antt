use denote.Exit.{no}
use denote.Param.Send.{IsSend, arg_send, param_send, sendable, shr_send}
use denote.RattleType.{RattleType}
use denote.Struct.Tuple.{TupleAt}
use mir.Syntax.{named}
use Rattle.std.proofs.Crossing.{crosses}
use Rattle.atomic_table.proofs.shared.Seat.TheSendSync as seat
use Rattle.disk_core.proofs.memory_disk.MemDisk.TheSendSync as memory_disk
use Rattle.disk_core.specs.contracts.memory_disk.MemDisk as memory
use Rattle.disk_core.specs.contracts.memory_disk.MemDiskDisk.TheImpl as memory_calls
use Rattle.disk_core.specs.contracts.memory_disk.MemDiskPowerDisk.TheImpl as memory_power
use Rattle.local_check.proofs.work.StandardWork.TheSendSync as standard_work
use Rattle.local_check.specs.contracts.work.StandardWork as standard
use Rattle.local_check.specs.contracts.work.StandardWorkPinWork.TheImpl as standard_rules
use Rattle.pad_desk.proofs.SendLemmas.{desk_sync, outcome_send, tuple_send}
use Rattle.pad_desk.proofs.machine.PadAndDisk.TheSendSync as machine
use Rattle.pad_steps.proofs.steps.Step.TheSendSync as step
use Rattle.turnstile.proofs.held.Held.TheSendSync as held
use Rattle.pad_desk.proofs.tests.visitors.+fn-visit_on_threads-join+arg2+fn-visit_on_threads-join+arg3+visit_on_threads.Lts-visit_on_threads as lts
use Rattle.pad_desk.proofs.tests.visitors.+fn-visit_on_threads-join+arg2+fn-visit_on_threads-join+arg3+visit_on_threads.Goals as goal

pub join-one-requires-send-F : goal.join-one-requires-send-F
join-one-requires-send-F g t c κs within =
    let captures = lts.of-16 g.row.R g.R.laws g.R.Threads-dict g.R.Wait-dict
    (record { mir = named 6; lft = κs.1.1.1.1.1.1.0 }) (record { mir = named 7; lft = κs.1.1.1.1.1.1.1.0 }) (record { mir = named 8; lft = κs.1.1.1.1.1.1.1.1.0 })
    (record { mir = named 9; lft = κs.1.1.1.1.1.1.1.1.1.0 }) (record { mir = named 10; lft = κs.1.1.1.1.1.1.1.1.1.1.0 }) (record { mir = named 11; lft = κs.1.1.1.1.1.1.1.1.1.1.1.0 }) in
    let row : RattleType = lts.arg-3-1 g.row.R g.R.laws g.R.Threads-dict g.R.Wait-dict κs in
    let desk = desk_sync standard.the_row memory.the_row standard_rules.ghosts memory_calls.ghosts memory_power.ghosts standard_work.the_send memory_disk.the_send in
    let pass : IsSend (lts.of-14 g.row.R g.R.laws g.R.Threads-dict g.R.Wait-dict) =
    search (seat.the_send, held.the_send, machine.the_send, step.the_send, outcome_send, standard_work.the_send, memory_disk.the_send, crosses, sendable) depth 20 in
    let sent : IsSend row = arg_send _ no (TupleAt (lts.name-33 g.row.R g.R.laws g.R.Threads-dict g.R.Wait-dict) captures) (tuple_send _ captures (
      search sendable depth 20,
      (
        search (crosses, sendable) depth 20,
        (
          shr_send _ _ _ desk,
          (
            pass,
            (search (crosses, sendable) depth 20, (search (crosses, sendable) depth 20, (search (crosses, sendable) depth 20, tt))),
          ),
        ),
      ),
    )) in
    param_send 1 row sent

pub join-one-requires-send-A : goal.join-one-requires-send-A
join-one-requires-send-A g t c κs within =
    let row : RattleType = lts.arg-3-3 g.row.R g.R.laws g.R.Threads-dict g.R.Wait-dict κs in
    let pass : IsSend (lts.of-14 g.row.R g.R.laws g.R.Threads-dict g.R.Wait-dict) =
    search (seat.the_send, held.the_send, machine.the_send, step.the_send, outcome_send, standard_work.the_send, memory_disk.the_send, crosses, sendable) depth 20 in
    let sent : IsSend row = arg_send _ no (lts.of-14 g.row.R g.R.laws g.R.Threads-dict g.R.Wait-dict) pass in
    param_send 3 row sent
