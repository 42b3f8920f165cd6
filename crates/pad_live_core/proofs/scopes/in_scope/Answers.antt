use denote.Exit.{no}
use denote.Param.Send.{IsSend, IsSync, arg_send, param_send, sendable, shr_send}
use denote.Param.{param}
use denote.RattleType.{RattleType}
use denote.Struct.Tuple.{TupleAt}
use mir.Syntax.{named}
use Rattle.std.proofs.Crossing.{crosses}
use Rattle.pad_desk.proofs.SendLemmas.{desk_sync, tuple_send}
use Rattle.pad_live_core.proofs.SendLemmas.{worker_end_send, pass_send}
use Rattle.pad_live_core.proofs.scopes.in_scope.Lts as lts
use Rattle.std.specs.Prelude.{vec_len}
use Rattle.pad_live_core.proofs.StartLemmas.{whole_pendings}
use Rattle.pad_live_core.proofs.scopes.in_scope.Goals as goal

pub join_lanes-requires-clause-pendings : goal.join_lanes-requires-clause-pendings
join_lanes-requires-clause-pendings g c = whole_pendings g.W.PinWork.rules (λ v. v.items) c.args.desk.now.turn c.args.lanes.now (vec_len c.args.passes) c.start_lanes.new.pendings.items c.requires.lanes c.start_lanes.ensures.started

pub join_lanes-requires-in-Err-clause-pendings : goal.join_lanes-requires-in-Err-clause-pendings
join_lanes-requires-in-Err-clause-pendings g c = whole_pendings g.W.PinWork.rules (λ v. v.items) c.args.desk.now.turn c.args.lanes.now (vec_len c.args.passes) c.start_lanes.new.pendings.items c.requires.lanes c.start_lanes.ensures.started

pub spawn_with-started-requires-send-F : goal.spawn_with-started-requires-send-F
spawn_with-started-requires-send-F g c κs within =
    let work : IsSend (param 3 g.row.W) = search (c.type_bounds.send-W, sendable) depth 4 in
    let disk : IsSend (param 4 g.row.D) = search (c.type_bounds.send-D, sendable) depth 4 in
    let sync_R : IsSync (param 1 g.row.R) = search (c.type_bounds.sync-R, sendable) depth 4 in
    let captures = lts.of-24 g.row.E g.row.R g.row.G g.row.W g.row.D g.E.laws g.R.laws g.G.laws g.W.laws g.D.laws g.R.Threads g.R.Threads-dict g.R.Wait g.R.Wait-dict g.G.Gate g.G.Gate-dict g.W.PinWork g.W.PinWork-dict g.D.PowerDisk g.D.PowerDisk-dict g.D.Disk g.D.Disk-dict g.W.Destruct-dict g.D.Destruct-dict
    (record { mir = named 6; lft = κs.1.1.1.1.1.1.0 }) (record { mir = named 7; lft = κs.1.1.1.1.1.1.1.0 })
    (record { mir = named 8; lft = κs.1.1.1.1.1.1.1.1.0 }) (record { mir = named 9; lft = κs.1.1.1.1.1.1.1.1.1.0 }) in
    let row : RattleType = lts.arg-2-2 g.row.E g.row.R g.row.G g.row.W g.row.D g.E.laws g.R.laws g.G.laws g.W.laws g.D.laws g.R.Threads g.R.Threads-dict g.R.Wait g.R.Wait-dict g.G.Gate g.G.Gate-dict g.W.PinWork g.W.PinWork-dict g.D.PowerDisk g.D.PowerDisk-dict g.D.Disk g.D.Disk-dict g.W.Destruct-dict g.D.Destruct-dict κs in
    let sent : IsSend row = arg_send _ no (TupleAt (lts.name-35 g.row.E g.row.R g.row.G g.row.W g.row.D g.E.laws g.R.laws g.G.laws g.W.laws g.D.laws g.R.Threads g.R.Threads-dict g.R.Wait g.R.Wait-dict g.G.Gate g.G.Gate-dict g.W.PinWork g.W.PinWork-dict g.D.PowerDisk g.D.PowerDisk-dict g.D.Disk g.D.Disk-dict g.W.Destruct-dict g.D.Destruct-dict) captures) (tuple_send _ captures (
      shr_send _ _ _ sync_R,
      (
        shr_send _ _ _ (desk_sync _ _ _ _ _ work disk),
        (
          pass_send _ _ _ _ work disk,
          (
            search (crosses, sendable) depth 20,
            (search (crosses, sendable) depth 20, (search (crosses, sendable) depth 20, tt)),
          ),
        ),
      ),
    )) in
    param_send 2 row sent

pub spawn_with-started-requires-send-T : goal.spawn_with-started-requires-send-T
spawn_with-started-requires-send-T g c κs within =
    let row : RattleType = lts.arg-2-3 g.row.E g.row.R g.row.G g.row.W g.row.D g.E.laws g.R.laws g.G.laws g.W.laws g.D.laws g.R.Threads g.R.Threads-dict g.R.Wait g.R.Wait-dict g.G.Gate g.G.Gate-dict g.W.PinWork g.W.PinWork-dict g.D.PowerDisk g.D.PowerDisk-dict g.D.Disk g.D.Disk-dict g.W.Destruct-dict g.D.Destruct-dict κs in
    let work : IsSend (param 3 g.row.W) = search (c.type_bounds.send-W, sendable) depth 4 in
    let disk : IsSend (param 4 g.row.D) = search (c.type_bounds.send-D, sendable) depth 4 in
    let sent : IsSend row = arg_send _ no (lts.of-4 g.row.E g.row.R g.row.G g.row.W g.row.D g.E.laws g.R.laws g.G.laws g.W.laws g.D.laws g.R.Threads g.R.Threads-dict g.R.Wait g.R.Wait-dict g.G.Gate g.G.Gate-dict g.W.PinWork g.W.PinWork-dict g.D.PowerDisk g.D.PowerDisk-dict g.D.Disk g.D.Disk-dict g.W.Destruct-dict g.D.Destruct-dict) (worker_end_send _ _ _ _ work disk) in
    param_send 3 row sent
