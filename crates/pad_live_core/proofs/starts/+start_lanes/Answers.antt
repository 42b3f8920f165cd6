use denote.Exit.{no}
use denote.Param.Send.{IsSend, IsSync, arg_send, param_send, sendable, shr_send}
use denote.Param.{param}
use denote.RattleType.{RattleType}
use denote.Struct.Tuple.{TupleAt}
use mir.Syntax.{named}
use Rattle.std.proofs.Crossing.{crosses}
use Rattle.pad_desk.proofs.SendLemmas.{desk_sync, tuple_send}
use Rattle.pad_live_core.proofs.SendLemmas.{lane_end_send, pass_send}
use Rattle.pad_live_core.proofs.starts.+start_lanes.Lts-start_lanes as lts
use Rattle.script_lang.proofs.lane_kinds.LaneStep.TheSendSync as line
use Rattle.std.proofs.Common.{ap, arith, get_or, rules, subst, sym, ◌+◌, ◌∙◌, ◌≡◌, ℕ}
use Rattle.std.specs.Prelude.{vec_len}
use Rattle.pad_live_core.proofs.StartLemmas.{end_from, formed_at, formed_from, pass_from, started_more, was_started}
use Rattle.pad_live_core.specs.LaneJobs.{seat_view}
use Rattle.pad_live_core.specs.declared.jobs.Pending.TheVariants.{Done, Running}
use Rattle.turnstile.specs.Turns.{view}
use Rattle.pad_live_core.proofs.starts.+start_lanes.Goals as goal

pub returns-in-Ok-clause-started : goal.returns-in-Ok-clause-started
returns-in-Ok-clause-started g t c =
    let rest = c.pop_pass.new.passes in let m = vec_len rest in let x = c.index-lanes-len.result in
    started_more g.W.PinWork.rules (λ v. v.items) c.args.desk.now.turn c.args.lanes.now (vec_len c.args.passes) m x c.start_lanes.new.pendings.items c.push_reserved.new.self.items (Running c.in-Ok.child)
    c.in-Some.ensures.len c.requires.lanes (c.index-lanes-len.is ∙ ap (λ n. get_or c.args.lanes.now n x) c.len.ensures) c.start_lanes.ensures.started (sym c.start_lanes.new.pendings.ok.0 ∙ c.start_lanes.ensures.len) c.push_reserved.ensures.items
    (was_started g.W.PinWork.rules c.args.desk.now.turn (1 + m) x.items c.in-Ok.child.promise.start c.start_of.result (ap (λ p. p.start) c.in-Ok.ensures.ok) (ap (λ d. d.turn) c.start_of.ensures.desk) (ap (λ v. v.items) c.start_of.ensures.lines)
    (subst (λ q. view q ≡ seat_view (view q).origin (1 + m)) (sym c.start_of.ensures.pass) (c.in-Some.ensures.some.viewed ∙ ap (λ (n : ℕ). seat_view (view c.in-Some.pass).origin (1 + n)) (sym rest.ok.0))))

pub returns-clause-started : goal.returns-clause-started
returns-clause-started g t c =
    let rest = c.pop_pass.new.passes in let m = vec_len rest in let x = c.index-lanes-len.result in let e = c.in-Err.ensures.err in
    started_more g.W.PinWork.rules (λ v. v.items) c.args.desk.now.turn c.args.lanes.now (vec_len c.args.passes) m x c.start_lanes.new.pendings.items c.push_reserved-in-Err.new.self.items (Done c.lane-end.result)
    c.in-Some.ensures.len c.requires.lanes (c.index-lanes-len.is ∙ ap (λ n. get_or c.args.lanes.now n x) c.len.ensures) c.start_lanes.ensures.started (sym c.start_lanes.new.pendings.ok.0 ∙ c.start_lanes.ensures.len) c.push_reserved-in-Err.ensures.items
    (end_from g.W.PinWork.rules c.args.desk.now.turn _ (1 + m) x.items _ c.in-Some.pass _ c.lane-end.result (ap (λ v. v.2.now.turn) e) (ap (λ v. v.6.now.items) e) (ap (λ v. v.3) e) (c.in-Some.ensures.some.viewed ∙ ap (λ (n : ℕ). seat_view (view c.in-Some.pass).origin (1 + n)) (sym rest.ok.0)) c.lane-end.ensures.pass c.lane-end.ensures.ran)

pub spawn_with-started-requires-send-F : goal.spawn_with-started-requires-send-F
spawn_with-started-requires-send-F g t c κs within =
    let sync_R : IsSync (param 1 g.row.R) = search rules in
    let sync_G : IsSync (param 2 g.row.G) = search rules in
    let work : IsSend (param 3 g.row.W) = search rules in
    let disk : IsSend (param 4 g.row.D) = search rules in
    let captures = lts.of-22 g.row.E g.row.R g.row.G g.row.W g.row.D g.E.laws g.R.laws g.G.laws g.W.laws g.D.laws g.R.Threads g.R.Threads-dict g.R.Wait g.R.Wait-dict g.G.Gate g.G.Gate-dict g.W.PinWork g.W.PinWork-dict g.D.PowerDisk g.D.PowerDisk-dict g.D.Disk g.D.Disk-dict g.W.Destruct-dict g.D.Destruct-dict
    (record { mir = named 6; lft = κs.1.1.1.1.1.1.0 }) (record { mir = named 7; lft = κs.1.1.1.1.1.1.1.0 }) (record { mir = named 8; lft = κs.1.1.1.1.1.1.1.1.0 })
    (record { mir = named 9; lft = κs.1.1.1.1.1.1.1.1.1.0 }) (record { mir = named 10; lft = κs.1.1.1.1.1.1.1.1.1.1.0 }) (record { mir = named 11; lft = κs.1.1.1.1.1.1.1.1.1.1.1.0 }) in
    let row : RattleType = lts.arg-4-2 g.row.E g.row.R g.row.G g.row.W g.row.D g.E.laws g.R.laws g.G.laws g.W.laws g.D.laws g.R.Threads g.R.Threads-dict g.R.Wait g.R.Wait-dict g.G.Gate g.G.Gate-dict g.W.PinWork g.W.PinWork-dict g.D.PowerDisk g.D.PowerDisk-dict g.D.Disk g.D.Disk-dict g.W.Destruct-dict g.D.Destruct-dict κs in
    let sent : IsSend row = arg_send _ no (TupleAt (lts.name-37 g.row.E g.row.R g.row.G g.row.W g.row.D g.E.laws g.R.laws g.G.laws g.W.laws g.D.laws g.R.Threads g.R.Threads-dict g.R.Wait g.R.Wait-dict g.G.Gate g.G.Gate-dict g.W.PinWork g.W.PinWork-dict g.D.PowerDisk g.D.PowerDisk-dict g.D.Disk g.D.Disk-dict g.W.Destruct-dict g.D.Destruct-dict) captures) (tuple_send _ captures (
      shr_send _ _ _ sync_R,
      (
        search (crosses, sendable) depth 20,
        (
          shr_send _ _ _ (desk_sync _ _ _ _ _ work disk),
          (
            pass_send _ _ _ _ work disk,
            (
              search (crosses, sendable) depth 20,
              (shr_send _ _ _ sync_G, (search (line.the_sync, crosses, sendable) depth 20, (search (crosses, sendable) depth 20, (search (crosses, sendable) depth 20, tt)))),
            ),
          ),
        ),
      ),
    )) in
    param_send 2 row sent

pub spawn_with-started-requires-send-T : goal.spawn_with-started-requires-send-T
spawn_with-started-requires-send-T g t c κs within =
    let work : IsSend (param 3 g.row.W) = search rules in
    let disk : IsSend (param 4 g.row.D) = search rules in
    let row : RattleType = lts.arg-4-3 g.row.E g.row.R g.row.G g.row.W g.row.D g.E.laws g.R.laws g.G.laws g.W.laws g.D.laws g.R.Threads g.R.Threads-dict g.R.Wait g.R.Wait-dict g.G.Gate g.G.Gate-dict g.W.PinWork g.W.PinWork-dict g.D.PowerDisk g.D.PowerDisk-dict g.D.Disk g.D.Disk-dict g.W.Destruct-dict g.D.Destruct-dict κs in
    let sent : IsSend row = arg_send _ no (lts.of-4 g.row.E g.row.R g.row.G g.row.W g.row.D g.E.laws g.R.laws g.G.laws g.W.laws g.D.laws g.R.Threads g.R.Threads-dict g.R.Wait g.R.Wait-dict g.G.Gate g.G.Gate-dict g.W.PinWork g.W.PinWork-dict g.D.PowerDisk g.D.PowerDisk-dict g.D.Disk g.D.Disk-dict g.W.Destruct-dict g.D.Destruct-dict) (lane_end_send _ _ _ _ work disk) in
    param_send 3 row sent

pub spawn_with-started-requires-clause-runs : goal.spawn_with-started-requires-clause-runs
spawn_with-started-requires-clause-runs g t c κs within =
    let m = vec_len c.pop_pass.new.passes in let x = c.index-lanes-len.result in
    (c.in-Some.ensures.some.pass_of, formed_at (λ v. v.items) c.args.lanes.now m x x c.requires.formed (omega (arith, c.in-Some.ensures.len, c.requires.lanes)) (c.index-lanes-len.is ∙ ap (λ n. get_or c.args.lanes.now n x) c.len.ensures))

pub lane-end-requires : goal.lane-end-requires
lane-end-requires g t c κs within =
    let m = vec_len c.pop_pass.new.passes in let x = c.index-lanes-len.result in let e = c.in-Err.ensures.err in (
      search within,
      (
        search within,
        (
          search within,
          (
            search within,
            (
              pass_from c.args.desk.now.turn _ c.in-Some.pass _ (ap (λ v. v.2.now.turn) e) (ap (λ v. v.3) e) c.in-Some.ensures.some.pass_of,
              formed_from x.items _ (ap (λ v. v.6.now.items) e) (formed_at (λ v. v.items) c.args.lanes.now m x x c.requires.formed (omega (arith, c.in-Some.ensures.len, c.requires.lanes)) (c.index-lanes-len.is ∙ ap (λ n. get_or c.args.lanes.now n x) c.len.ensures)),
            ),
          ),
        ),
      ),
    )
