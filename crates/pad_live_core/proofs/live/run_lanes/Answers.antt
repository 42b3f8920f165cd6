use Rattle.std.proofs.Common.{length, sym}
use Rattle.std.specs.Prelude.{map}
use Rattle.turnstile.specs.Turns.{view}
use Rattle.pad_live_core.proofs.RunLemmas.{live_history, map_length, seated_lanes}
use Rattle.pad_live_core.proofs.live.run_lanes.Goals as goal

pub returns-clause-history : goal.returns-clause-history
returns-clause-history g c =
    let absorbed = c.absorb-lanes_stop.ensures.absorbed in
    let count = length c.args.lanes.now in
    live_history g.W.PinWork.rules c.args.pad.kept.seed (map (λ v. v.items) c.args.lanes.now) count _ _ _ _ _ _ _ absorbed.lanes _ _ _ _ c.close-disk.result.2
    (sym (map_length (λ v. v.items) c.args.lanes.now)) c.in_ok-desk.ensures.pass.1 c.seat-worker.ensures.made
    (seated_lanes c.args.pad.kept.seed count _ _ _ c.in_ok-desk.ensures.pass.1 c.seat-worker.ensures.maker c.seat_lanes.ensures.first)
    c.run_all-ends.ensures.worker.works c.run_all-ends.ensures.worker.ends
    absorbed.lines absorbed.know absorbed.joins (record { none = absorbed.stops.none; full = absorbed.stops.full; met = absorbed.stops.met })
    c.worse.ensures c.finish_work-last.ensures.works c.finish_work-last.ensures.ends
    c.join.ensures.joined c.close-disk.ensures.whole c.close-disk.ensures.legal
