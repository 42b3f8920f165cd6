use Rattle.std.proofs.Common.{subst, sym, ◌∙◌, ◌≡◌}
use Rattle.std.specs.Prelude.{map}
use Rattle.std.specs.Vec.Iter.{into_iter_items}
use Rattle.turnstile.specs.Turns.{view}
use Rattle.pad_live_core.proofs.PlacedLemmas.{no_length}
use Rattle.pad_live_core.proofs.StartLemmas.{absorbs_all, absorbs_next, absorbs_none, end_pass}
use Rattle.pad_live_core.specs.LaneJobs.{AllEnded}
use Rattle.pad_live_core.proofs.joins.absorb.Goals as goal

pub join-requires-clause-other : goal.join-requires-clause-other
join-requires-clause-other g c = end_pass g.W.PinWork.rules c.args.desk.now.turn (map (λ v. v.items) c.args.lanes.now) _ _ c.in-Some.end (into_iter_items c.loop-end.end-iterator) (into_iter_items c.next.new.self) c.loop-end.stop c.loop-end.invariant.1 c.in-Some.ensures.steps.0

pub loop-end-preserved : goal.loop-end-preserved
loop-end-preserved g c = (c.join.ensures.pass, absorbs_next g.W.PinWork.rules c.args.desk.now.turn (map (λ v. v.items) c.args.lanes.now) _ (view c.loop-end.worker) _ c.in-Some.end (into_iter_items c.loop-end.end-iterator) (into_iter_items c.next.new.self) c.loop-end.stop c.worse-stop.result c.loop-end.invariant.1 c.in-Some.ensures.steps.0 c.join.ensures.joined c.worse-stop.ensures)

pub returns-clause-absorbed : goal.returns-clause-absorbed
returns-clause-absorbed g c = let it = c.loop-end.end-iterator in absorbs_all g.W.PinWork.rules c.args.desk.now.turn (map (λ v. v.items) c.args.lanes.now) _ _ (into_iter_items it) c.loop-end.stop (no_length (into_iter_items it) (sym it.rest.ok.0 ∙ c.in-None.ensures.steps.0)) c.loop-end.invariant.1

pub loop-end-init : goal.loop-end-init
loop-end-init g c = let gives : into_iter_items c.into_iter-end-iterator.result ≡ c.args.ends.items = c.into_iter-end-iterator.ensures.into_iter_gives.0 in (c.requires.pass, absorbs_none g.W.PinWork.rules c.args.desk.now.turn (map (λ v. v.items) c.args.lanes.now) (view c.args.worker.now) (into_iter_items c.into_iter-end-iterator.result) (subst (AllEnded g.W.PinWork.rules c.args.desk.now.turn 1 (map (λ v. v.items) c.args.lanes.now)) (sym gives) c.requires.ends))
