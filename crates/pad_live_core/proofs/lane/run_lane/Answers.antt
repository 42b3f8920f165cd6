use Rattle.turnstile.specs.Turns.{view}
use Rattle.pad_live_core.proofs.MoveLemmas.{lane_cut, lane_next, lane_told}
use Rattle.script_lang.specs.declared.lane_kinds.LaneStep.TheVariants.{AwaitEntry}
use Rattle.pad_live_core.proofs.lane.run_lane.Goals as goal

pub returns-then-is_told-clause-ran : goal.returns-then-is_told-clause-ran
returns-then-is_told-clause-ran g c = (lane_told g.W.PinWork.rules c.args.lines.now c.loop-line.line-index AwaitEntry _ c.loop-line.ids.items c.loop-line.last _ c.loop-line-test.true c.loop-line.invariant.1, tt)

pub returns-in-Err-clause-ran : goal.returns-in-Err-clause-ran
returns-in-Err-clause-ran g c = (lane_cut g.W.PinWork.rules c.args.lines.now c.loop-line.line-index c.line-item.result c.line-item.result _ c.loop-line.ids.items c.loop-line.last c.run_line.new.last (view c.loop-line.pass) _ c.loop-line-test.true c.line-item.is c.loop-line.invariant.1 c.in-Err.ensures.broken, c.in-Err.ensures.full)

pub loop-line-preserved : goal.loop-line-preserved
loop-line-preserved g c = (c.run_line.ensures.pass, lane_next g.W.PinWork.rules c.args.lines.now c.loop-line.line-index c.line-item.result c.line-item.result _ c.loop-line.ids.items c.run_line.new.ids.items c.loop-line.last c.run_line.new.last (view c.loop-line.pass) _ c.loop-line-test.true c.line-item.is c.loop-line.invariant.1 c.in-Ok.ensures.done)
