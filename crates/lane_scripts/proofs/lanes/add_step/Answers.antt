use Rattle.lane_scripts.proofs.LaneLemmas.{map-step, on_ok-then}
use Rattle.lane_scripts.proofs.lanes.add_step.Goals as goal

pub returns-clause-step : goal.returns-clause-step
returns-clause-step c = on_ok-then c.push_step.result (λ is. map-step c.args.lists.now c.args.place c.index-lists-place.result c.push_step.new.steps c.args.step c.requires is) c.push_step.ensures
