use Rattle.std.proofs.Common.{map, replicate, ◌≡◌, []}
use Rattle.std.specs.Global.{Vec}
use Rattle.script_lang.specs.declared.lane_kinds.LaneStep.{LaneStep}
use Rattle.lane_scripts.proofs.lanes.empty_lists.Given as goal

abbrev pub invariant-loop : goal.invariant-loop
invariant-loop l = map (λ (lane : Vec LaneStep). lane.items) l.lists.items ≡ replicate l.counter []
