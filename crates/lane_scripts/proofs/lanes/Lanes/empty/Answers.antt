use Rattle.std.proofs.Common.{sym, ◌∙◌}
use Rattle.lane_scripts.proofs.LaneLemmas.{lanes_of-none}
use Rattle.lane_scripts.proofs.lanes.Lanes.empty.Goals as goal

pub returns : goal.returns
returns c = c.in_ok-lists.ensures ∙ sym lanes_of-none
