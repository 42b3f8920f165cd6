use Rattle.std.specs.Prelude.{vec_len}
use Rattle.pad_live_core.proofs.starts.+start_lanes.Given as goal

abbrev pub decreases-start_lanes : goal.decreases-start_lanes
decreases-start_lanes g l = vec_len l.passes
