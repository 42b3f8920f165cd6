use Rattle.script_lang.proofs.LaneLineLaws.{formed_given, lane_found, lane_given, lane_outside}
use Rattle.script_lang.proofs.lane_reading.read_lane_line.Goals as goal

pub returns-clause-found : goal.returns-clause-found
returns-clause-found c = lane_found c.args.line.now c.read_spelled.result c.read_spelled.ensures.given

pub returns-clause-outside : goal.returns-clause-outside
returns-clause-outside c = lane_outside c.args.line.now c.read_spelled.result c.read_spelled.ensures.given

pub returns-clause-lane : goal.returns-clause-lane
returns-clause-lane c = lane_given c.args.line.now c.read_spelled.result c.read_spelled.ensures.given

pub returns-clause-formed : goal.returns-clause-formed
returns-clause-formed c = formed_given c.args.line.now c.read_spelled.result c.read_spelled.ensures.given
