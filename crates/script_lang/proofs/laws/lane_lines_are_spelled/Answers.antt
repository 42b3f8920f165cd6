use Rattle.script_lang.proofs.LaneLineLaws.{lane_line_again, lane_line_takes, one_lane_line, plain_behind, plain_spelled}
use Rattle.script_lang.proofs.laws.lane_lines_are_spelled.Goals as goal

pub returns-clause-one : goal.returns-clause-one
returns-clause-one c = one_lane_line

pub returns-clause-exact : goal.returns-clause-exact
returns-clause-exact c = λ bytes l. (lane_line_takes bytes l, lane_line_again bytes l)

pub returns-clause-plain : goal.returns-clause-plain
returns-clause-plain c = plain_spelled

pub returns-clause-behind : goal.returns-clause-behind
returns-clause-behind c = plain_behind
