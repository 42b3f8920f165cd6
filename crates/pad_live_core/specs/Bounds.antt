-- How many entries the lines of lanes allow.
use Rattle.pad_steps.specs.declared.steps.Step.TheVariants as steps
use Rattle.pad_steps.specs.declared.steps.Step.{Step}
use Rattle.script_lang.specs.declared.lane_kinds.LaneStep.TheVariants as lane
use Rattle.script_lang.specs.declared.lane_kinds.LaneStep.{LaneStep}
use Rattle.std.specs.Prelude.{List, [], length, ℕ, ◌*◌, ◌+◌, ◌∷◌}

-- 1 of a Submit
abbrev pub is_submit : Step → ℕ
is_submit (steps.Submit session limit command) = 1
is_submit other = 0

abbrev pub is_submit_line : LaneStep → ℕ
is_submit_line (lane.Plain step) = is_submit step
is_submit_line other = 0

-- the Submits among a lane's lines
abbrev pub submits : List LaneStep → ℕ
submits [] = 0
submits (line ∷ lines) = is_submit_line line + submits lines

-- the Submits among all lines
abbrev pub all_submits : List (List LaneStep) → ℕ
all_submits [] = 0
all_submits (lines ∷ others) = submits lines + all_submits others

-- how many lines there are
abbrev pub all_lines : List (List LaneStep) → ℕ
all_lines [] = 0
all_lines (lines ∷ others) = length lines + all_lines others

abbrev pub is_await_line : LaneStep → ℕ
is_await_line (lane.AwaitReply session k) = 1
is_await_line other = 0

-- the awaits of a reply among a lane's lines
abbrev pub awaits : List LaneStep → ℕ
awaits [] = 0
awaits (line ∷ lines) = is_await_line line + awaits lines

-- four times the lines; and of the Submits, twice for each lane and twice more
abbrev pub most_entries : List (List LaneStep) → ℕ
most_entries lines = 4 * all_lines lines + (2 * length lines + 2) * all_submits lines
