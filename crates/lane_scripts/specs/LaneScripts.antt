-- The lines of a lane script, and its sixteen lanes.
use Rattle.std.specs.Prelude.{Bool, List, None, Option, Some, [], get_or, if◌then◌else◌, set, suc, zero, ℕ, ◌++◌, ◌+◌, ◌-◌, ◌==◌, ◌∷◌}
use Rattle.script_lang.specs.LaneReading.{lane_line_of}
use Rattle.script_lang.specs.Scripts.{Script, lines_behind}
use Rattle.script_lang.specs.declared.lane_kinds.LaneLine.{LaneLine}
use Rattle.script_lang.specs.declared.lane_kinds.LaneLine.TheVariants as lane_line
use Rattle.script_lang.specs.declared.lane_kinds.LaneStep.{LaneStep}

-- ---- lines

-- the lines before the first bad one, and the number of that one, if there is one
abbrev pub LaneScript : Type 0
LaneScript = Script LaneLine

-- the lines of the rest of a script, of which so many lines were cut before
abbrev pub lane_lines_behind : ℕ → List ℕ → LaneScript
lane_lines_behind = lines_behind lane_line_of

-- the lines of a lane script
abbrev pub lane_script_of : List ℕ → LaneScript
lane_script_of script = lane_lines_behind 0 script

-- ---- lanes

-- the step of a line of this lane, and none of other lines
abbrev pub steps_in : ℕ → LaneLine → List LaneStep
steps_in lane lane_line.Blank = []
steps_in lane (lane_line.At number step) = if number == lane then step ∷ [] else []

-- the steps of a lane, in the order of their lines
abbrev pub lane_of : ℕ → List LaneLine → List LaneStep
lane_of lane [] = []
lane_of lane (line ∷ lines) = steps_in lane line ++ lane_of lane lines

-- so many lanes, from the one with this number on
unfoldable pub lanes_from : ℕ → ℕ → List LaneLine → List (List LaneStep)
lanes_from first zero lines = []
lanes_from first (suc more) lines = lane_of first lines ∷ lanes_from (suc first) more lines

-- the sixteen lanes, 1 to 16
abbrev pub lanes_of : List LaneLine → List (List LaneStep)
lanes_of lines = lanes_from 1 16 lines

-- the sixteen lanes with one line more: its step is the last of its lane
abbrev pub with_last_line : List (List LaneStep) → LaneLine → List (List LaneStep)
with_last_line lanes lane_line.Blank = lanes
with_last_line lanes (lane_line.At lane step) = set lanes (lane - 1) (get_or lanes (lane - 1) [] ++ step ∷ [])
