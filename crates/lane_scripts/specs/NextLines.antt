-- What comes next of a lane script, and what was read of it.
use Rattle.lane_scripts.specs.LaneScripts.{lane_lines_behind, lane_script_of, lanes_of}
use Rattle.script_lang.specs.LaneSpelling.{HasFormedStep, HasLane, IsFormedStep}
use Rattle.script_lang.specs.Lines.{Reader}
use Rattle.script_lang.specs.Scripts.{lines_before}
use Rattle.script_lang.specs.declared.lane_kinds.LaneLine.{LaneLine}
use Rattle.script_lang.specs.declared.lane_kinds.LaneStep.{LaneStep}
use Rattle.std.specs.Prelude.{All, List, None, Option, Some, [], length, ℕ, ◌+◌, ◌<◌, ◌∷◌, ◌≡◌, ◌≤◌}

-- behind so many lines this line was cut from a text
pub record IsFirstLine (count : ℕ) (text : List ℕ) (after : Option (List ℕ)) (line : LaneLine) : Type 0 where
  pub rest : List ℕ
  pub left : after ≡ Some rest
  pub are : lane_lines_behind count text ≡ lines_before (line ∷ []) (lane_lines_behind (count + 1) rest)

-- no line is left
pub record IsEnd (count : ℕ) (text : List ℕ) (after : Option (List ℕ)) : Type 0 where
  pub left : after ≡ Some []
  pub are : lane_lines_behind count text ≡ record { lines = []; bad = None }

-- this comes next of a text behind so many lines, and this is to be cut then
abbrev pub IsNext : ℕ → List ℕ → Option (List ℕ) → Option LaneLine → Type 0
IsNext count text after (Some line) = IsFirstLine count text after line
IsNext count text after None = IsEnd count text after

-- the first line of a text behind so many lines is bad
abbrev pub IsBadNext : ℕ → List ℕ → Type 0
IsBadNext count text = lane_lines_behind count text ≡ record { lines = []; bad = Some (count + 1) }

-- how a reader stands behind a line: it cut one more, of at most 65,536, and keeps few bytes
pub record GoesOn (old new : Reader) (line : LaneLine) : Type 0 where
  pub before : old.lines < 65536
  pub lines : new.lines ≡ old.lines + 1
  pub kept : length new.kept ≤ 4096
  pub lane : HasLane line
  pub formed : HasFormedStep line

-- so many lines of a script were read, which have these lanes, and this is still to be cut
pub record IsRead (script : List ℕ) (count : ℕ) (left : Option (List ℕ)) (lanes : List (List LaneStep))
    : Type 0 where
  pub lines : List LaneLine
  pub rest : List ℕ
  pub told : left ≡ Some rest
  pub are : lane_script_of script ≡ lines_before lines (lane_lines_behind count rest)
  pub steps : lanes ≡ lanes_of lines

-- every step of a script in every lane is well formed
abbrev pub AreFormed : List (List LaneStep) → Type 0
AreFormed lanes = All (λ lane. All IsFormedStep lane) lanes
