-- The lines of the generated script that are still to come.
use Rattle.pad_replay.specs.Generated.{cut_lines, head_lines, lines_behind_round, round_lines, rounds_from}
use Rattle.pad_replay.specs.declared.generated.GeneratedLines.{GeneratedLines}
use Rattle.pad_replay.specs.declared.generated.Part.{Part}
use Rattle.pad_replay.specs.declared.generated.Part.TheVariants as parts
use Rattle.script_lang.specs.Spelling.{is_spelled}
use Rattle.script_lang.specs.declared.kinds.Line.{Line}
use Rattle.std.specs.Prelude.{IsTrue, List, None, Option, Some, [], drop, length, ℕ, ◌+◌, ◌++◌, ◌∷◌, ◌≡◌, ◌≤◌}

-- the lines of a part
abbrev pub part_lines : Part → List Line
part_lines parts.Head = head_lines
part_lines (parts.Round round) = round_lines round
part_lines parts.Cut = cut_lines

-- the lines between a part and the next round
abbrev pub lines_behind_part : Part → List Line
lines_behind_part parts.Head = []
lines_behind_part (parts.Round round) = lines_behind_round round
lines_behind_part parts.Cut = []

-- the lines that are still to come
abbrev pub lines_left : GeneratedLines → List Line
lines_left script = drop script.place (part_lines script.part) ++ lines_behind_part script.part ++ rounds_from script.next script.left

-- the place is in the part or at its end, and there are at most 5,000 rounds
pub record IsWithin (script : GeneratedLines) : Type 0 where
  pub place : script.place ≤ length (part_lines script.part)
  pub rounds : script.next + script.left ≤ 5000

-- at this place of the lines stands this line, which a script can spell
pub record IsLineAt (lines : List Line) (place : ℕ) (line : Line) : Type 0 where
  pub at : drop place lines ≡ line ∷ drop (place + 1) lines
  pub spelled : IsTrue (is_spelled line)

-- this comes first of these lines, which a script can spell, and those are left
abbrev pub ComesFirst : List Line → List Line → Option Line → Type 0
ComesFirst lines left None = lines ≡ []
ComesFirst lines left (Some line) = (lines ≡ line ∷ left) × IsTrue (is_spelled line)
