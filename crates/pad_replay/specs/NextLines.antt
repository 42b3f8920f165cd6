-- What comes next of a script.
use Rattle.pad_replay.specs.Script.{feeds_in, lines_behind}
use Rattle.script_lang.specs.Scripts.{lines_before}
use Rattle.pad_replay.specs.declared.script_reader.Next.{Next}
use Rattle.pad_replay.specs.declared.script_reader.Next.TheVariants as next
use Rattle.script_lang.specs.Lines.{Reader}
use Rattle.script_lang.specs.Spelling.{is_spelled}
use Rattle.script_lang.specs.declared.kinds.Line.{Line}
use Rattle.std.specs.Prelude.{IsTrue, List, None, Option, Some, [], length, ℕ, ◌+◌, ◌++◌, ◌<◌, ◌∷◌, ◌≡◌, ◌≤◌}

-- behind so many lines this line was cut from a text, with its feed
pub record IsFirstLine (count : ℕ) (text : List ℕ) (after : Option (List ℕ)) (line : Line) : Type 0 where
  pub cut : List ℕ
  pub rest : List ℕ
  pub parts : text ≡ cut ++ rest
  pub feeds : feeds_in cut ≡ 1
  pub left : after ≡ Some rest
  pub are : lines_behind count text ≡ lines_before (line ∷ []) (lines_behind (count + 1) rest)

-- no line is left
pub record IsEnd (count : ℕ) (text : List ℕ) (after : Option (List ℕ)) : Type 0 where
  pub left : after ≡ Some []
  pub are : lines_behind count text ≡ record { lines = []; bad = None }

-- this comes next of a text behind so many lines, and this is to be cut then
abbrev pub IsNext : ℕ → List ℕ → Option (List ℕ) → Next → Type 0
IsNext count text after (next.Line line) = IsFirstLine count text after line
IsNext count text after next.End = IsEnd count text after
IsNext count text after next.BadLine = lines_behind count text ≡ record { lines = []; bad = Some (count + 1) }

-- how a reader stands behind a line: it cut one more, of at most 65,536, and keeps few bytes
pub record GoesOn (old new : Reader) (line : Line) : Type 0 where
  pub before : old.lines < 65536
  pub lines : new.lines ≡ old.lines + 1
  pub kept : length new.kept ≤ 4096
  pub spelled : IsTrue (is_spelled line)

abbrev pub GoesOnBehind : Reader → Reader → Next → Type 0
GoesOnBehind old new (next.Line line) = GoesOn old new line
GoesOnBehind old new next.End = Unit {0}
GoesOnBehind old new next.BadLine = Unit {0}
