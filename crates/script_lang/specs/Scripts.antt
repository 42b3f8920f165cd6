-- The lines of a script: what the lines of a text read as, up to the first that is no line of the grammar.
use Rattle.std.specs.Prelude.{Bool, List, None, Option, Some, [], if◌then◌else◌, ℕ, ◌++◌, ◌+◌, ◌∷◌, ◌≡◌}
use Rattle.script_lang.specs.Lines.{CutBad, CutEnd, CutLine, cut_of, lines_cut}

-- the lines before the first bad one, and the number of that one, if there is one
pub record Script (L : Type 0) : Type 0 where
  pub lines : List L
  pub bad : Option ℕ

module _ {L : Type 0} where
  -- a line before others; a text that is no line of the grammar is the first bad line, and has this number
  abbrev pub with_line : ℕ → Option L → Script L → Script L
  with_line number None more = record { lines = []; bad = Some number }
  with_line number (Some line) more = record { lines = line ∷ more.lines; bad = more.bad }

  -- lines before those of a rest
  abbrev pub lines_before : List L → Script L → Script L
  lines_before lines rest = record { lines = lines ++ rest.lines; bad = rest.bad }

module _ {L : Type 0} (read : List ℕ → Option L) where
  -- the lines of these texts, of which the first has this number; behind them a bad line may come
  abbrev pub lines_in : ℕ → List (List ℕ) → Bool → Script L
  lines_in number [] is_bad = record { lines = []; bad = if is_bad then Some number else None }
  lines_in number (text ∷ texts) is_bad = with_line number (read text) (lines_in (number + 1) texts is_bad)

  -- the lines of the rest of a script, of which so many lines were cut before
  unfoldable pub lines_behind : ℕ → List ℕ → Script L
  lines_behind count rest = lines_in (count + 1) (lines_cut count rest).lines (lines_cut count rest).is_bad

  -- behind so many lines, the script in a text is its first line and the script in what that leaves, until the text ends
  -- or a bad line comes
  pub record IsReadLineByLine (count : ℕ) (text : List ℕ) : Type 0 where
    pub line : (line rest : List ℕ) → cut_of count text ≡ CutLine line rest →
        lines_behind count text ≡ with_line (count + 1) (read line) (lines_behind (count + 1) rest)
    pub end : cut_of count text ≡ CutEnd → lines_behind count text ≡ record { lines = []; bad = None }
    pub bad : cut_of count text ≡ CutBad → lines_behind count text ≡ record { lines = []; bad = Some (count + 1) }
