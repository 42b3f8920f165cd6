-- A text cut into lines, and what is still to be cut of a source.
use Rattle.std.specs.Option.{option_map}
use Rattle.std.specs.Prelude.{Bool, Err, IfOk, IfSome, List, None, Ok, Option, Result, Some, [], drop, false, if◌then◌else◌, length, nat_le, nat_lt, suc, take, true, zero, ℕ, ◌&&◌, ◌+◌, ◌++◌, ◌<◌, ◌==◌, ◌∷◌, ◌≡◌, ◌≤◌}
use Rattle.script_lang.specs.declared.line_reader.Taken.{Taken}
use Rattle.script_lang.specs.declared.line_reader.Taken.TheVariants as taken

-- how many bytes stand before the first line feed: all of them where there is none
unfoldable pub feed_at : List ℕ → ℕ
feed_at [] = 0
feed_at (byte ∷ bytes) = if byte == 10 then 0 else suc (feed_at bytes)

-- what is first in a text: a line and the text behind its feed, the end, or a line too long, not ended or too late
pub data Cut : Type 0 where
  CutLine : List ℕ → List ℕ → Cut
  CutEnd : Cut
  CutBad : Cut

-- a line feed ends a line of at most 4,096 bytes
abbrev pub has_line : List ℕ → Bool
has_line text = nat_lt (feed_at text) (length text) && nat_le (feed_at text) 4096

-- the first cut of a text behind so many lines, of which there are at most 65,536
unfoldable pub cut_of : ℕ → List ℕ → Cut
cut_of lines text =
    if length text == 0 then CutEnd
    else if nat_lt lines 65536 && has_line text then CutLine (take (feed_at text) text) (drop (feed_at text + 1) text)
    else CutBad

-- the text that a line leaves
abbrev pub rest_of : Cut → Option (List ℕ)
rest_of (CutLine line rest) = Some rest
rest_of CutEnd = None
rest_of CutBad = None

-- the lines of a text, and whether a bad one ended them
pub record Lines : Type 0 where
  pub lines : List (List ℕ)
  pub is_bad : Bool

-- no lines, and whether a bad one comes
abbrev pub no_lines : Bool → Lines
no_lines is_bad = record { lines = []; is_bad = is_bad }

-- a line before others
abbrev pub with_line : List ℕ → Lines → Lines
with_line line rest = record { lines = line ∷ rest.lines; is_bad = rest.is_bad }

-- the lines of a cut, with those of the text that it leaves
abbrev pub lines_from : (List ℕ → Lines) → Cut → Lines
lines_from lines_of (CutLine line rest) = with_line line (lines_of rest)
lines_from lines_of CutEnd = no_lines false
lines_from lines_of CutBad = no_lines true

-- the lines of a text of at most so many bytes, behind so many lines
unfoldable pub lines_within : ℕ → ℕ → List ℕ → Lines
lines_within zero lines text = no_lines false
lines_within (suc bytes) lines text = lines_from (lines_within bytes (lines + 1)) (cut_of lines text)

-- the lines of a text behind so many lines, until it ends or a bad one comes
abbrev pub lines_cut : ℕ → List ℕ → Lines
lines_cut lines text = lines_within (length text) lines text

-- the bytes that a reader keeps to be cut, and how many lines it cut
pub record Reader : Type 0 where
  pub kept : List ℕ
  pub lines : ℕ

-- what is still to be cut, where the source tells what it has left
abbrev pub still : List ℕ → Option (List ℕ) → Option (List ℕ)
still kept left = option_map (λ more. kept ++ more) left

-- the same is still to be cut, where it was told
abbrev pub Stays : Option (List ℕ) → Option (List ℕ) → Type 0
Stays before after = IfSome before (λ text. after ≡ Some text)

-- an answer is this cut
abbrev pub Shows : Cut → Taken → Type 0
Shows cut (taken.Line line) = (rest : List ℕ) × (cut ≡ CutLine line.now rest)
Shows cut taken.End = cut ≡ CutEnd
Shows cut taken.Bad = cut ≡ CutBad

-- an answer is the first cut of a text behind so many lines, where the text is told
abbrev pub ShowsNext : {E : Type 0} → ℕ → Option (List ℕ) → Result Taken E → Type 0
ShowsNext lines told result = IfOk result (λ taken. IfSome told (λ text. Shows (cut_of lines text) taken))

-- a line has no feed and at most 4,096 bytes, and at most 65,535 lines stand before it
pub record IsShort (lines : ℕ) (line : List ℕ) : Type 0 where
  pub bytes : length line ≤ 4096
  pub feed : feed_at line ≡ length line
  pub before : lines < 65536

-- an answer that is a line is a short one
abbrev pub ShortLine : ℕ → Taken → Type 0
ShortLine lines (taken.Line line) = IsShort lines line.now
ShortLine lines taken.End = Unit {0}
ShortLine lines taken.Bad = Unit {0}

-- after a line: the rest of the text is still to be cut, one line more was cut, and few bytes behind it were taken
pub record LeavesRest (before after : Option (List ℕ)) (old new : Reader) : Type 0 where
  pub rest : IfSome before (λ text. after ≡ rest_of (cut_of old.lines text))
  pub lines : new.lines ≡ old.lines + 1
  pub most : new.lines ≤ 65536
  pub few : length new.kept ≤ 4096

-- after any other answer: nothing was lost or counted
pub record LeavesAll (before after : Option (List ℕ)) (old new : Reader) : Type 0 where
  pub text : Stays before after
  pub lines : new.lines ≡ old.lines
  pub most : new.lines ≤ 65536

-- no line feed is kept, and no more bytes than a line may have
pub record IsOpen (kept : List ℕ) : Type 0 where
  pub feed : feed_at kept ≡ length kept
  pub few : length kept ≤ 4096

-- how a reader stands after it answered: at the end it keeps nothing
abbrev pub LeavesTaken : Option (List ℕ) → Option (List ℕ) → Reader → Reader → Taken → Type 0
LeavesTaken before after old new (taken.Line line) = LeavesRest before after old new
LeavesTaken before after old new taken.End = LeavesAll before after old new × (new.kept ≡ [])
LeavesTaken before after old new taken.Bad = LeavesAll before after old new

-- how a reader stands after a call, where this was and is left of its source
abbrev pub Leaves : {E : Type 0} → Option (List ℕ) → Option (List ℕ) → Result Taken E → Reader → Reader → Type 0
Leaves left rest (Ok taken) old new = LeavesTaken (still old.kept left) (still new.kept rest) old new taken
Leaves left rest (Err fault) old new = LeavesAll (still old.kept left) (still new.kept rest) old new × IsOpen new.kept
