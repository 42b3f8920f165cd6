-- How the bytes of a line come together.
use Rattle.std.specs.Prelude.{IfSome, List, Option, [], length, ℕ, ◌+◌, ◌++◌, ◌<◌, ◌⊎◌, ◌≡◌, ◌≤◌}
use Rattle.script_lang.specs.Lines.{Cut, CutBad, CutEnd, Stays, cut_of, feed_at, still}
use Rattle.script_lang.specs.declared.line_buffer.Found.{Found}
use Rattle.script_lang.specs.declared.line_buffer.Found.TheVariants as found

-- nothing is left, where it was told
abbrev pub IsOver : Option (List ℕ) → Type 0
IsOver left = IfSome left (λ bytes. bytes ≡ [])

-- a piece went from a source behind the bytes that were kept
pub record Grows (left rest : Option (List ℕ)) (old new : List ℕ) : Type 0 where
  pub piece : List ℕ
  pub kept : new ≡ old ++ piece
  pub few : length piece ≤ 4096
  pub text : Stays (still old left) (still new rest)

-- a line feed is kept, or more bytes than a line may have
abbrev pub IsWhole : List ℕ → Type 0
IsWhole kept = (feed_at kept < length kept) ⊎ (4096 < length kept)

-- all that was to be cut is kept, where it was told
abbrev pub IsAll : Option (List ℕ) → List ℕ → Type 0
IsAll told kept = IfSome told (λ text. text ≡ kept)

-- nothing more is to be taken of a text
abbrev pub Stops : Option (List ℕ) → List ℕ → Type 0
Stops told kept = IsWhole kept ⊎ IsAll told kept

-- a line of so many bytes, and of so many with its feed, stands in front, and few bytes behind it
pub record IsFront (lines : ℕ) (kept : List ℕ) (size used : ℕ) : Type 0 where
  pub feed : size ≡ feed_at kept
  pub with_feed : used ≡ size + 1
  pub within : size < length kept
  pub bytes : size ≤ 4096
  pub before : lines < 65536
  pub behind : length kept ≤ size + 4096

-- this is the first cut of a text behind so many lines, where the text is told
abbrev pub CutIs : ℕ → Option (List ℕ) → Cut → Type 0
CutIs lines told cut = IfSome told (λ text. cut_of lines text ≡ cut)

-- what was found of a text, of which these bytes are kept
abbrev pub IsFound : ℕ → Option (List ℕ) → List ℕ → Found → Type 0
IsFound lines told kept (found.Line size used) = IsFront lines kept size used
IsFound lines told kept found.End = CutIs lines told CutEnd × (kept ≡ [])
IsFound lines told kept found.Bad = CutIs lines told CutBad
