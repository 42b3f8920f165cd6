-- The next line of a script.
use Rattle.std.proofs.Common.{ap, arith, cond, length-append, refl, subst, sym, ◌∙◌}
use Rattle.std.proofs.lemmas.Bool.Decides.{nat_tests}
use Rattle.std.proofs.lemmas.List.{nil_from_length}
use Rattle.std.specs.Prelude.{Bool, IfSome, List, None, Option, Some, [], drop, false, if◌then◌else◌, length, nat_lt, suc, take, true, ℕ, ◌&&◌, ◌+◌, ◌++◌, ◌<◌, ◌==◌, ◌∷◌, ◌≡◌}
use Rattle.pad_replay.specs.NextLines.{IsNext}
use Rattle.pad_replay.specs.Script.{feeds_in, lines_behind}
use Rattle.pad_replay.specs.declared.script_reader.Next.{Next}
use Rattle.pad_replay.specs.declared.script_reader.Next.TheVariants as next
use Rattle.script_lang.specs.Lines.{CutBad, CutEnd, CutLine, LeavesTaken, Reader, Shows, cut_of, feed_at, has_line, rest_of}
use Rattle.script_lang.specs.Reading.{line_of}
use Rattle.script_lang.specs.Scripts.{IsReadLineByLine, with_line as line_first}
use Rattle.script_lang.specs.declared.kinds.Line.{Line}
use Rattle.script_lang.specs.declared.line_reader.Taken.{Taken}
use Rattle.script_lang.specs.declared.line_reader.Taken.TheVariants as taken

-- options of the same
pub some-same : (first second : List ℕ) → Some first ≡ Some second → first ≡ second
some-same first second same = cc

-- ---- line feeds

-- the first line feed of a text, the bytes before it and with it, and those behind it
record Parted (text : List ℕ) : Type 0 where
  pub parts : text ≡ (take (feed_at text) text ++ 10 ∷ []) ++ drop (feed_at text + 1) text
  pub feeds : feeds_in (take (feed_at text) text ++ 10 ∷ []) ≡ 1

drop-next : (n byte : ℕ) (bytes : List ℕ) → drop (suc n + 1) (byte ∷ bytes) ≡ drop (n + 1) bytes
drop-next n byte bytes = let one_more : suc n + 1 ≡ suc (n + 1) = omega arith in ap (λ (k : ℕ). drop k (byte ∷ bytes)) one_more

part-step : (is_feed : Bool) (byte : ℕ) (bytes : List ℕ) → (byte == 10) ≡ is_feed → cond is_feed 0 (suc (feed_at bytes)) < suc (length bytes) → (feed_at bytes < length bytes → Parted bytes)
    → ((byte ∷ bytes) ≡ (take (cond is_feed 0 (suc (feed_at bytes))) (byte ∷ bytes) ++ 10 ∷ []) ++ drop (cond is_feed 0 (suc (feed_at bytes)) + 1) (byte ∷ bytes))
    × (feeds_in (take (cond is_feed 0 (suc (feed_at bytes))) (byte ∷ bytes) ++ 10 ∷ []) ≡ 1)
part-step true byte bytes is lt more = let ten : byte ≡ 10 = grind (arith, nat_tests, is) in (ap (λ (b : ℕ). b ∷ bytes) ten, refl)
part-step false byte bytes is lt more =
    let rest : Parted bytes = more (omega (arith, lt)) in
    (ap (λ (bs : List ℕ). byte ∷ bs) rest.parts ∙ ap (λ (bs : List ℕ). byte ∷ ((take (feed_at bytes) bytes ++ 10 ∷ []) ++ bs)) (sym (drop-next (feed_at bytes) byte bytes)), rw is rest.feeds)

parted : (text : List ℕ) → feed_at text < length text → Parted text
unfolding feed_at
parted [] lt = absurd (omega (arith, lt))
parted (byte ∷ bytes) lt = let both = part-step (byte == 10) byte bytes refl lt (parted bytes) in record { parts = both.0; feeds = both.1 }

-- bytes without a line feed
none-step : (is_feed : Bool) (byte : ℕ) (bytes : List ℕ) → (byte == 10) ≡ is_feed → cond is_feed 0 (suc (feed_at bytes)) ≡ suc (length bytes) → (feed_at bytes ≡ length bytes → feeds_in bytes ≡ 0) → feeds_in (byte ∷ bytes) ≡ 0
none-step true byte bytes is all more = absurd (omega (arith, all))
none-step false byte bytes is all more = rw is (more (omega (arith, all)))

pub feeds_in-open : (bytes : List ℕ) → feed_at bytes ≡ length bytes → feeds_in bytes ≡ 0
unfolding feed_at
feeds_in-open [] all = refl
feeds_in-open (byte ∷ bytes) all = none-step (byte == 10) byte bytes refl all (feeds_in-open bytes)

-- the line feeds of bytes and more bytes
more-feeds : (is_feed : Bool) (n m k : ℕ) → n ≡ m + k → cond is_feed (suc n) n ≡ cond is_feed (suc m) m + k
more-feeds true n m k is = omega (arith, is)
more-feeds false n m k is = omega (arith, is)

pub feeds_in-append : (bytes more : List ℕ) → feeds_in (bytes ++ more) ≡ feeds_in bytes + feeds_in more
feeds_in-append [] more = omega arith
feeds_in-append (byte ∷ bytes) more = more-feeds (byte == 10) (feeds_in (bytes ++ more)) (feeds_in bytes) (feeds_in more) (feeds_in-append bytes more)

-- ---- cuts

-- a text of which a line is cut has a line feed
has-feed : (count : ℕ) (text line rest : List ℕ) → cut_of count text ≡ CutLine line rest → (feed_at text < length text) × ((line ≡ take (feed_at text) text) × (rest ≡ drop (feed_at text + 1) text))
unfolding cut_of
has-feed count text line rest is = cut-cases (length text == 0) (nat_lt count 65536 && has_line text) refl is
  where
    within : (count : ℕ) (text : List ℕ) → (nat_lt count 65536 && has_line text) ≡ true → feed_at text < length text
    within count text is = grind (arith, nat_tests, is)

    same-parts : (a b c d : List ℕ) → CutLine a b ≡ CutLine c d → (a ≡ c) × (b ≡ d)
    same-parts a b c d is = (cc, cc)

    cut-cases : (is_end has : Bool) → (nat_lt count 65536 && has_line text) ≡ has
        → (if is_end then CutEnd else if has then CutLine (take (feed_at text) text) (drop (feed_at text + 1) text) else CutBad) ≡ CutLine line rest
        → (feed_at text < length text) × ((line ≡ take (feed_at text) text) × (rest ≡ drop (feed_at text + 1) text))
    cut-cases true has told cut = absurd cc
    cut-cases false true told cut = let both = same-parts (take (feed_at text) text) (drop (feed_at text + 1) text) line rest cut in (within count text told, (sym both.0, sym both.1))
    cut-cases false false told cut = absurd cc

-- the line with its feed, and what is left behind it
cut-line : (count : ℕ) (text line rest : List ℕ) → cut_of count text ≡ CutLine line rest → (text ≡ (line ++ 10 ∷ []) ++ rest) × (feeds_in (line ++ 10 ∷ []) ≡ 1)
cut-line count text line rest is =
    let has = has-feed count text line rest is in
    let part = parted text has.0 in (
      part.parts ∙ ap (λ (l : List ℕ). (l ++ 10 ∷ []) ++ drop (feed_at text + 1) text) (sym has.1.0) ∙ ap (λ (r : List ℕ). (line ++ 10 ∷ []) ++ r) (sym has.1.1),
      subst (λ (l : List ℕ). feeds_in (l ++ 10 ∷ []) ≡ 1) (sym has.1.0) part.feeds,
    )

-- ---- what comes next

-- what a reader took is what comes next
abbrev pub Reads : Taken → Next → Type 0
Reads (taken.Line text) (next.Line line) = line_of text.now ≡ Some line
Reads (taken.Line text) next.BadLine = line_of text.now ≡ None
Reads taken.End next.End = Unit {0}
Reads taken.Bad next.BadLine = Unit {0}
Reads other something = ⊥

-- the laws of scripts
abbrev ReadsOn : Type 0
ReadsOn = (n : ℕ) (text : List ℕ) → IsReadLineByLine line_of n text

abbrev CutsEnd : Type 0
CutsEnd = (n : ℕ) (text : List ℕ) → cut_of n text ≡ CutEnd → text ≡ []

module _ (count : ℕ) (text : List ℕ) (reading : IsReadLineByLine line_of count text) where
  found : (cut_of count text ≡ CutEnd → text ≡ []) → (after : Option (List ℕ)) (old new : Reader) (took : Taken) (what : Next) → old.lines ≡ count → Shows (cut_of count text) took → LeavesTaken (Some text) after old new took → Reads took what → IsNext count text after what
  found ends after old new (taken.Line bytes) (next.Line line) at shows leaves reads =
      let cut = cut-line count text bytes.now shows.0 shows.1 in
      record {
        cut = bytes.now ++ 10 ∷ [];
        rest = shows.0;
        parts = cut.0;
        feeds = cut.1;
        left = leaves.rest ∙ ap (λ (n : ℕ). rest_of (cut_of n text)) at ∙ ap rest_of shows.1;
        are = reading.line bytes.now shows.0 shows.1 ∙ ap (λ (l : Option Line). line_first (count + 1) l (lines_behind (count + 1) shows.0)) reads;
      }
  found ends after old new (taken.Line bytes) next.BadLine at shows leaves reads = reading.line bytes.now shows.0 shows.1 ∙ ap (λ (l : Option Line). line_first (count + 1) l (lines_behind (count + 1) shows.0)) reads
  found ends after old new (taken.Line bytes) next.End at shows leaves reads = absurd reads
  found ends after old new taken.End next.End at shows leaves reads = record { left = leaves.0.text ∙ ap (λ (t : List ℕ). Some t) (ends shows); are = reading.end shows }
  found ends after old new taken.End (next.Line line) at shows leaves reads = absurd reads
  found ends after old new taken.End next.BadLine at shows leaves reads = absurd reads
  found ends after old new taken.Bad next.BadLine at shows leaves reads = reading.bad shows
  found ends after old new taken.Bad (next.Line line) at shows leaves reads = absurd reads
  found ends after old new taken.Bad next.End at shows leaves reads = absurd reads

-- what a reader took of what was told comes next
pub next-found : (ends : CutsEnd) (reads_on : ReadsOn) (told after : Option (List ℕ)) (old new : Reader) (took : Taken) (what : Next) → IfSome told (λ text. Shows (cut_of old.lines text) took) → LeavesTaken told after old new took → Reads took what
    → IfSome told (λ text. IsNext old.lines text after what)
next-found ends reads_on None after old new took what shows leaves reads = tt
next-found ends reads_on (Some text) after old new took what shows leaves reads = found old.lines text (reads_on old.lines text) (ends old.lines text) after old new took what refl shows leaves reads
