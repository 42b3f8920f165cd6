-- The lines of a text, one by one.
use Rattle.std.proofs.Common.{Bool, List, [], ap, arith, cond, drop, eqb, false, length, length-append, length-drop, refl, suc, sym, take, true, zero, ℕ, ◌+◌, ◌<◌, ◌∙◌, ◌∷◌, ◌≡◌, ◌≤◌}
use Rattle.std.proofs.lemmas.Bool.Decides.{nat_tests}
use Rattle.std.proofs.lemmas.List.{nil_from_length}
use Rattle.std.specs.Prelude.{None, Option, Some, if◌then◌else◌, nat_lt, ◌&&◌, ◌++◌, ◌==◌}
use Rattle.script_lang.specs.Lines.{Cut, CutBad, CutEnd, CutLine, Lines, cut_of, feed_at, has_line, lines_cut, lines_from, lines_within, still, with_line}
use Rattle.script_lang.specs.Scripts.{IsReadLineByLine, lines_behind, lines_in}

-- a line leaves less than the text
abbrev Shortens : List ℕ → Cut → Type 0
Shortens text (CutLine line rest) = length rest < length text
Shortens text CutEnd = Unit {0}
Shortens text CutBad = Unit {0}

some_bytes : (text : List ℕ) → eqb (length text) 0 ≡ false → 0 < length text
some_bytes text e = grind (arith, nat_tests)

by_tests : (is_empty is_line : Bool) (text line : List ℕ) → eqb (length text) 0 ≡ is_empty
    → Shortens text (cond is_empty CutEnd (cond is_line (CutLine line (drop (feed_at text + 1) text)) CutBad))
by_tests true is_line text line e = tt
by_tests false false text line e = tt
by_tests false true text line e = omega (arith, length-drop (feed_at text + 1) text, some_bytes text e)

shortens : (lines : ℕ) (text : List ℕ) → Shortens text (cut_of lines text)
unfolding cut_of
shortens lines text = by_tests (eqb (length text) 0) (nat_lt lines 65536 && has_line text) text (take (feed_at text) text) refl

-- the same lines, where both say the same of all that is shorter
from_same : (cut : Cut) (text : List ℕ) (f g : List ℕ → Lines) → Shortens text cut → ((rest : List ℕ) → length rest < length text → f rest ≡ g rest) → lines_from f cut ≡ lines_from g cut
from_same (CutLine line rest) text f g shorter same = ap (with_line line) (same rest shorter)
from_same CutEnd text f g shorter same = refl
from_same CutBad text f g shorter same = refl

-- no bytes have no lines
none_within : (n lines : ℕ) (text : List ℕ) → length text ≤ 0 → lines_within n lines text ≡ record { lines = []; is_bad = false }
unfolding lines_within cut_of
none_within zero lines text none = refl
none_within (suc n) lines [] none = refl
none_within (suc n) lines (byte ∷ bytes) none = absurd (omega (arith, none))

-- any number of bytes serves that the text does not exceed
lines_within-more : (n m lines : ℕ) (text : List ℕ) → length text ≤ n → length text ≤ m → lines_within n lines text ≡ lines_within m lines text
unfolding lines_within
lines_within-more zero m lines text le le2 = none_within zero lines text le ∙ sym (none_within m lines text le)
lines_within-more (suc n) zero lines text le le2 = none_within (suc n) lines text le2 ∙ sym (none_within zero lines text le2)
lines_within-more (suc n) (suc m) lines text le le2 =
    from_same (cut_of lines text) text (lines_within n (lines + 1)) (lines_within m (lines + 1)) (shortens lines text)
    (λ rest shorter. lines_within-more n m (lines + 1) rest (omega (arith, shorter, le)) (omega (arith, shorter, le2)))

-- the first cut, and the lines of what it leaves
pub lines_cut-one : (lines : ℕ) (text : List ℕ) → lines_cut lines text ≡ lines_from (lines_cut (lines + 1)) (cut_of lines text)
unfolding lines_within cut_of
lines_cut-one lines [] = refl
lines_cut-one lines (byte ∷ bytes) =
    from_same (cut_of lines (byte ∷ bytes)) (byte ∷ bytes) (lines_within (length bytes) (lines + 1)) (lines_cut (lines + 1)) (shortens lines (byte ∷ bytes))
    (λ rest shorter. lines_within-more (length bytes) (length rest) (lines + 1) rest (omega (arith, shorter)) (omega arith))

-- the same for a cut that is known
pub lines_cut-of : (lines : ℕ) (text : List ℕ) (cut : Cut) → cut_of lines text ≡ cut → lines_cut lines text ≡ lines_from (lines_cut (lines + 1)) cut
lines_cut-of lines text cut is = lines_cut-one lines text ∙ ap (lines_from (lines_cut (lines + 1))) is

-- the lines of a script behind its first cut
module _ {L : Type 0} (read : List ℕ → Option L) (count : ℕ) (text : List ℕ) where
  pub read-line-by-line : IsReadLineByLine read count text
  unfolding lines_behind
  read-line-by-line = record {
    line = λ line rest is. ap (λ (all : Lines). lines_in read (count + 1) all.lines all.is_bad) (lines_cut-of count text (CutLine line rest) is);
    end = λ is. ap (λ (all : Lines). lines_in read (count + 1) all.lines all.is_bad) (lines_cut-of count text CutEnd is);
    bad = λ is. ap (λ (all : Lines). lines_in read (count + 1) all.lines all.is_bad) (lines_cut-of count text CutBad is);
  }

-- a text that ends has no byte
pub cut-end : (count : ℕ) (text : List ℕ) → cut_of count text ≡ CutEnd → text ≡ []
unfolding cut_of
cut-end count text is = end-cases (length text == 0) (nat_lt count 65536 && has_line text) refl is
  where
    end-cases : (is_end has : Bool) → (length text == 0) ≡ is_end → (if is_end then CutEnd else if has then CutLine (take (feed_at text) text) (drop (feed_at text + 1) text) else CutBad) ≡ CutEnd → text ≡ []
    end-cases true has told cut = nil_from_length text (grind (arith, nat_tests, told))
    end-cases false true told cut = absurd cc
    end-cases false false told cut = absurd cc

-- where nothing is left to be cut, nothing is left of the source
some-same : (first second : List ℕ) → Some first ≡ Some second → first ≡ second
some-same first second same = cc

pub still-none : (kept : List ℕ) (left : Option (List ℕ)) → still kept left ≡ Some [] → left ≡ Some []
still-none kept None none = absurd (no_text none)
  where
    no_text : still kept None ≡ Some [] → ⊥
    no_text none = cc
still-none kept (Some rest) none = let size : length (kept ++ rest) ≡ 0 = ap length (some-same (kept ++ rest) [] none) in ap (λ (r : List ℕ). Some r) (nil_from_length rest (omega (arith, size, length-append kept rest)))
