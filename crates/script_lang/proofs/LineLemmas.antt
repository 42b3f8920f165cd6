-- The first cut of what is kept and what a source has left.
use Rattle.std.proofs.Common.{ap, arith, drop, eqb, false, inl, inr, length, length-append, length-drop, refl, subst, sym, take, true, List, None, Option, Some, [], ℕ, ◌+◌, ◌++◌, ◌<◌, ◌∙◌, ◌∷◌, ◌≡◌, ◌≤◌, ◌⊎◌}
use Rattle.std.proofs.lemmas.Bool.Decides.{nat_tests}
use Rattle.std.proofs.lemmas.List.{append-nil, drop-append-le, length-take-le, take-append-le}
use Rattle.std.specs.Prelude.{IfSome, nat_lt, ◌&&◌}
use Rattle.script_lang.proofs.FeedLemmas.{feed_at-append, feed_at-front, feed_at-take}
use Rattle.script_lang.specs.Gathering.{CutIs, Grows, IsAll, IsFront, IsOver, Stops}
use Rattle.script_lang.specs.Lines.{CutBad, CutEnd, CutLine, IsOpen, IsShort, Stays, cut_of, feed_at, has_line, rest_of, still, LeavesRest, Reader}

-- ---- the same text

pub Stays-same : (told : Option (List ℕ)) → Stays told told
Stays-same None = tt
Stays-same (Some text) = refl

pub Stays-then : (a b c : Option (List ℕ)) → Stays a b → Stays b c → Stays a c
Stays-then None b c first second = tt
Stays-then (Some text) b c first second = subst (λ (told : Option (List ℕ)). Stays told c) first second

-- a fact of the text that stayed
pub of_stayed : (a b : Option (List ℕ)) (P : List ℕ → Type 0) → Stays a b → IfSome b P → IfSome a P
of_stayed None b P stays fact = tt
of_stayed (Some text) b P stays fact = subst (λ (told : Option (List ℕ)). IfSome told P) stays fact

-- ---- the first cut

not_empty : (text : List ℕ) → 0 < length text → eqb (length text) 0 ≡ false
not_empty text some = grind (arith, nat_tests)

cut_of-nothing : (lines : ℕ) → cut_of lines [] ≡ CutEnd
unfolding cut_of
cut_of-nothing lines = refl

cut_of-line : (lines : ℕ) (text : List ℕ) → lines < 65536 → feed_at text < length text → feed_at text ≤ 4096 → cut_of lines text ≡ CutLine (take (feed_at text) text) (drop (feed_at text + 1) text)
unfolding cut_of
cut_of-line lines text early within short =
    let some : 0 < length text = omega (arith, within) in
    let e : (nat_lt lines 65536 && has_line text) ≡ true = grind (arith, nat_tests) in
    rw (not_empty text some, e) refl

abbrev IsRefused : ℕ → List ℕ → Type 0
IsRefused lines text = (65536 ≤ lines) ⊎ ((length text ≤ feed_at text) ⊎ (4096 < feed_at text))

no_line : (lines : ℕ) (text : List ℕ) → IsRefused lines text → (nat_lt lines 65536 && has_line text) ≡ false
no_line lines text (inl late) = grind (arith, nat_tests)
no_line lines text (inr (inl open_end)) = grind (arith, nat_tests)
no_line lines text (inr (inr long)) = grind (arith, nat_tests)

cut_of-bad : (lines : ℕ) (text : List ℕ) → 0 < length text → IsRefused lines text → cut_of lines text ≡ CutBad
unfolding cut_of
cut_of-bad lines text some why = rw (not_empty text some, no_line lines text why) refl

-- ---- what is found

-- a text that was told, of which some is kept
told : (kept text : List ℕ) (left : Option (List ℕ)) → still kept left ≡ Some text → (more : List ℕ) × (left ≡ Some more) × (text ≡ kept ++ more)
told kept text None e = absurd cc
told kept text (Some more) e = let f : kept ++ more ≡ text = cc in (more, refl, sym f)

-- all of it where nothing is left
pub all_kept : (before : Option (List ℕ)) (kept : List ℕ) (left : Option (List ℕ)) → Stays before (still kept left) → IsOver left → IsAll before kept
all_kept None kept left stays over = tt
all_kept (Some text) kept None stays over = absurd cc
all_kept (Some text) kept (Some more) stays over = let e : kept ++ more ≡ text = cc in sym e ∙ ap (λ (s : List ℕ). kept ++ s) over ∙ append-nil kept

refused : (lines : ℕ) (kept more : List ℕ) → Stops (Some (kept ++ more)) kept → IsRefused lines kept → IsRefused lines (kept ++ more)
refused lines kept more stops (inl late) = inl late
refused lines kept more stops (inr (inr long)) = inr (inr (omega (arith, long, feed_at-append kept more)))
refused lines kept more (inl (inl within)) (inr (inl open_end)) = absurd (omega (arith, within, open_end))
refused lines kept more (inl (inr size)) (inr (inl open_end)) = inr (inr (omega (arith, size, open_end, feed_at-append kept more)))
refused lines kept more (inr whole) (inr (inl open_end)) = inr (inl (rw whole open_end))

pub found_bad : (lines : ℕ) (before left : Option (List ℕ)) (kept : List ℕ) → Stays before (still kept left) → Stops before kept → 0 < length kept
    → (65536 ≤ lines) ⊎ ((length kept ≤ feed_at kept) ⊎ (4096 < feed_at kept)) → CutIs lines before CutBad
found_bad lines None left kept stays stops some why = tt
found_bad lines (Some text) left kept stays stops some why =
    let t = told kept text left stays in
    let stops_here : Stops (Some (kept ++ t.0)) kept = subst (λ (text : List ℕ). Stops (Some text) kept) t.2 stops in
    ap (cut_of lines) t.2 ∙ cut_of-bad lines (kept ++ t.0) (omega (arith, some, length-append kept t.0)) (refused lines kept t.0 stops_here why)

pub nothing : (kept : List ℕ) → length kept ≡ 0 → kept ≡ []
nothing [] none = refl
nothing (byte ∷ bytes) none = absurd (omega (arith, none))

pub found_end : (lines : ℕ) (before : Option (List ℕ)) (kept : List ℕ) → Stops before kept → length kept ≡ 0 → CutIs lines before CutEnd
found_end lines None kept stops none = tt
found_end lines (Some text) kept (inl (inl within)) none = absurd (omega (arith, within, none))
found_end lines (Some text) kept (inl (inr size)) none = absurd (omega (arith, size, none))
found_end lines (Some text) kept (inr whole) none = ap (cut_of lines) (whole ∙ nothing kept none) ∙ cut_of-nothing lines

-- a line in front of what is kept, whatever comes behind
line_cut : (lines : ℕ) (kept more : List ℕ) (size used : ℕ) → IsFront lines kept size used → cut_of lines (kept ++ more) ≡ CutLine (take size kept) (drop (size + 1) kept ++ more)
line_cut lines kept more size used front =
    let text = kept ++ more in
    let feed : feed_at (kept ++ more) ≡ size = feed_at-front kept more (omega (arith, front.feed, front.within)) ∙ sym front.feed in
    let cut = cut_of-line lines text front.before (omega (arith, feed, front.within, length-append kept more)) (omega (arith, feed, front.bytes)) in
    let line : take (feed_at (kept ++ more)) (kept ++ more) ≡ take size kept = rw feed (take-append-le size kept more (omega (arith, front.within))) in
    let rest : drop (feed_at (kept ++ more) + 1) (kept ++ more) ≡ drop (size + 1) kept ++ more = rw feed (drop-append-le (size + 1) kept more (omega (arith, front.within))) in
    cut ∙ ap (λ (l : List ℕ). CutLine l (drop (feed_at (kept ++ more) + 1) (kept ++ more))) line ∙ ap (λ (r : List ℕ). CutLine (take size kept) r) rest

pub found_line : (lines : ℕ) (left : Option (List ℕ)) (kept : List ℕ) (size used : ℕ) → IsFront lines kept size used
    → IfSome (still kept left) (λ text. (rest : List ℕ) × (cut_of lines text ≡ CutLine (take size kept) rest))
found_line lines None kept size used front = tt
found_line lines (Some more) kept size used front = (drop (size + 1) kept ++ more, line_cut lines kept more size used front)

pub found_rest : (lines : ℕ) (left : Option (List ℕ)) (kept : List ℕ) (size used : ℕ) → IsFront lines kept size used
    → IfSome (still kept left) (λ text. still (drop (size + 1) kept) left ≡ rest_of (cut_of lines text))
found_rest lines None kept size used front = tt
found_rest lines (Some more) kept size used front = sym (ap rest_of (line_cut lines kept more size used front))

pub short_line : (lines : ℕ) (kept : List ℕ) (size used : ℕ) → IsFront lines kept size used → IsShort lines (take size kept)
short_line lines kept size used front = record {
  bytes = omega (arith, length-take-le size kept (omega (arith, front.within)), front.bytes);
  feed = rw front.feed (feed_at-take kept);
  before = front.before;
}

-- ---- pieces until a line is whole

pub grown-behind : (left rest : Option (List ℕ)) (old new : List ℕ) → IsOpen old → Grows left rest old new → length new ≤ feed_at new + 4096
grown-behind left rest old new open_front grows =
    omega (arith, open_front.feed, grows.few, ap length grows.kept, length-append old grows.piece, ap feed_at grows.kept, feed_at-append old grows.piece)

-- ---- what a reader shows and keeps

pub shows_line : (before left : Option (List ℕ)) (lines : ℕ) (kept line : List ℕ) (size used : ℕ) → Stays before (still kept left) → IsFront lines kept size used → line ≡ take size kept
    → IfSome before (λ text. (rest : List ℕ) × (cut_of lines text ≡ CutLine line rest))
shows_line before left lines kept line size used stays front is =
    of_stayed before (still kept left) _ stays (rw is (found_line lines left kept size used front))

pub leaves_rest : (before left : Option (List ℕ)) (old new : Reader) (kept : List ℕ) (size used : ℕ) → Stays before (still kept left) → IsFront old.lines kept size used
    → new ≡ record { kept = drop used kept; lines = old.lines + 1 } → LeavesRest before (still new.kept left) old new
leaves_rest before left old new kept size used stays front is =
    let kept_is : new.kept ≡ drop (size + 1) kept = ap (λ (r : Reader). r.kept) is ∙ ap (λ (n : ℕ). drop n kept) front.with_feed in
    record {
      rest = rw kept_is (of_stayed before (still kept left) (λ text. still (drop (size + 1) kept) left ≡ rest_of (cut_of old.lines text)) stays (found_rest old.lines left kept size used front));
      lines = ap (λ (r : Reader). r.lines) is;
      most = omega (arith, ap (λ (r : Reader). r.lines) is, front.before);
      few = omega (arith, ap length kept_is, length-drop (size + 1) kept, front.behind);
    }
