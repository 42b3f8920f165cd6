-- The first line feed of a text.
use Rattle.std.proofs.Common.{ap, arith, cond, drop, eqb, false, get_or, length, refl, suc, true, ℕ, Bool, List, [], ◌∷◌, ◌++◌, ◌+◌, ◌<◌, ◌≤◌, ◌≡◌, ◌≢◌, ◌∙◌, take}
use Rattle.std.proofs.lemmas.Bool.Decides.{nat_tests}
use Rattle.std.proofs.lemmas.List.{drop_all, drop_more}
use Rattle.script_lang.specs.Lines.{feed_at}

feed_step : (byte : ℕ) (bytes : List ℕ) → byte ≢ 10 → feed_at (byte ∷ bytes) ≡ suc (feed_at bytes)
unfolding feed_at
feed_step byte bytes differ = let e : eqb byte 10 ≡ false = grind (arith, nat_tests) in rw e refl

feed_here : (byte : ℕ) (bytes : List ℕ) → byte ≡ 10 → feed_at (byte ∷ bytes) ≡ 0
unfolding feed_at
feed_here byte bytes is = rw is refl

-- the byte at this place is no feed
pub feed_at-more : (text : List ℕ) (i all : ℕ) → i < length text → get_or text i 0 ≢ 10 → all ≡ i + feed_at (drop i text) → all ≡ i + 1 + feed_at (drop (i + 1) text)
feed_at-more text i all lt differ so_far =
    let e : feed_at (drop i text) ≡ suc (feed_at (drop (i + 1) text)) = ap feed_at (drop_more text i 0 lt) ∙ feed_step (get_or text i 0) (drop (i + 1) text) differ in
    omega (arith, so_far, e)

-- it is the first feed
pub feed_at-here : (text : List ℕ) (i all : ℕ) → i < length text → get_or text i 0 ≡ 10 → all ≡ i + feed_at (drop i text) → i ≡ all
feed_at-here text i all lt is so_far =
    let e : feed_at (drop i text) ≡ 0 = ap feed_at (drop_more text i 0 lt) ∙ feed_here (get_or text i 0) (drop (i + 1) text) is in
    omega (arith, so_far, e)

-- there is none
pub feed_at-end : (text : List ℕ) (i all : ℕ) → length text ≤ i → i ≤ length text → all ≡ i + feed_at (drop i text) → length text ≡ all
unfolding feed_at
feed_at-end text i all le ge so_far =
    let e : feed_at (drop i text) ≡ 0 = ap feed_at (drop_all i text le) in
    omega (arith, so_far, e)

bounded : (is_feed : Bool) (n size : ℕ) → n ≤ size → cond is_feed 0 (suc n) ≤ suc size
bounded true n size le = omega arith
bounded false n size le = omega (arith, le)

-- it stands within the text
pub feed_at-le : (text : List ℕ) → feed_at text ≤ length text
unfolding feed_at
feed_at-le [] = omega arith
feed_at-le (byte ∷ bytes) = bounded (eqb byte 10) (feed_at bytes) (length bytes) (feed_at-le bytes)

later : (is_feed : Bool) (n m : ℕ) → n ≤ m → cond is_feed 0 (suc n) ≤ cond is_feed 0 (suc m)
later true n m le = omega arith
later false n m le = omega (arith, le)

-- more bytes put no feed further in front
pub feed_at-append : (text more : List ℕ) → feed_at text ≤ feed_at (text ++ more)
unfolding feed_at
feed_at-append [] more = omega arith
feed_at-append (byte ∷ bytes) more = later (eqb byte 10) (feed_at bytes) (feed_at (bytes ++ more)) (feed_at-append bytes more)

same : (is_feed : Bool) (n m size : ℕ) → cond is_feed 0 (suc n) < suc size → (n < size → m ≡ n) → cond is_feed 0 (suc m) ≡ cond is_feed 0 (suc n)
same true n m size lt rest = refl
same false n m size lt rest = ap suc (rest (omega (arith, lt)))

-- a feed stays the first one whatever comes behind
pub feed_at-front : (text more : List ℕ) → feed_at text < length text → feed_at (text ++ more) ≡ feed_at text
unfolding feed_at
feed_at-front [] more lt = absurd (omega (arith, lt))
feed_at-front (byte ∷ bytes) more lt = same (eqb byte 10) (feed_at bytes) (feed_at (bytes ++ more)) (length bytes) lt (feed_at-front bytes more)

before : (is_feed : Bool) (byte n : ℕ) (bytes : List ℕ) → eqb byte 10 ≡ is_feed → (feed_at (take n bytes) ≡ length (take n bytes)) → feed_at (take (cond is_feed 0 (suc n)) (byte ∷ bytes)) ≡ length (take (cond is_feed 0 (suc n)) (byte ∷ bytes))
unfolding feed_at
before true byte n bytes e rest = refl
before false byte n bytes e rest = rw e (ap suc rest)

-- the bytes before the first feed have none
pub feed_at-take : (text : List ℕ) → feed_at (take (feed_at text) text) ≡ length (take (feed_at text) text)
unfolding feed_at
feed_at-take [] = refl
feed_at-take (byte ∷ bytes) = before (eqb byte 10) byte (feed_at bytes) bytes refl (feed_at-take bytes)
