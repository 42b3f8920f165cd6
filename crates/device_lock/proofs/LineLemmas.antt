-- A line in which no session stands twice: it stays so, and it is never full for a session that is not in it.
use Rattle.std.proofs.Common.{◌≡◌, ℕ, ◌<◌, ◌≤◌, Bool, true, false, List, [], ◌∷◌, ◌++◌, length, map, filter, cond, eqb, refl, ◌||◌, arith}
use Rattle.std.proofs.lemmas.Bool.Decides.{nat_tests}
use Rattle.std.proofs.lemmas.List.{length-append, length-map}
use Rattle.std.proofs.lemmas.Map.Steps.{length-le_from_distinct_below}
use Rattle.std.specs.List.{AllByRecursion, IsDistinct, list_any}
use Rattle.pad_words.specs.Numbers.{same_session}
use Rattle.pad_words.specs.declared.numbers.Session.{Session}

-- of two tests that both fail
neither : (a b : Bool) → (a || b) ≡ false → (a ≡ false) × (b ≡ false)
neither true b e = cc
neither false b e = (refl, e)

apart_kept : (first other : Session) (keeps : Bool) (line : List Session) → same_session first other ≡ false
    → AllByRecursion (λ (s : Session). same_session first s ≡ false) line
    → AllByRecursion (λ (s : Session). same_session first s ≡ false) (cond keeps (other ∷ line) line)
apart_kept first other true line differs apart = (differs, apart)
apart_kept first other false line differs apart = apart

apart-filter : (first : Session) (test : Session → Bool) (line : List Session)
    → AllByRecursion (λ (s : Session). same_session first s ≡ false) line
    → AllByRecursion (λ (s : Session). same_session first s ≡ false) (filter test line)
apart-filter first test [] apart = tt
apart-filter first test (other ∷ line) apart =
    apart_kept first other (test other) (filter test line) apart.0 (apart-filter first test line apart.1)

distinct_kept : (keeps : Bool) (first : Session) (line : List Session)
    → AllByRecursion (λ (s : Session). same_session first s ≡ false) line → IsDistinct same_session line
    → IsDistinct same_session (cond keeps (first ∷ line) line)
unfolding IsDistinct
distinct_kept true first line apart distinct = (apart, distinct)
distinct_kept false first line apart distinct = distinct

-- a line of which some sessions are kept
pub IsDistinct-filter : (test : Session → Bool) (line : List Session) → IsDistinct same_session line → IsDistinct same_session (filter test line)
unfolding IsDistinct
IsDistinct-filter test [] distinct = tt
IsDistinct-filter test (first ∷ line) distinct =
    distinct_kept (test first) first (filter test line) (apart-filter first test line distinct.0) (IsDistinct-filter test line distinct.1)

apart-push : (first session : Session) (line : List Session) → same_session first session ≡ false
    → AllByRecursion (λ (s : Session). same_session first s ≡ false) line
    → AllByRecursion (λ (s : Session). same_session first s ≡ false) (line ++ session ∷ [])
apart-push first session [] differs apart = (differs, tt)
apart-push first session (other ∷ line) differs apart = (apart.0, apart-push first session line differs apart.1)

-- a line with one session more, which was not in it
pub IsDistinct-push : (session : Session) (line : List Session) → list_any (λ (other : Session). same_session other session) line ≡ false
    → IsDistinct same_session line → IsDistinct same_session (line ++ session ∷ [])
unfolding IsDistinct
IsDistinct-push session [] absent distinct = (tt, tt)
IsDistinct-push session (first ∷ line) absent distinct =
    let parts = neither (same_session first session) (list_any (λ (other : Session). same_session other session) line) absent in
    (apart-push first session line parts.0 distinct.0, IsDistinct-push session line parts.1 distinct.1)

-- the numbers of the sessions in the line
abbrev numbers_of : List Session → List ℕ
numbers_of line = map (λ (session : Session). session.number) line

apart_numbers : (first : Session) (line : List Session) → AllByRecursion (λ (s : Session). same_session first s ≡ false) line
    → AllByRecursion (λ (n : ℕ). eqb first.number n ≡ false) (numbers_of line)
apart_numbers first [] apart = tt
apart_numbers first (other ∷ line) apart = (apart.0, apart_numbers first line apart.1)

distinct_numbers : (line : List Session) → IsDistinct same_session line → IsDistinct eqb (numbers_of line)
unfolding IsDistinct
distinct_numbers [] distinct = tt
distinct_numbers (first ∷ line) distinct = (apart_numbers first line distinct.0, distinct_numbers line distinct.1)

not_zero : (session : Session) → eqb 0 session.number ≡ false
not_zero session = let above : 0 < session.number = session.valid.0 in grind (arith, nat_tests)

apart_from_zero : (line : List Session) → AllByRecursion (λ (n : ℕ). eqb 0 n ≡ false) (numbers_of line)
apart_from_zero [] = tt
apart_from_zero (first ∷ line) = (not_zero first, apart_from_zero line)

below_or : (q n : ℕ) (rest : Bool) → n ≤ 16 → (rest ≡ true → q < 17) → (eqb q n || rest) ≡ true → q < 17
below_or q n true within later e = later refl
below_or q n false within later e = grind (arith, nat_tests)

below : (line : List Session) (q : ℕ) → list_any (eqb q) (numbers_of line) ≡ true → q < 17
below [] q e = cc
below (first ∷ line) q e = below_or q first.number (list_any (eqb q) (numbers_of line)) first.valid.1 (below line q) e

length-le : (line : List Session) → IsDistinct same_session line → length line ≤ 16
unfolding IsDistinct
length-le line distinct =
    let few : length (0 ∷ numbers_of line) ≤ 17 =
    length-le_from_distinct_below (0 ∷ numbers_of line) 17 (apart_from_zero line, distinct_numbers line distinct) (λ q e. below_or q 0 (list_any (eqb q) (numbers_of line)) (omega arith) (below line q) e) in
    omega (arith, few, length-map line (λ (session : Session). session.number))

-- there is room in a line for a session that is not in it, since there are sixteen sessions
pub room : (session : Session) (line : List Session) → list_any (λ (other : Session). same_session other session) line ≡ false
    → IsDistinct same_session line → length line < 16
room session line absent distinct =
    omega (arith, length-le (line ++ session ∷ []) (IsDistinct-push session line absent distinct), length-append line (session ∷ []))
