-- Open sessions rise: laws of the rows of a session book.
use Rattle.pad_steps.specs.declared.steps.Classes.{Classes}
use Rattle.pad_words.specs.Numbers.{same_session}
use Rattle.pad_words.specs.declared.numbers.Session.{Session}
use Rattle.session_book.specs.Rising.{AllAbove, Rising, session_numbers}
use Rattle.session_book.specs.Sessions.{is_open, listening, with_classes, with_session}
use Rattle.session_book.specs.declared.sessions.SessionRow.{SessionRow}
use Rattle.std.proofs.Common.{arith, inl, inr}
use Rattle.std.proofs.lemmas.Bool.{eqb-false, ltb-false, ltb-true}
use Rattle.std.specs.List.Sorted.{IsStrictlyIncreasing}
use Rattle.std.specs.Prelude.{Bool, List, [], cond, false, filter, if◌then◌else◌, nat_lt, refl, suc, true, zero, ℕ, ◌+◌, ◌<◌, ◌||◌, ◌∷◌, ◌≡◌, ◌≤◌, ◌⊎◌}

-- of two tests that both fail
or_none : (a b : Bool) → (a || b) ≡ false → (a ≡ false) × (b ≡ false)
or_none true b e = cc
or_none false b e = (refl, e)

above-lower : (m n : ℕ) (rows : List SessionRow) → m < n → AllAbove n rows → AllAbove m rows
above-lower m n [] l h = tt
above-lower m n (row ∷ rows) l h = (omega (arith, l, h.0), above-lower m n rows l h.1)

above_if : (m : ℕ) (b : Bool) (new row : SessionRow) (rows others : List SessionRow) → m < new.session.number → m < row.session.number → AllAbove m rows → AllAbove m others → AllAbove m (if b then new ∷ row ∷ rows else row ∷ others)
above_if m true new row rows others l k h g = (l, (k, h))
above_if m false new row rows others l k h g = (k, g)

above-with_session : (m : ℕ) (new : SessionRow) (rows : List SessionRow) → m < new.session.number → AllAbove m rows → AllAbove m (with_session new rows)
above-with_session m new [] l h = (l, tt)
above-with_session m new (row ∷ rows) l h = above_if m (nat_lt new.session.number row.session.number) new row rows (with_session new rows) l h.0 h.1 (above-with_session m new rows l h.1)

rising_if : (b : Bool) (new row : SessionRow) (rows : List SessionRow) → nat_lt new.session.number row.session.number ≡ b → same_session row.session new.session ≡ false → AllAbove row.session.number rows → Rising rows → Rising (with_session new rows)
    → Rising (if b then new ∷ row ∷ rows else row ∷ with_session new rows)
rising_if true new row rows e apart h up k = ((ltb-true new.session.number row.session.number e, above-lower new.session.number row.session.number rows (ltb-true new.session.number row.session.number e) h), (h, up))
rising_if false new row rows e apart h up k =
    let above : row.session.number < new.session.number = differs row.session.number new.session.number (ltb-false new.session.number row.session.number e) (eqb-false row.session.number new.session.number apart) in
    (above-with_session row.session.number new rows above h, k)
  where
    differs : (m n : ℕ) → m ≤ n → (m ≡ n → ⊥) → m < n
    differs m n l apart = by_order (lt_or_eq m n l)
      where
        lt_or_eq : (m n : ℕ) → m ≤ n → (m < n) ⊎ (m ≡ n)
        lt_or_eq m n l = grind arith

        by_order : (m < n) ⊎ (m ≡ n) → m < n
        by_order (inl k) = k
        by_order (inr e) = absurd (apart e)

-- a session that is not open is put at its place
pub rising-with_session : (new : SessionRow) (rows : List SessionRow) → is_open new.session rows ≡ false → Rising rows → Rising (with_session new rows)
rising-with_session new [] e h = (tt, tt)
rising-with_session new (row ∷ rows) e h =
    let apart = or_none (same_session row.session new.session) (is_open new.session rows) e in
    rising_if (nat_lt new.session.number row.session.number) new row rows refl apart.0 h.0 h.1 (rising-with_session new rows apart.1 h.1)

above_kept : (n : ℕ) (b : Bool) (row : SessionRow) (rows : List SessionRow) → n < row.session.number → AllAbove n rows → AllAbove n (cond b (row ∷ rows) rows)
above_kept n true row rows l h = (l, h)
above_kept n false row rows l h = h

above-filter : (n : ℕ) (test : SessionRow → Bool) (rows : List SessionRow) → AllAbove n rows → AllAbove n (filter test rows)
above-filter n test [] h = tt
above-filter n test (row ∷ rows) h = above_kept n (test row) row (filter test rows) h.0 (above-filter n test rows h.1)

rising_kept : (b : Bool) (row : SessionRow) (rows : List SessionRow) → AllAbove row.session.number rows → Rising rows → Rising (cond b (row ∷ rows) rows)
rising_kept true row rows l h = (l, h)
rising_kept false row rows l h = h

-- rows that pass a test
pub rising-filter : (test : SessionRow → Bool) (rows : List SessionRow) → Rising rows → Rising (filter test rows)
rising-filter test [] h = tt
rising-filter test (row ∷ rows) h = rising_kept (test row) row (filter test rows) (above-filter row.session.number test rows h.0) (rising-filter test rows h.1)

session_if : (b : Bool) (c : Classes) (row : SessionRow) → (if b then record row { classes = c } else row).session ≡ row.session
session_if true c row = refl
session_if false c row = refl

-- a row keeps its session
pub session-listening : (s : Session) (c : Classes) (row : SessionRow) → (listening s c row).session ≡ row.session
session-listening s c row = session_if (same_session row.session s) c row

above-with_classes : (n : ℕ) (s : Session) (c : Classes) (rows : List SessionRow) → AllAbove n rows → AllAbove n (with_classes s c rows)
above-with_classes n s c [] h = tt
above-with_classes n s c (row ∷ rows) h = (rw (session-listening s c row) h.0, above-with_classes n s c rows h.1)

-- a session listens to other classes
pub rising-with_classes : (s : Session) (c : Classes) (rows : List SessionRow) → Rising rows → Rising (with_classes s c rows)
rising-with_classes s c [] h = tt
rising-with_classes s c (row ∷ rows) h = (rw (session-listening s c row) (above-with_classes row.session.number s c rows h.0), rising-with_classes s c rows h.1)

-- the numbers of rising sessions rise
pub increasing : (rows : List SessionRow) → Rising rows → IsStrictlyIncreasing (session_numbers rows)
increasing [] h k l = absurd (none k l)
  where
    none : (k : ℕ) → k + 1 < 0 → ⊥
    none k l = omega (arith, l)
increasing (row ∷ []) h k l = absurd (none k l)
  where
    none : (k : ℕ) → k + 1 < 1 → ⊥
    none k l = omega (arith, l)
increasing (row ∷ next_row ∷ rows) h zero l = h.0.0
increasing (row ∷ next_row ∷ rows) h (suc k) l =
    let e : suc k + 1 ≡ suc (k + 1) = omega arith in
    rw e (increasing (next_row ∷ rows) h.1 k (omega (arith, l)))
