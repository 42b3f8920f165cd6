-- Open sessions stay open as others come and go.
use Rattle.flat_machine.proofs.BoolLemmas.{or_more, or_right, true_is_not_false}
use Rattle.pad_words.specs.Numbers.{same_session}
use Rattle.session_book.specs.RisingLaws.{session-listening}
use Rattle.session_book.specs.Sessions.{is_open, with_classes, with_session, without_session}
use Rattle.session_book.specs.declared.sessions.SessionRow.{SessionRow}
use Rattle.pad_steps.specs.declared.steps.Classes.{Classes}
use Rattle.pad_words.specs.declared.numbers.Session.{Session}
use Rattle.std.proofs.Common.{sym, ◌∙◌}
use Rattle.std.proofs.lemmas.Bool.{eqb-false, eqb-true, ne_eqb}
use Rattle.std.specs.List.{list_any}
use Rattle.std.specs.Prelude.{Bool, List, [], cond, false, if◌then◌else◌, nat_lt, not, refl, true, ◌||◌, ◌∷◌, ◌≡◌}

-- a session that is open stays so

any_if : (p : SessionRow → Bool) (b : Bool) (new row : SessionRow) (rows others : List SessionRow) → (list_any p rows ≡ true → list_any p others ≡ true) → (p row || list_any p rows) ≡ true → list_any p (if b then new ∷ row ∷ rows else row ∷ others) ≡ true
any_if p true new row rows others f h = or_right (p new) (p row || list_any p rows) h
any_if p false new row rows others f h = or_more (p row) (list_any p rows) (list_any p others) f h

pub any-with_session : (p : SessionRow → Bool) (new : SessionRow) (rows : List SessionRow) → list_any p rows ≡ true → list_any p (with_session new rows) ≡ true
any-with_session p new [] h = cc
any-with_session p new (row ∷ rows) h = any_if p (nat_lt new.session.number row.session.number) new row rows (with_session new rows) (any-with_session p new rows) h

pub open-with_classes : (t s : Session) (c : Classes) (rows : List SessionRow) → is_open t (with_classes s c rows) ≡ is_open t rows
open-with_classes t s c [] = refl
open-with_classes t s c (row ∷ rows) = rw (session-listening s c row, open-with_classes t s c rows) refl

-- of two sessions that differ, one is open also without the other
same_gone : (a t s : Session) → same_session a t ≡ true → same_session t s ≡ false → same_session a s ≡ false
same_gone a t s e apart = ne_eqb a.number s.number (λ same. eqb-false t.number s.number apart (sym (eqb-true a.number t.number e) ∙ same))

left_if : (t s : Session) (row : SessionRow) (rows others : List SessionRow) (b : Bool) → same_session row.session s ≡ b → same_session t s ≡ false → (is_open t rows ≡ true → is_open t others ≡ true) → (same_session row.session t || is_open t rows) ≡ true
    → is_open t (cond (not b) (row ∷ others) others) ≡ true
left_if t s row rows others true e apart f h = f (other_is_open (same_session row.session t) (is_open t rows) h (λ same. true_is_not_false (same_session row.session s) e (same_gone row.session t s same apart)))
  where
    other_is_open : (a b : Bool) → (a || b) ≡ true → (a ≡ true → ⊥) → b ≡ true
    other_is_open true b h never = absurd (never refl)
    other_is_open false b h never = h
left_if t s row rows others false e apart f h = or_more (same_session row.session t) (is_open t rows) (is_open t others) f h

pub open-without_session : (t s : Session) (rows : List SessionRow) → same_session t s ≡ false → is_open t rows ≡ true → is_open t (without_session s rows) ≡ true
open-without_session t s [] apart h = cc
open-without_session t s (row ∷ rows) apart h = left_if t s row rows (without_session s rows) (same_session row.session s) refl apart (open-without_session t s rows apart) h
