-- The sessions in the line are open and stand in it once.
use Rattle.flat_machine.proofs.BoolLemmas.{and_of, both, or_none}
use Rattle.flat_machine.proofs.SessionLemmas.{any-with_session, open-with_classes, open-without_session}
use Rattle.session_book.specs.RisingLaws.{rising-filter, rising-with_classes, rising-with_session}
use Rattle.session_book.specs.Rising.{Rising}
use Rattle.pad_words.specs.Numbers.{same_session}
use Rattle.flat_machine.specs.SessionFacts.{all_open}
use Rattle.device_lock.specs.LockLine.{in_line, out_of_line}
use Rattle.session_book.specs.Sessions.{is_open, with_classes, with_session, without_session}
use Rattle.session_book.specs.declared.sessions.SessionRow.{SessionRow}
use Rattle.pad_steps.specs.declared.steps.Classes.{Classes}
use Rattle.pad_words.specs.declared.numbers.Session.{Session}
use Rattle.std.proofs.Common.{◌∙◌}
use Rattle.std.specs.List.{AllByRecursion, IsDistinct, list_any}
use Rattle.std.specs.Prelude.{Bool, List, [], cond, false, filter, if◌then◌else◌, not, refl, true, ◌++◌, ◌∷◌, ◌≡◌}

all_open-more : (rows others : List SessionRow) (line : List Session) → ((t : Session) → is_open t rows ≡ true → is_open t others ≡ true) → all_open rows line ≡ true → all_open others line ≡ true
all_open-more rows others [] f h = refl
all_open-more rows others (s ∷ line) f h =
    let parts = both (is_open s rows) (all_open rows line) h in
    and_of (is_open s others) (all_open others line) (f s parts.0) (all_open-more rows others line f parts.1)

all_open_kept : (rows : List SessionRow) (b : Bool) (t : Session) (line : List Session) → (b ≡ true → is_open t rows ≡ true) → all_open rows line ≡ true → all_open rows (cond b (t ∷ line) line) ≡ true
all_open_kept rows true t line f h = and_of (is_open t rows) (all_open rows line) (f refl) h
all_open_kept rows false t line f h = h

stays_apart : (b : Bool) → not b ≡ true → b ≡ false
stays_apart true e = cc
stays_apart false e = refl

-- without a session that leaves, the others of the line stay open
all_open-left : (s : Session) (rows : List SessionRow) (line : List Session) → all_open rows line ≡ true → all_open (without_session s rows) (out_of_line s line) ≡ true
all_open-left s rows [] h = refl
all_open-left s rows (t ∷ line) h =
    let parts = both (is_open t rows) (all_open rows line) h in
    all_open_kept (without_session s rows) (not (same_session t s)) t (out_of_line s line) (λ e. open-without_session t s rows (stays_apart (same_session t s) e) parts.0) (all_open-left s rows line parts.1)

all_open-out_of_line : (s : Session) (rows : List SessionRow) (line : List Session) → all_open rows line ≡ true → all_open rows (out_of_line s line) ≡ true
all_open-out_of_line s rows [] h = refl
all_open-out_of_line s rows (t ∷ line) h =
    let parts = both (is_open t rows) (all_open rows line) h in
    all_open_kept rows (not (same_session t s)) t (out_of_line s line) (λ e. parts.0) (all_open-out_of_line s rows line parts.1)

all_open-push : (s : Session) (rows : List SessionRow) (line : List Session) → is_open s rows ≡ true → all_open rows line ≡ true → all_open rows (line ++ s ∷ []) ≡ true
all_open-push s rows [] e h = and_of (is_open s rows) true e refl
all_open-push s rows (t ∷ line) e h =
    let parts = both (is_open t rows) (all_open rows line) h in
    and_of (is_open t rows) (all_open rows (line ++ s ∷ [])) parts.0 (all_open-push s rows line e parts.1)

-- no session stands in it twice

apart_kept : (t : Session) (b : Bool) (u : Session) (line : List Session) → same_session t u ≡ false → AllByRecursion (λ (v : Session). same_session t v ≡ false) line → AllByRecursion (λ (v : Session). same_session t v ≡ false) (cond b (u ∷ line) line)
apart_kept t true u line e h = (e, h)
apart_kept t false u line e h = h

apart-filter : (t : Session) (test : Session → Bool) (line : List Session) → AllByRecursion (λ (v : Session). same_session t v ≡ false) line → AllByRecursion (λ (v : Session). same_session t v ≡ false) (filter test line)
apart-filter t test [] h = tt
apart-filter t test (u ∷ line) h = apart_kept t (test u) u (filter test line) h.0 (apart-filter t test line h.1)

distinct_kept : (b : Bool) (t : Session) (line : List Session) → AllByRecursion (λ (v : Session). same_session t v ≡ false) line → IsDistinct same_session line → IsDistinct same_session (cond b (t ∷ line) line)
unfolding IsDistinct
distinct_kept true t line h d = (h, d)
distinct_kept false t line h d = d

distinct-filter : (test : Session → Bool) (line : List Session) → IsDistinct same_session line → IsDistinct same_session (filter test line)
unfolding IsDistinct
distinct-filter test [] h = tt
distinct-filter test (t ∷ line) h = distinct_kept (test t) t (filter test line) (apart-filter t test line h.0) (distinct-filter test line h.1)

apart-push : (t s : Session) (line : List Session) → same_session t s ≡ false → AllByRecursion (λ (v : Session). same_session t v ≡ false) line → AllByRecursion (λ (v : Session). same_session t v ≡ false) (line ++ s ∷ [])
apart-push t s [] e h = (e, tt)
apart-push t s (u ∷ line) e h = (h.0, apart-push t s line e h.1)

distinct-push : (s : Session) (line : List Session) → list_any (λ (t : Session). same_session t s) line ≡ false → IsDistinct same_session line → IsDistinct same_session (line ++ s ∷ [])
unfolding IsDistinct
distinct-push s [] e h = (tt, tt)
distinct-push s (t ∷ line) e h =
    let parts = or_none (same_session t s) (list_any (λ (u : Session). same_session u s) line) e in
    (apart-push t s line parts.0 h.0, distinct-push s line parts.1 h.1)

-- what is so of the sessions and the line
pub record Orderly (rows : List SessionRow) (line : List Session) : Type 0 where
  pub rising : Rising rows
  pub apart : IsDistinct same_session line
  pub open_ones : all_open rows line ≡ true

pub orderly-open : (new : SessionRow) (rows : List SessionRow) (line : List Session) → is_open new.session rows ≡ false → Orderly rows line → Orderly (with_session new rows) line
orderly-open new rows line e o = record { rising = rising-with_session new rows e o.rising; apart = o.apart; open_ones = all_open-more rows (with_session new rows) line (λ t. any-with_session (λ (row : SessionRow). same_session row.session t) new rows) o.open_ones }

pub orderly-close : (s : Session) (rows : List SessionRow) (line : List Session) → Orderly rows line → Orderly (without_session s rows) (out_of_line s line)
orderly-close s rows line o = record { rising = rising-filter _ rows o.rising; apart = distinct-filter _ line o.apart; open_ones = all_open-left s rows line o.open_ones }

pub orderly-listen : (s : Session) (c : Classes) (rows : List SessionRow) (line : List Session) → Orderly rows line → Orderly (with_classes s c rows) line
orderly-listen s c rows line o = record { rising = rising-with_classes s c rows o.rising; apart = o.apart; open_ones = all_open-more rows (with_classes s c rows) line (λ t e. open-with_classes t s c rows ∙ e) o.open_ones }

pub orderly-unlock : (s : Session) (rows : List SessionRow) (line : List Session) → Orderly rows line → Orderly rows (out_of_line s line)
orderly-unlock s rows line o = record { rising = o.rising; apart = distinct-filter _ line o.apart; open_ones = all_open-out_of_line s rows line o.open_ones }

orderly_if : (s : Session) (rows : List SessionRow) (line : List Session) (b : Bool) → list_any (λ (t : Session). same_session t s) line ≡ b → is_open s rows ≡ true → Orderly rows line → Orderly rows (if b then line else line ++ s ∷ [])
orderly_if s rows line true e is o = o
orderly_if s rows line false e is o = record { rising = o.rising; apart = distinct-push s line e o.apart; open_ones = all_open-push s rows line is o.open_ones }

pub orderly-lock : (s : Session) (rows : List SessionRow) (line : List Session) → is_open s rows ≡ true → Orderly rows line → Orderly rows (in_line s line)
orderly-lock s rows line is o = orderly_if s rows line (list_any (λ (t : Session). same_session t s) line) refl is o
