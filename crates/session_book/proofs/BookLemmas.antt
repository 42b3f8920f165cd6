-- There are at most sixteen open sessions, and where a row of one stands.
use Rattle.pad_steps.specs.declared.steps.Class.{Class}
use Rattle.pad_words.specs.Numbers.{same_session}
use Rattle.pad_words.specs.declared.numbers.Session.{Session}
use Rattle.session_book.specs.Places.{place_above}
use Rattle.session_book.specs.Rising.{AllAbove, Rising, numbers_of, session_numbers}
use Rattle.session_book.specs.RisingLaws.{increasing, rising-filter, rising-with_session}
use Rattle.session_book.specs.Sessions.{floor_of, has_class, hearers, is_open, with_session}
use Rattle.session_book.specs.declared.sessions.SessionRow.{SessionRow}
use Rattle.std.proofs.Common.{ap, arith}
use Rattle.std.proofs.lemmas.List.{take_at}
use Rattle.std.specs.List.{insert, refill}
use Rattle.std.specs.List.Sorted.{IsStrictlyIncreasing}
use Rattle.std.specs.Prelude.{Bool, List, Option, Some, [], cond, drop, false, filter, find, if◌then◌else◌, is_some, length, map, nat_lt, refl, suc, true, zero, ℕ, ◌+◌, ◌<◌, ◌||◌, ◌∷◌, ◌≡◌, ◌≤◌, ◌⊎◌}

-- the row of a session

found : (session : Session) (row : SessionRow) (rows : List SessionRow) (one : SessionRow) (b : Bool)
    → cond b (Some row) (find (λ (r : SessionRow). same_session r.session session) rows) ≡ Some one
    → (find (λ (r : SessionRow). same_session r.session session) rows ≡ Some one → floor_of session rows ≡ one.floor)
    → (if b then row.floor else floor_of session rows) ≡ one.floor
found session row rows one true e later = let same : row ≡ one = cc in ap (λ (r : SessionRow). r.floor) same
found session row rows one false e later = later e

pub floor_of-find : (session : Session) (rows : List SessionRow) (one : SessionRow)
    → find (λ (r : SessionRow). same_session r.session session) rows ≡ Some one → floor_of session rows ≡ one.floor
floor_of-find session [] one e = cc
floor_of-find session (row ∷ rows) one e = found session row rows one (same_session row.session session) e (floor_of-find session rows one)

is_some_if : (b : Bool) (row : SessionRow) (rest : Option SessionRow) (others : Bool) → is_some rest ≡ others → is_some (cond b (Some row) rest) ≡ (b || others)
is_some_if true row rest others is = refl
is_some_if false row rest others is = is

pub is_open-find : (session : Session) (rows : List SessionRow) → is_some (find (λ (r : SessionRow). same_session r.session session) rows) ≡ is_open session rows
is_open-find session [] = refl
is_open-find session (row ∷ rows) = is_some_if (same_session row.session session) row (find (λ (r : SessionRow). same_session r.session session) rows) (is_open session rows) (is_open-find session rows)

-- the number of rows

length-within : (number : ℕ) (rows : List SessionRow) → number ≤ 16 → AllAbove number rows → Rising rows → length rows + number ≤ 16
length-within number [] within above up = omega arith
length-within number (row ∷ rows) within above up =
    let rest : length rows + row.session.number ≤ 16 = length-within row.session.number rows row.session.valid.1 up.0 up.1 in
    omega (arith, rest, above.0)

all_above_zero : (rows : List SessionRow) → AllAbove 0 rows
all_above_zero [] = tt
all_above_zero (row ∷ rows) = (row.session.valid.0, all_above_zero rows)

length-with_if : (b : Bool) (new row : SessionRow) (rows others : List SessionRow) → length others ≡ length rows + 1 → length (if b then new ∷ row ∷ rows else row ∷ others) ≡ length (row ∷ rows) + 1
length-with_if true new row rows others is = omega arith
length-with_if false new row rows others is = omega arith

length-with_session : (new : SessionRow) (rows : List SessionRow) → length (with_session new rows) ≡ length rows + 1
length-with_session new [] = refl
length-with_session new (row ∷ rows) = length-with_if (nat_lt new.session.number row.session.number) new row rows (with_session new rows) (length-with_session new rows)

-- there is room for a session that is not open, since there are sixteen sessions
pub room : (new : SessionRow) (rows : List SessionRow) → is_open new.session rows ≡ false → Rising rows → length rows < 16
room new rows absent up =
    let few : length (with_session new rows) + 0 ≤ 16 =
    length-within 0 (with_session new rows) (omega arith) (all_above_zero (with_session new rows)) (rising-with_session new rows absent up) in
    omega (arith, few, length-with_session new rows)

-- a row put at its place

put : (above : Bool) (new row : SessionRow) (rows entered : List SessionRow) (place : ℕ) → insert rows place new ≡ entered → insert (row ∷ rows) (if above then 0 else suc place) new ≡ (if above then new ∷ row ∷ rows else row ∷ entered)
put true new row rows entered place same = refl
put false new row rows entered place same = ap (λ (rest : List SessionRow). row ∷ rest) same

pub insert-place_above : (new : SessionRow) (rows : List SessionRow) → insert rows (place_above new.session rows) new ≡ with_session new rows
insert-place_above new [] = refl
insert-place_above new (row ∷ rows) = put (nat_lt new.session.number row.session.number) new row rows (with_session new rows) (place_above new.session rows) (insert-place_above new rows)

-- the sessions that hear a class rise

numbers_of-sessions : (rows : List SessionRow) → numbers_of (map (λ (row : SessionRow). row.session) rows) ≡ session_numbers rows
numbers_of-sessions [] = refl
numbers_of-sessions (row ∷ rows) = ap (λ (rest : List ℕ). row.session.number ∷ rest) (numbers_of-sessions rows)

pub rising-hearers : (kind : Class) (rows : List SessionRow) → Rising rows → IsStrictlyIncreasing (numbers_of (hearers kind rows))
rising-hearers kind rows up =
    let heard : List SessionRow = filter (λ (row : SessionRow). has_class kind row.classes) rows in
    rw (numbers_of-sessions heard) (increasing heard (rising-filter (λ (row : SessionRow). has_class kind row.classes) rows up))

-- a list written over by one of its length
pub refill-same : (old new : List SessionRow) → length new ≡ length old → refill (length old) old new ≡ new
refill-same old new long = take_at new (drop (length new) old) (length old) long
