-- The open sessions (WFSOpen, WFSClose, WFSRegister): a list of rows that rises by session. A session listens to service events, to execute events, to both or to none.
use Rattle.pad_steps.specs.declared.steps.Class.{Class}
use Rattle.pad_steps.specs.declared.steps.Class.TheVariants as class
use Rattle.pad_steps.specs.declared.steps.Classes.{Classes}
use Rattle.pad_words.specs.Numbers.{same_session}
use Rattle.pad_words.specs.declared.numbers.Session.{Session}
use Rattle.session_book.specs.declared.sessions.SessionRow.{SessionRow}
use Rattle.std.specs.List.{list_any}
use Rattle.std.specs.Prelude.{Bool, List, [], filter, if◌then◌else◌, map, nat_lt, not, ℕ, ◌&&◌, ◌∷◌}

-- the session is open
abbrev pub is_open : Session → List SessionRow → Bool
is_open session rows = list_any (λ row. same_session row.session session) rows

-- the rows with one more; they rise by session
abbrev pub with_session : SessionRow → List SessionRow → List SessionRow
with_session new [] = new ∷ []
with_session new (row ∷ rows) = if nat_lt new.session.number row.session.number then new ∷ row ∷ rows else row ∷ with_session new rows

-- the rows without this session
abbrev pub without_session : Session → List SessionRow → List SessionRow
without_session session rows = filter (λ row. not (same_session row.session session)) rows

-- the row with these event classes, if it is of this session
abbrev pub listening : Session → Classes → SessionRow → SessionRow
listening session classes row = if same_session row.session session then record row { classes = classes } else row

-- the session listens to these event classes from now on
abbrev pub with_classes : Session → Classes → List SessionRow → List SessionRow
with_classes session classes rows = map (listening session classes) rows

-- the session's floor: the last id drawn before it was opened. It sees no request at or below it
abbrev pub floor_of : Session → List SessionRow → ℕ
floor_of session [] = 0
floor_of session (row ∷ rows) = if same_session row.session session then row.floor else floor_of session rows

-- the classes have this one
abbrev pub has_class : Class → Classes → Bool
has_class class.Service classes = classes.service
has_class class.Execute classes = classes.execute

-- the session is open and listens to events of this class
abbrev pub hears : Session → Class → List SessionRow → Bool
hears session kind rows = list_any (λ row. same_session row.session session && has_class kind row.classes) rows

-- the open sessions that listen to events of this class, in rising order
abbrev pub hearers : Class → List SessionRow → List Session
hearers kind rows = map (λ row. row.session) (filter (λ row. has_class kind row.classes) rows)
