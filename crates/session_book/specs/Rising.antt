-- The order of the open sessions, and the row of a session as it is opened.
use Rattle.pad_words.specs.declared.numbers.Session.{Session}
use Rattle.session_book.specs.declared.sessions.SessionRow.{SessionRow}
use Rattle.std.specs.Prelude.{List, [], false, map, ℕ, ◌<◌, ◌∷◌}

-- each of the rows is of a session above this number
abbrev pub AllAbove : ℕ → List SessionRow → Type 0
AllAbove number [] = Unit {0}
AllAbove number (row ∷ rows) = (number < row.session.number) × AllAbove number rows

-- each session is above all before it
abbrev pub Rising : List SessionRow → Type 0
Rising [] = Unit {0}
Rising (row ∷ rows) = AllAbove row.session.number rows × Rising rows

-- the numbers of sessions
abbrev pub numbers_of : List Session → List ℕ
numbers_of sessions = map (λ session. session.number) sessions

-- the numbers of the open sessions
abbrev pub session_numbers : List SessionRow → List ℕ
session_numbers rows = map (λ row. row.session.number) rows

-- the row of a session that was just opened: it listens to nothing
abbrev pub opened : Session → ℕ → SessionRow
opened session floor = record { session = session; classes = record { service = false; execute = false }; floor = floor }
