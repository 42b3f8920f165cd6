-- Where a session stands among the open ones.
use Rattle.pad_words.specs.declared.numbers.Session.{Session}
use Rattle.session_book.specs.declared.sessions.SessionRow.{SessionRow}
use Rattle.std.specs.Prelude.{List, [], if◌then◌else◌, nat_lt, suc, ℕ, ◌∷◌}

-- the place of the first row of a session above this one
abbrev pub place_above : Session → List SessionRow → ℕ
place_above session [] = 0
place_above session (row ∷ rows) = if nat_lt session.number row.session.number then 0 else suc (place_above session rows)
