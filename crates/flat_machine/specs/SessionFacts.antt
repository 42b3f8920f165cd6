-- Words for what is so of the sessions of every run.
use Rattle.session_book.specs.Sessions.{is_open}
use Rattle.session_book.specs.declared.sessions.SessionRow.{SessionRow}
use Rattle.pad_words.specs.declared.numbers.Session.{Session}
use Rattle.std.specs.List.{list_all}
use Rattle.std.specs.Prelude.{Bool, List}

-- every session in the line is open
abbrev pub all_open : List SessionRow → List Session → Bool
all_open rows line = list_all (λ session. is_open session rows) line
