-- The line for the lock of the device (WFSLock, WFSUnlock): a list of sessions. The first holds the lock, and the others wait in that order.
use Rattle.pad_words.specs.Numbers.{same_session}
use Rattle.pad_words.specs.declared.numbers.Session.{Session}
use Rattle.std.specs.List.{list_any}
use Rattle.std.specs.Prelude.{Bool, List, None, Option, Some, [], false, filter, if◌then◌else◌, not, ◌++◌, ◌∷◌}

-- the session that holds the lock, if one does
abbrev pub holder_of : List Session → Option Session
holder_of [] = None
holder_of (session ∷ line) = Some session

-- the session holds the lock
abbrev pub holds : Session → List Session → Bool
holds session [] = false
holds session (first ∷ line) = same_session first session

-- the session that holds the lock, where it is another than this one
abbrev pub locked_out : Session → List Session → Option Session
locked_out session [] = None
locked_out session (first ∷ line) = if same_session first session then None else Some first

-- the session stands in the line: at the end, if it was not in it
abbrev pub in_line : Session → List Session → List Session
in_line session line = if list_any (λ other. same_session other session) line then line else line ++ session ∷ []

-- the line without this session
abbrev pub out_of_line : Session → List Session → List Session
out_of_line session line = filter (λ other. not (same_session other session)) line
