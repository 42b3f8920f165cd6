-- What sessions hear: events of the device (WFSRegister), and what is told of its lock (WFSLock).
use Rattle.device_lock.specs.LockLine.{holds, out_of_line}
use Rattle.pad_steps.specs.declared.answers.Event.{Event}
use Rattle.pad_steps.specs.declared.answers.Out.{Out}
use Rattle.pad_steps.specs.declared.answers.Told.{Told}
use Rattle.pad_words.specs.declared.numbers.Session.{Session}
use Rattle.session_book.specs.Sessions.{hearers, hears}
use Rattle.session_book.specs.declared.sessions.SessionRow.{SessionRow}
use Rattle.std.specs.Prelude.{List, None, Option, Some, [], if◌then◌else◌, map, ◌∷◌}
use Rattle.pad_steps.specs.declared.answers.Out.TheVariants as out
use Rattle.pad_steps.specs.declared.answers.Told.TheVariants as told
use Rattle.pad_steps.specs.declared.steps.Class.TheVariants as class

-- an execute event (KEY, ENTERDATA) goes to the session whose request is in work, if it listens to that class
abbrev pub execute_event : List SessionRow → Session → Event → List Out
execute_event rows session event = if hears session class.Execute rows then out.Event session event ∷ [] else []

-- a service event (INITIALIZED, ILLEGAL_KEY_ACCESS) goes to every open session that listens to that class, in rising order
abbrev pub service_events : List SessionRow → Event → List Out
service_events rows event = map (λ session. out.Event session event) (hearers class.Service rows)

-- granted, or waiting with the session that holds the lock
abbrev pub told_lock : Option Session → Told
told_lock None = told.Granted
told_lock (Some holder) = told.Waiting holder

-- the first of the line is told that it is granted the lock
abbrev pub grants : List Session → List Out
grants [] = []
grants (first ∷ line) = out.Told first told.Granted ∷ []

-- where the leaving session held the lock, the next in the line is granted it
abbrev pub grants_after : Session → List Session → List Out
grants_after session line = if holds session line then grants (out_of_line session line) else []
