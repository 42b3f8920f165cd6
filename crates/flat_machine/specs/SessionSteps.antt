-- Open, Close, Listen, Lock and Unlock (WFSOpen, WFSClose, WFSRegister, WFSLock, WFSUnlock).
use Rattle.pad_words.specs.Numbers.{same_session}
use Rattle.flat_machine.specs.Sessions.{told_lock, grants, grants_after}
use Rattle.device_lock.specs.LockLine.{holds, in_line, locked_out, out_of_line}
use Rattle.session_book.specs.Rising.{opened}
use Rattle.session_book.specs.Sessions.{is_open, with_classes, with_session, without_session}
use Rattle.flat_machine.specs.State.{Shared, Said, with_outs_after, ends, said, says}
use Rattle.pad_steps.specs.declared.steps.Classes.{Classes}
use Rattle.pad_words.specs.declared.numbers.Session.{Session}
use Rattle.std.specs.Prelude.{if◌then◌else◌, length, ◌∷◌}
use Rattle.pad_steps.specs.declared.answers.Out.TheVariants as out
use Rattle.pad_steps.specs.declared.answers.Told.TheVariants as told
use Rattle.pad_steps.specs.declared.answers.Refusal.TheVariants as refusals

-- a step of a session that is not open is told NOSESSION and does nothing
abbrev pub if_open : Shared → Session → Said → Said
if_open shared session effect = if is_open session shared.sessions then effect else says shared (out.Told session (told.No refusals.NoSession))

-- Open: told ALREADYOPEN where it is open; else it is open, listens to nothing, and its floor is the last id drawn
abbrev pub next_open : Shared → Session → Said
next_open shared session = if is_open session shared.sessions then says shared (out.Told session (told.No refusals.AlreadyOpen))
    else says (record shared { sessions = with_session (opened session (length shared.requests)) shared.sessions }) (out.Told session told.Opened)

-- Close: the session's pending requests end CANCELED, it is told closed, it leaves the line, and where it held the lock the next is granted it
abbrev pub next_close : Shared → Session → Said
next_close shared session = if_open shared session (with_outs_after (out.Told session told.Closed ∷ grants_after session shared.line)
    (ends (λ request. same_session request.session session) refusals.Canceled (record shared { sessions = without_session session shared.sessions; line = out_of_line session shared.line })))

-- Listen: the session listens to these classes
abbrev pub next_listen : Shared → Session → Classes → Said
next_listen shared session classes = if_open shared session (says (record shared { sessions = with_classes session classes shared.sessions }) (out.Told session (told.Listening classes)))

-- Lock: told granted where no other session holds the lock; else told waiting, and the session stands in the line
abbrev pub next_lock : Shared → Session → Said
next_lock shared session = if_open shared session (says (record shared { line = in_line session shared.line }) (out.Told session (told_lock (locked_out session shared.line))))

-- Unlock: told NOTLOCKED where the session does not hold the lock; else it is told released, and the next in the line is granted it
abbrev pub next_unlock : Shared → Session → Said
next_unlock shared session = if_open shared session (if holds session shared.line
    then said (record shared { line = out_of_line session shared.line }) (out.Told session told.Released ∷ grants (out_of_line session shared.line))
    else says shared (out.Told session (told.No refusals.NotLocked)))
