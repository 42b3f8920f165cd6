-- What a session is told of the lock of the device (WFSLock, WFSUnlock), and which session is granted it when another leaves the line.
use Rattle.device_lock.specs.LockLine.{holder_of, holds, out_of_line}
use Rattle.device_lock.specs.declared.answers.LockAnswer.{LockAnswer}
use Rattle.device_lock.specs.declared.answers.LockAnswer.TheVariants.{Granted, Waiting}
use Rattle.pad_words.specs.declared.numbers.Session.{Session}
use Rattle.std.specs.Prelude.{List, None, Option, Some, if◌then◌else◌}

-- what a session is told that asks for the lock, by the session that locks it out: granted where there is none
abbrev pub answer_of : Option Session → LockAnswer
answer_of None = Granted
answer_of (Some holder) = Waiting holder

-- the session that is granted the lock as this one leaves the line: the next in it, where this one held the lock
abbrev pub granted_after : Session → List Session → Option Session
granted_after session line = if holds session line then holder_of (out_of_line session line) else None
