-- Requests that are pending for a session, and the state in which it asked.
use Rattle.flat_machine.specs.State.{Flat, Shared}
use Rattle.pad_desk.specs.Histories.{DeskEntry, state_after}
use Rattle.pad_desk.specs.declared.outcome.StepOut.{StepOut}
use Rattle.pad_steps.specs.declared.steps.Step.{Step}
use Rattle.pad_words.specs.declared.numbers.Session.{Session}
use Rattle.pin_blocks.specs.PinRules.{PinRules}
use Rattle.request_queue.specs.Requests.{StillPending, look}
use Rattle.session_book.specs.Sessions.{floor_of, is_open}
use Rattle.std.specs.Prelude.{List, length, take, true, ℕ, ◌-◌, ◌≡◌}
use Rattle.turnstile.specs.Rules.{entries_of}
use Rattle.turnstile.specs.declared.view.PassView.{PassView}

-- the session is open, and among its requests above its floor the one with this id is pending
pub record IsPendingFor (shared : Shared) (session : Session) (id : ℕ) : Type 0 where
  pub opened : is_open session shared.sessions ≡ true
  pub found : look session (floor_of session shared.sessions) id shared.requests ≡ StillPending

-- what was entered before the last entry that the pass has seen
abbrev pub entries_before : PassView Step StepOut → List DeskEntry
entries_before pass = entries_of (take (length pass.seen - 1) pass.seen)

-- the state in which that last entry was made
abbrev pub state_before : PinRules → PassView Step StepOut → Flat
state_before pin_rules pass = state_after pin_rules (entries_before pass)
