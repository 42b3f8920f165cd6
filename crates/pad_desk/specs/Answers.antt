-- What callers are answered: what the machine said in the entry that was just made.
use Rattle.pad_desk.specs.Desks.{noted}
use Rattle.pad_desk.specs.Histories.{Legal, status_after}
use Rattle.pad_desk.specs.declared.answers.Collected.TheVariants as collected
use Rattle.pad_desk.specs.declared.answers.Collected.{Collected}
use Rattle.pad_desk.specs.declared.answers.Submitted.TheVariants as submitted
use Rattle.pad_desk.specs.declared.answers.Submitted.{Submitted}
use Rattle.pad_desk.specs.declared.answers.Worked.TheVariants as worked
use Rattle.pad_desk.specs.declared.answers.Worked.{Worked}
use Rattle.pad_desk.specs.declared.outcome.StepOut.{StepOut}
use Rattle.pad_steps.specs.declared.answers.Out.TheVariants as out
use Rattle.pad_steps.specs.declared.answers.Out.{Out}
use Rattle.pad_steps.specs.declared.answers.Told.TheVariants as telling
use Rattle.pad_steps.specs.declared.steps.Step.TheVariants as steps
use Rattle.pad_steps.specs.declared.steps.Step.{Step}
use Rattle.pad_words.specs.declared.numbers.Session.{Session}
use Rattle.pin_blocks.specs.PinRules.{PinRules}
use Rattle.std.specs.Prelude.{None, Option, Some, [], if◌then◌else◌, length, ℕ, ◌%◌, ◌/◌, ◌<◌, ◌==◌, ◌^◌, ◌∷◌, ◌≡◌, ◌≤◌}
use Rattle.turnstile.specs.Entries.{Refuses}
use Rattle.turnstile.specs.Rules.{NotesWithin}
use Rattle.turnstile.specs.Turns.{Enters, Sees}
use Rattle.turnstile.specs.declared.machine.CallFault.{CallFault}
use Rattle.turnstile.specs.declared.view.PassView.{PassView}

-- a Submit says its id or why it is refused
abbrev pub submit_out : Session → Submitted → Out
submit_out session (submitted.Request id) = out.Request session id
submit_out session (submitted.Refused refusal) = out.Refused session refusal

-- an Ask for a reply is told pending, the reply, or why it is refused
abbrev pub collect_out : Session → ℕ → Collected → Out
collect_out session id collected.Pending = out.Told session telling.Pending
collect_out session id (collected.Ended reply) = out.Told session (telling.Reply id reply)
collect_out session id (collected.Refused refusal) = out.Told session (telling.No refusal)

-- the step that is due by its number: Begin 1, Finish 2
abbrev pub due_by : ℕ → Option Step
due_by number = if number == 1 then Some steps.Begin else (if number == 2 then Some steps.Finish else None)

-- the step that is due at a status
abbrev pub due_at : ℕ → Option Step
due_at status = due_by (status / 16 % 4)

module _ (pin_rules : PinRules) where
  -- the step was entered, and this is all that was said in its entry
  pub record AnswersWith (before : PassView Step StepOut) (step : Step) (only : Out) (after : PassView Step StepOut) : Type 0 where
    pub place : ℕ
    pub outcome : StepOut
    pub entered : Enters (Legal pin_rules) (status_after pin_rules) before place step outcome after
    pub said : outcome.outs.items ≡ only ∷ []

  -- a glance showed this length and this status
  pub record Glances (before : PassView Step StepOut) (shown status : ℕ) : Type 0 where
    pub seen : length before.seen ≤ shown
    pub notes : NotesWithin shown before.notes
    pub short : shown ≤ 1048576
    pub low : status < 2 ^ 43

  -- after one glance, the step that is due at its status was entered
  pub record TookDue (before : PassView Step StepOut) (place : ℕ) (outcome : StepOut) (after : PassView Step StepOut) : Type 0 where
    pub shown : ℕ
    pub status : ℕ
    pub glanced : Glances before shown status
    pub step : Step
    pub due : due_at status ≡ Some step
    pub entered : Enters (Legal pin_rules) (status_after pin_rules) (noted before shown status) place step outcome after

  -- one glance, and no step was due at its status
  pub record HadNothing (before : PassView Step StepOut) (shown status : ℕ) (after : PassView Step StepOut) : Type 0 where
    pub glanced : Glances before shown status
    pub due : due_at status ≡ None
    pub note : after ≡ noted before shown status

  -- after one glance, the step that is due at its status was refused
  pub record DueRefused (before : PassView Step StepOut) (fault : CallFault Step) (after : PassView Step StepOut) : Type 0 where
    pub shown : ℕ
    pub status : ℕ
    pub glanced : Glances before shown status
    pub step : Step
    pub due : due_at status ≡ Some step
    pub seen : Sees (Legal pin_rules) (status_after pin_rules) (noted before shown status) after
    pub refused : Refuses step (length after.seen) fault

  -- what a worker did
  abbrev pub Works : PassView Step StepOut → Worked → PassView Step StepOut → Type 0
  Works before (worked.Did given) after = TookDue before given.place given.outcome after
  Works before (worked.Nothing glance) after = HadNothing before glance.length glance.status after
