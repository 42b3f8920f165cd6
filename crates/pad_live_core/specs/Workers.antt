-- What the worker did.
use Rattle.pad_desk.specs.Answers.{due_at}
use Rattle.pad_desk.specs.Histories.{status_after}
use Rattle.pad_live_core.specs.LaneEvents.{DeskLog, DeskView, SamePass}
use Rattle.pad_steps.specs.declared.steps.Step.TheVariants as steps
use Rattle.pad_steps.specs.declared.steps.Step.{Step}
use Rattle.pad_desk.specs.declared.outcome.StepOut.{StepOut}
use Rattle.pin_blocks.specs.PinRules.{PinRules}
use Rattle.std.specs.Prelude.{List, None, Some, [], length, ℕ, ◌++◌, ◌∷◌, ◌≡◌, ◌≢◌, ◌≤◌, ◌⊎◌}
use Rattle.turnstile.specs.Numbers.{places_from}
use Rattle.turnstile.specs.Rules.{StartsWith, entries_of}
use Rattle.turnstile.specs.declared.view.MadeEntry.{MadeEntry}

-- the last of these entries is another's
pub record EndsWithOther (number : List ℕ) (front : DeskLog) : Type 0 where
  pub before : DeskLog
  pub other : MadeEntry Step StepOut
  pub last : front ≡ before ++ other ∷ []
  pub by : other.by ≢ number

-- the last glance said that no work is due
pub record IsIdle (view : DeskView) : Type 0 where
  pub front : List (ℕ × ℕ)
  pub length_then : ℕ
  pub status_then : ℕ
  pub last : view.notes ≡ front ++ (length_then, status_then) ∷ []
  pub none : due_at status_then ≡ None
  pub seen : length view.seen ≤ length_then

module _ (pin_rules : PinRules) where
  -- the entry is the step that is due after these
  abbrev pub IsDueAfter : DeskLog → MadeEntry Step StepOut → Type 0
  IsDueAfter front made = due_at (status_after pin_rules (entries_of front)) ≡ Some made.op

  -- it is a Begin or a Finish, and is due after the entries before it, or stands directly after another's
  pub record IsWork (number : List ℕ) (front : DeskLog) (made : MadeEntry Step StepOut) : Type 0 where
    pub kind : (made.op ≡ steps.Begin) ⊎ (made.op ≡ steps.Finish)
    pub due : IsDueAfter front made ⊎ EndsWithOther number front

  -- so it is of each entry of the number
  abbrev pub IsWorked : List ℕ → DeskLog → Type 0
  IsWorked number log = (front : DeskLog) (made : MadeEntry Step StepOut) (rest : DeskLog)
      → log ≡ front ++ made ∷ rest → made.by ≡ number → IsWork number front made

  -- what the worker's pass knows: so it was in a beginning of the history that has all its entries
  pub record WorkHolds (view : DeskView) : Type 0 where
    pub base : DeskLog
    pub seen : StartsWith view.seen base
    pub mine : places_from 0 view.number base ≡ view.mine
    pub worked : IsWorked view.number base

  -- work and glances
  pub record WorksOn (before after : DeskView) : Type 0 where
    pub same : SamePass before after
    pub seen : StartsWith after.seen before.seen
    pub more : List (ℕ × ℕ)
    pub notes : after.notes ≡ before.notes ++ more
    pub holds : WorkHolds before → WorkHolds after
