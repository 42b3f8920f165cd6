-- What a caller of a desk sees.
use Rattle.pad_desk.specs.declared.outcome.StepOut.{StepOut}
use Rattle.pad_steps.specs.declared.steps.Step.{Step}
use Rattle.std.specs.Prelude.{[], ℕ, ◌++◌, ◌∷◌, ◌≡◌}
use Rattle.turnstile.specs.Rules.{StartsWith}
use Rattle.turnstile.specs.declared.view.PassView.{PassView}

-- the pass with one note more
abbrev pub noted : PassView Step StepOut → ℕ → ℕ → PassView Step StepOut
noted pass length status = record pass { notes = pass.notes ++ (length, status) ∷ [] }

-- the pass may have seen more, and nothing else of it changed
pub record HasSeenMore (before after : PassView Step StepOut) : Type 0 where
  pub seen : StartsWith after.seen before.seen
  pub kept : after ≡ record before { seen = after.seen }
