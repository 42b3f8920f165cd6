-- Words for what is so of a strike that is armed.
use Rattle.flat_machine.specs.Arms.{Armed, Due}
use Rattle.flat_machine.specs.Power.{Plan}
use Rattle.pad_steps.specs.declared.steps.DiskWord.{DiskWord}
use Rattle.std.specs.Prelude.{None, Some, ◌<◌, ◌≡◌}

-- nothing is armed, or a call that is still to come: they count from 1
abbrev pub IsAhead : Armed → Type 0
IsAhead None = Unit {0}
IsAhead (Some armed) = 0 < armed.0

-- the word is due, and it is the only one that is, with what is armed after it
pub record IsOnlyDue (calls : Plan) (armed : Armed) (word : DiskWord) (after : Armed) : Type 0 where
  pub due : Due calls armed word after
  pub only : (other : DiskWord) (later : Armed) → Due calls armed other later → (other ≡ word) × (later ≡ after)
