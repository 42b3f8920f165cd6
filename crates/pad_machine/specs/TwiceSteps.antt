-- A step of the pad that is told twice.
use Rattle.disk_core.specs.DiskStates.{DiskState}
use Rattle.pad_machine.specs.Runs.{IsPadStep}
use Rattle.pad_machine.specs.Stands.{PadState}
use Rattle.pad_machine.specs.Twice.{SayAlike}
use Rattle.pad_machine.specs.declared.pad.Stepped.{Stepped}
use Rattle.pad_steps.specs.declared.answers.Out.{Out}
use Rattle.pad_steps.specs.declared.steps.Step.{Step}
use Rattle.pin_blocks.specs.PinRules.{PinRules}
use Rattle.std.specs.Prelude.{List, ◌≡◌}

-- one step is told to either list and by either answer: the same stands behind both lists, and the answers are equal
pub record IsToldTwice (pin_rules : PinRules) (old new : PadState) (before after second_before second_after : List Out) (step : Step) (both : Stepped × Stepped) (s t : DiskState) : Type 0 where
  pub first : IsPadStep pin_rules old new before after step both.0 s t
  pub second : IsPadStep pin_rules old new second_before second_after step both.1 s t
  pub outs : SayAlike before after second_before second_after
  pub answers : both.1 ≡ both.0
