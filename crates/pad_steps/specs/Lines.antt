-- What a step says and what is printed of it.
use Rattle.pad_steps.specs.declared.answers.Out.{Out}
use Rattle.pad_steps.specs.declared.steps.DiskWord.{DiskWord}
use Rattle.pad_steps.specs.declared.steps.Fate.{Fate}
use Rattle.pad_steps.specs.declared.steps.Step.{Step}
use Rattle.std.specs.Prelude.{List, Option, ℕ}

-- a list of outs, and how many more it takes without memory
pub record OutList : Type 0 where
  pub items : List Out
  pub spare : ℕ

-- a step as it is printed: a masked press without its key
pub record Line : Type 0 where
  pub shown : Option Step
  pub word : DiskWord
  pub fate : Option Fate
  pub outs : List Out
