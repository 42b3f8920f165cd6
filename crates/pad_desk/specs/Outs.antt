-- What contracts see of what a step said.
use Rattle.pad_steps.specs.declared.answers.Out.{Out}
use Rattle.std.specs.Prelude.{List, ℕ}

-- the outs in order, and the seed of the run in which they were said
pub record OutsOfRun : Type 0 where
  pub items : List Out
  pub seed : List ℕ
