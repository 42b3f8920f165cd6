-- What is so in every run, and at every step.
use Rattle.flat_machine.specs.Facts.{IsStart}
use Rattle.flat_machine.specs.Machine.{Act, next, run_from}
use Rattle.flat_machine.specs.Settings.{Setting}
use Rattle.flat_machine.specs.State.{Flat}
use Rattle.flat_machine.specs.Twins.{Alike, TwinSteps, Twins}
use Rattle.key_source.specs.declared.Key.{Key}
use Rattle.pad_steps.specs.declared.steps.DiskWord.{DiskWord}
use Rattle.pad_steps.specs.declared.steps.Step.{Step}
use Rattle.std.specs.Prelude.{List}

-- so is each state that a run can come to: from each state in which a run begins, after all steps, with any disk words
abbrev pub InEveryRun : (Setting → Flat → Type 0) → Type 0
InEveryRun So = (set : Setting) (start : Flat) (acts : List Act) → IsStart start → So set (run_from set start acts)

-- so is each step from every state, with any disk word
abbrev pub AtEveryStep : (Setting → Flat → Step → DiskWord → Type 0) → Type 0
AtEveryStep So = (set : Setting) (state : Flat) (step : Step) (word : DiskWord) → So set state step word

-- the state after a step
abbrev pub after_step : Setting → Flat → Step → DiskWord → Flat
after_step set state step word = (next set state step word).state

-- so are the two states that any two runs come to which are twins
abbrev pub InTwinRuns : Setting → (Flat → Flat → Type 0) → Type 0
InTwinRuns set So = (start : Flat) (firsts seconds : List Act) → IsStart start → Twins set start firsts seconds → So (run_from set start firsts) (run_from set start seconds)

-- so is each press from every state
abbrev pub AtEveryPress : (Setting → Flat → Key → DiskWord → Type 0) → Type 0
AtEveryPress So = (set : Setting) (state : Flat) (key : Key) (word : DiskWord) → So set state key word

-- so is each Finish from every state
abbrev pub AtEveryFinish : (Setting → Flat → DiskWord → Type 0) → Type 0
AtEveryFinish So = (set : Setting) (state : Flat) (word : DiskWord) → So set state word

-- what is so wherever two states are alike and twin steps are taken from them, with any disk word
abbrev pub AtTwinSteps : (Setting → Flat → Flat → Step → Step → DiskWord → Type 0) → Type 0
AtTwinSteps So = (set : Setting) (first second : Flat) (step other : Step) (word : DiskWord) → Alike first second → TwinSteps first.shared step other → So set first second step other word
