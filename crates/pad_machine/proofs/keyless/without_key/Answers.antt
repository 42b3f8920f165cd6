use Rattle.std.proofs.Common.{rules}
use Rattle.key_source.specs.declared.Key.TheVariants.{Enter}
use Rattle.pad_machine.proofs.keyless.without_key.Goals as goal

pub returns-in-Open-clause-step : goal.returns-in-Open-clause-step
returns-in-Open-clause-step c = (Enter, search rules)

pub returns-in-Listen-clause-step : goal.returns-in-Listen-clause-step
returns-in-Listen-clause-step c = (Enter, search rules)

pub returns-in-Submit-clause-step : goal.returns-in-Submit-clause-step
returns-in-Submit-clause-step c = (Enter, search rules)

pub returns-in-Begin-clause-step : goal.returns-in-Begin-clause-step
returns-in-Begin-clause-step c = (Enter, search rules)

pub returns-in-Finish-clause-step : goal.returns-in-Finish-clause-step
returns-in-Finish-clause-step c = (Enter, search rules)

pub returns-in-Off-clause-step : goal.returns-in-Off-clause-step
returns-in-Off-clause-step c = (Enter, search rules)

pub returns-in-Boot-clause-step : goal.returns-in-Boot-clause-step
returns-in-Boot-clause-step c = (Enter, search rules)

pub returns-in-Close-clause-step : goal.returns-in-Close-clause-step
returns-in-Close-clause-step c = (Enter, search rules)

pub returns-in-Lock-clause-step : goal.returns-in-Lock-clause-step
returns-in-Lock-clause-step c = (Enter, search rules)

pub returns-in-Unlock-clause-step : goal.returns-in-Unlock-clause-step
returns-in-Unlock-clause-step c = (Enter, search rules)

pub returns-in-Cancel-clause-step : goal.returns-in-Cancel-clause-step
returns-in-Cancel-clause-step c = (Enter, search rules)

pub returns-in-Tick-clause-step : goal.returns-in-Tick-clause-step
returns-in-Tick-clause-step c = (Enter, search rules)

pub returns-in-Ask-clause-step : goal.returns-in-Ask-clause-step
returns-in-Ask-clause-step c = (Enter, search rules)
