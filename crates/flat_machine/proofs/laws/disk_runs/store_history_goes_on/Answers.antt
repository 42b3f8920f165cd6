use Rattle.flat_machine.proofs.HistoryOfSteps.{holds_step, unloaded_images}
use Rattle.flat_machine.proofs.laws.disk_runs.store_history_goes_on.Goals as goal

pub returns-clause-step : goal.returns-clause-step
returns-clause-step g c = λ layout set state acts first act s t. holds_step layout set state acts first act (g.D.Disk.state s) (g.D.Disk.state t)

pub returns-clause-unloaded : goal.returns-clause-unloaded
returns-clause-unloaded g c = λ layout set state deeds s t. unloaded_images layout set state deeds (g.D.Disk.state s) (g.D.Disk.state t)
