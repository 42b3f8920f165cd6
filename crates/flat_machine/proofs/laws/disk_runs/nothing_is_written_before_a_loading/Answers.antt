use Rattle.flat_machine.proofs.HistoryOfSteps.{unloaded_same}
use Rattle.flat_machine.proofs.laws.disk_runs.nothing_is_written_before_a_loading.Goals as goal

pub returns : goal.returns
returns c = unloaded_same
