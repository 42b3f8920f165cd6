use Rattle.flat_machine.proofs.LoadedRows.{loaded_along}
use Rattle.flat_machine.proofs.laws.disk_runs.loaded_rows_are_known.Goals as goal

pub returns : goal.returns
returns c = loaded_along
