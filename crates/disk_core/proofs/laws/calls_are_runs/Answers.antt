use Rattle.disk_core.proofs.CallLemmas.{calls_more, calls_none, calls_then}
use Rattle.disk_core.proofs.laws.calls_are_runs.Goals as goal

pub returns-clause-none : goal.returns-clause-none
returns-clause-none g c = λ s on. calls_none (g.D.Disk.state s) (g.met.D.Disk.laws s) on

pub returns-clause-joined : goal.returns-clause-joined
returns-clause-joined g c = λ n m s t u fault first second. calls_then n m (g.D.Disk.state s) (g.D.Disk.state t) (g.D.Disk.state u) fault first second

pub returns-clause-longer : goal.returns-clause-longer
returns-clause-longer g c = λ n m s t e first. calls_more n m (g.D.Disk.state s) (g.D.Disk.state t) e first
