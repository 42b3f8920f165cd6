use Rattle.flat_machine.proofs.DiskRunsJoined.{runs_arm, runs_none, runs_step, runs_then}
use Rattle.flat_machine.proofs.laws.disk_runs.disk_runs_join.Goals as goal

pub returns-clause-none : goal.returns-clause-none
returns-clause-none g c = λ layout set state s. runs_none layout set state (g.D.Disk.state s)

pub returns-clause-arm : goal.returns-clause-arm
returns-clause-arm g c = λ layout set state call strike s t. runs_arm layout set state call strike (g.D.Disk.state s) (g.D.Disk.state t)

pub returns-clause-step : goal.returns-clause-step
returns-clause-step g c = λ layout set state act s t apart on. runs_step layout set apart state act (g.D.Disk.state s) (g.D.Disk.state t) (g.met.D.Disk.laws t) on

pub returns-clause-joined : goal.returns-clause-joined
returns-clause-joined g c = λ layout set state first second s t u. runs_then layout set state first second (g.D.Disk.state s) (g.D.Disk.state t) (g.D.Disk.state u)
