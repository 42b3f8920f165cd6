use Rattle.flat_machine.specs.Machine.{plan}
use Rattle.flat_machine.proofs.PlanLemmas.{fits_plan-quiet}
use Rattle.flat_machine.proofs.laws.works.no_call_is_quiet.Goals as goal

pub returns : goal.returns
returns c = λ set shared step none. fits_plan-quiet (plan set shared step) none
