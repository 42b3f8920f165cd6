use Rattle.flat_machine.proofs.PowerLemmas.{plan_of_any_count}
use Rattle.flat_machine.proofs.WorkChains.{work_answers, work_ends, work_loads, work_manages, work_ready, work_suits}
use Rattle.flat_machine.proofs.laws.works.works_of_commands.Goals as goal

pub returns-clause-calls : goal.returns-clause-calls
returns-clause-calls c = plan_of_any_count

pub returns-clause-suits : goal.returns-clause-suits
returns-clause-suits c = work_suits

pub returns-clause-ends : goal.returns-clause-ends
returns-clause-ends c = work_ends

pub returns-clause-answers : goal.returns-clause-answers
returns-clause-answers c = work_answers

pub returns-clause-management : goal.returns-clause-management
returns-clause-management c = work_manages

pub returns-clause-loads : goal.returns-clause-loads
returns-clause-loads c = work_loads

pub returns-clause-ready : goal.returns-clause-ready
returns-clause-ready c = work_ready
