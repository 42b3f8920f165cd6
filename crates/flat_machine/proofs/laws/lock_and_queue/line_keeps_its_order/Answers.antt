use Rattle.flat_machine.proofs.LineMoves as lemma
use Rattle.flat_machine.proofs.laws.lock_and_queue.line_keeps_its_order.Goals as goal

pub returns-clause-stands : goal.returns-clause-stands
returns-clause-stands c = lemma.standing_stays

pub returns-clause-step : goal.returns-clause-step
returns-clause-step c = lemma.order_stays

pub returns-clause-run : goal.returns-clause-run
returns-clause-run c = lemma.order_runs
