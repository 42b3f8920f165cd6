use Rattle.request_queue.proofs.EndLemmas.{first-ends, none-left, one-less-left}
use Rattle.request_queue.proofs.laws.one_after_another.Goals as goal

pub returns-clause-step : goal.returns-clause-step
returns-clause-step g c = λ test reply rows id ids e. first-ends test reply rows id ids e

pub returns-clause-less : goal.returns-clause-less
returns-clause-less g c = λ test reply rows id ids e. one-less-left test reply rows id ids e

pub returns-clause-done : goal.returns-clause-done
returns-clause-done g c = λ test reply rows e. none-left test reply rows e
