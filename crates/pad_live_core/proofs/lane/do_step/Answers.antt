use Rattle.pad_live_core.proofs.MoveLemmas.{on_err, rests_refused}
use Rattle.pad_live_core.proofs.lane.do_step.Goals as goal

pub returns-in_err-given-clause-rests : goal.returns-in_err-given-clause-rests
returns-in_err-given-clause-rests g c = on_err _ c.from_residual.result (rests_refused g.W.PinWork.rules _ _ c.in_err-given.ensures.seen)
