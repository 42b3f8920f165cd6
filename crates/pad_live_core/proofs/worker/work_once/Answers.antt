use Rattle.std.proofs.Common.{subst}
use Rattle.turnstile.specs.Turns.{view}
use Rattle.pad_desk.specs.Answers.{Works}
use Rattle.pad_live_core.proofs.WorkLemmas.{works_did, works_refused}
use Rattle.pad_live_core.proofs.worker.work_once.Goals as goal

pub returns-in-Did-clause-works : goal.returns-in-Did-clause-works
returns-in-Did-clause-works g c = works_did g.W.PinWork.rules (view c.args.pass.now) (view c.work.new.pass) c.in-Did.field-0.place c.in-Did.field-0.outcome (subst (λ worked. Works g.W.PinWork.rules (view c.args.pass.now) worked (view c.work.new.pass)) c.in-Did.is c.in-Ok.ensures.worked)

pub returns-in-Err-NoMemory-clause-works : goal.returns-in-Err-NoMemory-clause-works
returns-in-Err-NoMemory-clause-works g c = works_refused g.W.PinWork.rules (view c.args.pass.now) (view c.work.new.pass) _ c.in-Err-NoMemory.ensures.refused

pub returns-clause-works : goal.returns-clause-works
returns-clause-works g c = works_refused g.W.PinWork.rules (view c.args.pass.now) (view c.work.new.pass) _ c.in-Err-HistoryFull.ensures.refused
