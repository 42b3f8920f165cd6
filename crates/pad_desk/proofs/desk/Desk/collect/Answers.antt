use Rattle.pad_desk.proofs.AnswerLemmas.{collect-told}
use Rattle.pad_desk.proofs.PendingLemmas.{collect-pending}
use Rattle.turnstile.specs.Turns.{view}
use Rattle.pad_desk.proofs.desk.Desk.collect.Goals as goal

pub collected_in-requires : goal.collected_in-requires
collected_in-requires g c = collect-told c.args.session g.W.PinWork.rules (view c.args.pass.now) (view c.call.new.pass) c.in-Ok.given.place c.args.id c.in-Ok.given.outcome c.in-Ok.ensures.entered

pub returns-in-Ok-clause-pending : goal.returns-in-Ok-clause-pending
returns-in-Ok-clause-pending g c = collect-pending c.args.session g.W.PinWork.rules (view c.args.pass.now) (view c.call.new.pass) c.in-Ok.given.place c.args.id c.in-Ok.given.outcome c.collected_in.result c.in-Ok.ensures.entered c.collected_in.ensures
