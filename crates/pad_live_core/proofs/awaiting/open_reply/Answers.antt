use Rattle.pad_live_core.proofs.MoveLemmas.{opens_reply}
use Rattle.pad_live_core.proofs.awaiting.open_reply.Goals as goal

pub returns-clause-opened : goal.returns-clause-opened
returns-clause-opened g c = opens_reply g.W.PinWork.rules c.args._session c.args._id c.args.last.now c.shows_more.new.last _ _ c.shows_more.result c.shows_more.ensures.more c.shows_more.ensures.same
