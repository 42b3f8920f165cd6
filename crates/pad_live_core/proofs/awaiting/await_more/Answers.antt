use Rattle.turnstile.specs.Turns.{view}
use Rattle.pad_live_core.proofs.MoveLemmas.{saw_more}
use Rattle.pad_live_core.proofs.awaiting.await_more.Goals as goal

pub returns-then-shows_more-clause-noted : goal.returns-then-shows_more-clause-noted
returns-then-shows_more-clause-noted g c = saw_more c.args.last.now c.loop.last (view c.loop.pass) _ _ c.if-shows_more.true c.loop.invariant.2 c.shows_more.ensures.noted
