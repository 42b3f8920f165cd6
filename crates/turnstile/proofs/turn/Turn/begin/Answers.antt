use Rattle.turnstile.proofs.CallLemmas.{begins}
use Rattle.turnstile.specs.Rules.{StandsFrom}
use Rattle.turnstile.proofs.turn.Turn.begin.Goals as goal

pub returns-clause-begun : goal.returns-clause-begun
returns-clause-begun g c = begins (StandsFrom g.M.Machine.stands g.M.Machine.origin) _ _ _ _ _ _ c.draw-ticket.ensures.ticket c.await_turn.ensures.turned
