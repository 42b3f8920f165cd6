use Rattle.std.proofs.Common.{subst}
use Rattle.turnstile.specs.Rules.{GotTurn, StandsFrom}
use Rattle.turnstile.proofs.turn.Turn.await_turn.Goals as goal

pub returns-in_default-clause-turned : goal.returns-in_default-clause-turned
returns-in_default-clause-turned g c = subst (λ m. GotTurn (StandsFrom g.M.Machine.stands g.M.Machine.origin m.0.origin) g.M.Machine.legal g.M.Machine.status_after m c.turns_before.new.pass.me) c.loop.invariant.2 c.in_default.ensures.turned
