use Rattle.std.proofs.Common.{rules}
use Rattle.turnstile.specs.Rules.{StandsFrom}
use Rattle.turnstile.proofs.StepLemmas.{settles}
use Rattle.turnstile.proofs.turn.Turn.settle.Goals as goal

pub load-requires : goal.load-requires
load-requires g c = (search rules, search rules, settles _ (StandsFrom g.M.Machine.stands g.M.Machine.origin) _ _ _ _ _ c.requires.2)
