use Rattle.std.proofs.Common.{rules}
use Rattle.turnstile.specs.Rules.{StandsFrom}
use Rattle.turnstile.proofs.StepLemmas.{glances}
use Rattle.turnstile.proofs.turn.Turn.glance.Goals as goal

pub load-board-requires : goal.load-board-requires
load-board-requires g c = (search rules, search rules, glances _ (StandsFrom g.M.Machine.stands g.M.Machine.origin) _ _ _ _ _ c.requires.2)
