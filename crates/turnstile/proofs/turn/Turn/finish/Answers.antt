use Rattle.std.proofs.Common.{rules}
use Rattle.turnstile.specs.Rules.{StandsFrom}
use Rattle.turnstile.proofs.StepLemmas.{advances}
use Rattle.turnstile.proofs.turn.Turn.finish.Goals as goal

pub fetch_add-served-requires : goal.fetch_add-served-requires
fetch_add-served-requires g c = let h = c.requires.held in (search rules, search rules, advances _ (StandsFrom g.M.Machine.stands g.M.Machine.origin) _ _ _ _ _ h.0 c.requires.pass.1 h.1 (h.2, h.3))
