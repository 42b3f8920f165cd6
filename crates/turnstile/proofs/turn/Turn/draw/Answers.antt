use Rattle.std.proofs.Common.{rules, arith, ap, ◌∙◌}
use Rattle.turnstile.specs.Rules.{StandsFrom}
use Rattle.turnstile.proofs.StepLemmas.{draws}
use Rattle.turnstile.proofs.turn.Turn.draw.Goals as goal

pub compare_exchange-was-requires : goal.compare_exchange-was-requires
compare_exchange-was-requires g c = (
  search rules,
  search rules,
  draws _ (StandsFrom g.M.Machine.stands g.M.Machine.origin) _ _ _ _ _ _ (omega arith) (ap (λ m. m.0.stage) c.loop.invariant.2 ∙ c.requires.2),
)
