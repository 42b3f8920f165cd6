use Rattle.std.proofs.Common.{rules, sym, ap, ◌∙◌}
use Rattle.turnstile.specs.declared.view.Stage.TheVariants.{Waiting}
use Rattle.turnstile.specs.Rules.{StandsFrom}
use Rattle.turnstile.proofs.StepLemmas.{looks}
use Rattle.turnstile.proofs.turn.Turn.look.Goals as goal

pub load-requires : goal.load-requires
load-requires g c = (search rules, search rules, looks _ (StandsFrom g.M.Machine.stands g.M.Machine.origin) _ _ _ _ _ _ c.requires.ticket)

pub returns-clause-turned : goal.returns-clause-turned
returns-clause-turned g c = λ is. c.load.ensures.2.0 (c.requires.ticket ∙ ap Waiting (sym is))
