use Rattle.std.proofs.Common.{sym, ap, ◌∙◌, ◌∷◌, Some}
use Rattle.atomic_table.specs.Table.{rest}
use Rattle.turnstile.proofs.turn.Turn.take_machine.Goals as goal

pub exchange-requires : goal.exchange-requires
exchange-requires g c = let has = c.requires.1 in (c.requires.0, (Some has.0, has.1 ∙ (λ i. (0, Some has.0) ∷ sym (ap rest has.1) i)))
