use Rattle.std.proofs.Common.{sym, ap, ◌∙◌}
use Rattle.turnstile.proofs.turn.Turn.part.Goals as goal

pub part_in_slot-part-requires-clause-held : goal.part_in_slot-part-requires-clause-held
part_in_slot-part-requires-clause-held g c = let b = c.begin.ensures.begun in
    (b.held, ap (λ m. m.1) b.begun, b.fits.0, (b.fits.1.0, b.fits.1.1 ∙ sym (ap (λ m. m.0.origin) b.begun)))
