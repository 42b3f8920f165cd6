use Rattle.entry_core.specs.Presses.{EndsWith, press_seen}
use Rattle.std.proofs.Common.{ap, subst, sym, ◌∙◌}
use Rattle.std.specs.Prelude.{List, length, ℕ}
use Rattle.pad_machine.proofs.parts.Parts.press.Goals as goal

pub end_entry-requires-clause-enough : goal.end_entry-requires-clause-enough
end_entry-requires-clause-enough g c =
    let ended = ap (λ (digits : List ℕ). press_seen c.args.current.entry (length digits) c.args.key) (sym c.items.ensures.items) ∙ sym c.seen-seen.ensures ∙ c.in-Ended.is in
    subst (λ (digits : List ℕ). EndsWith c.args.current.entry c.in-Ended.completion digits) (sym c.enter.ensures.digits)
    (c.ends_with_enough.ensures c.args.current.entry c.self.inside.digits c.args.key c.in-Ended.shown c.in-Ended.completion ended)
