use Rattle.std.proofs.Common.{ap, arith, subst, sym, ◌<◌, ◌∙◌, ◌≡◌}
use Rattle.std.specs.Prelude.{IfSome, Option, slice_index, ℕ}
use Rattle.key_table.proofs.ChainLemmas.{last_below}
use Rattle.key_table.proofs.SlotIndexLemmas.{nears_ends, nears_more, nears_over, nears_there}
use Rattle.key_table.proofs.table.KeyTable.slot_before.Goals as goal

pub returns-then-from-place-clause-last : goal.returns-then-from-place-clause-last
returns-then-from-place-clause-last c =
    let here : c.from.result ≡ slice_index c.self.inside.index.places c.loop-slot.slot = c.from.ensures ∙ ap (λ (n : ℕ). slice_index c.self.inside.index.places n) c.from-at.ensures in
    rw (sym c.self.view_is) (nears_there c.args.chain c.args.place c.self.inside.index c.self.inside.rows.items c.loop-slot.slot c.loop-slot.before c.self.invariant.0 c.self.invariant.2 c.loop-slot.invariant c.loop-slot-test.true (omega (arith, here, c.if-from-place.true)))

pub returns-then-from-place-clause-below : goal.returns-then-from-place-clause-below
returns-then-from-place-clause-below c =
    let here : c.from.result ≡ slice_index c.self.inside.index.places c.loop-slot.slot = c.from.ensures ∙ ap (λ (n : ℕ). slice_index c.self.inside.index.places n) c.from-at.ensures in
    subst (λ (o : Option ℕ). IfSome o (λ last. last < 64)) (sym (nears_there c.args.chain c.args.place c.self.inside.index c.self.inside.rows.items c.loop-slot.slot c.loop-slot.before c.self.invariant.0 c.self.invariant.2 c.loop-slot.invariant c.loop-slot-test.true (omega (arith, here, c.if-from-place.true))))
    (last_below c.args.chain c.args.place c.self.inside.rows.items c.self.invariant.0)

pub loop-slot-smaller : goal.loop-slot-smaller
loop-slot-smaller c = rw c.from-at.ensures (omega (arith, nears_over c.args.chain c.args.place c.self.inside.index c.self.inside.rows.items c.loop-slot.slot c.loop-slot.before c.self.invariant.0 c.self.invariant.2 c.loop-slot.invariant c.loop-slot-test.true, c.loop-slot-test.true))

pub loop-slot-preserved : goal.loop-slot-preserved
loop-slot-preserved c =
    let here : c.from.result ≡ slice_index c.self.inside.index.places c.loop-slot.slot = c.from.ensures ∙ ap (λ (n : ℕ). slice_index c.self.inside.index.places n) c.from-at.ensures in
    rw c.from-at.ensures (nears_more c.args.chain c.args.place c.self.inside.index c.self.inside.rows.items c.loop-slot.slot c.loop-slot.before c.self.invariant.0 c.self.invariant.2 c.loop-slot.invariant c.loop-slot-test.true (omega (arith, here, c.if-from-place.false)))

pub returns-clause-last : goal.returns-clause-last
returns-clause-last c = rw (sym c.self.view_is) (nears_ends c.args.chain c.args.place c.self.inside.rows.items c.loop-slot.slot c.loop-slot.before c.self.invariant.0 c.loop-slot.invariant c.loop-slot-test.false)

pub returns-clause-below : goal.returns-clause-below
returns-clause-below c = subst (λ (o : Option ℕ). IfSome o (λ last. last < 64)) (sym (nears_ends c.args.chain c.args.place c.self.inside.rows.items c.loop-slot.slot c.loop-slot.before c.self.invariant.0 c.loop-slot.invariant c.loop-slot-test.false))
    (last_below c.args.chain c.args.place c.self.inside.rows.items c.self.invariant.0)
