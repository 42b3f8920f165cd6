use Rattle.std.proofs.Common.{ap, arith, drop, length, slice_range, subst, sym, take, List, ℕ, ◌+◌, ◌-◌, ◌≡◌, ◌≤◌, ◌∙◌}
use Rattle.std.proofs.lemmas.List.{length-take-le, with_items_is}
use Rattle.script_lang.proofs.BufferLemmas.{grown, not_grown, room_size}
use Rattle.script_lang.proofs.line_buffer.LineBuffer.take_piece.Goals as goal
use Rattle.script_lang.specs.Gathering.{Grows}
use borrow.Rule.Slice.PartMut.{same_len_mid}

pub returns-in-Ok-eq0-clause-end : goal.returns-in-Ok-eq0-clause-end
returns-in-Ok-eq0-clause-end g c = λ is.
    let kept = c.self.inside.end - c.self.inside.start in
    let xs = c.deref_mut.result.now in
    let taken = c.in-Ok-eq0.ensures.taken in
    let front : take kept c.deref_mut.result.now ≡ c.args.self.now = ap (take kept) c.deref_mut.ensures.value ∙ c.move_to_front.ensures.front ∙ c.self.view_is in
    let size : length c.deref_mut.result.now ≡ 8192 = ap length c.deref_mut.ensures.value ∙ c.move_to_front.ensures.same_len ∙ c.self.invariant.2 in
    let within : kept ≤ length c.deref_mut.result.now = omega (arith, size, c.self.invariant.1) in
    let few : kept ≤ 4096 = omega (arith, c.requires.few, ap length front, length-take-le kept xs within) in
    let room : length (take (kept + 4096 - kept) (drop kept c.deref_mut.result.now)) ≡ 4096 = room_size xs kept 4096 (omega (arith, few, size)) in
    let items = with_items_is c.move_to_front.new.bytes _ (same_len_mid kept (kept + 4096 - kept) xs c.take.new.piece taken.same_len ∙ c.deref_mut.ensures.len) in
    (ap (λ (bytes : List ℕ). slice_range bytes 0 kept) items ∙ not_grown c.args.self.now xs c.take.new.piece kept (kept + 4096 - kept) front within, taken.ends c.in-Ok-eq0.field-0-test (omega (arith, room)))

pub returns-in-Ok-clause-grows : goal.returns-in-Ok-clause-grows
returns-in-Ok-clause-grows g c =
    let kept = c.self.inside.end - c.self.inside.start in
    let xs = c.deref_mut.result.now in
    let taken = c.in-Ok.ensures.taken in
    let front : take kept c.deref_mut.result.now ≡ c.args.self.now = ap (take kept) c.deref_mut.ensures.value ∙ c.move_to_front.ensures.front ∙ c.self.view_is in
    let size : length c.deref_mut.result.now ≡ 8192 = ap length c.deref_mut.ensures.value ∙ c.move_to_front.ensures.same_len ∙ c.self.invariant.2 in
    let within : kept ≤ length c.deref_mut.result.now = omega (arith, size, c.self.invariant.1) in
    let few : kept ≤ 4096 = omega (arith, c.requires.few, ap length front, length-take-le kept xs within) in
    let items = with_items_is c.move_to_front.new.bytes _ (same_len_mid kept (kept + 4096 - kept) xs c.take.new.piece taken.same_len ∙ c.deref_mut.ensures.len) in
    subst (λ (bytes : List ℕ). Grows (g.S.Source.left c.args.source.now) (g.S.Source.left c.take.new.self) c.args.self.now (slice_range bytes 0 (kept + c.in-Ok.count))) (sym items)
    (grown _ _ c.args.self.now xs _ c.take.new.piece kept (kept + 4096 - kept) c.in-Ok.count front within (room_size xs kept 4096 (omega (arith, few, size))) taken)
