use Rattle.std.proofs.Common.{ap, arith, sym, ◌∙◌, ◌≡◌}
use Rattle.key_table.proofs.ChainLemmas.{element_is, is_table-removed, leads-remove}
use Rattle.key_table.proofs.SlotIndexLemmas.{slot_below}
use Rattle.key_table.proofs.TableLemmas.{SlotRow}
use Rattle.key_table.specs.SlotIndexes.{chain_of}
use Rattle.key_table.specs.declared.slot_index.SlotIndex.{SlotIndex}
use Rattle.key_table.proofs.table.KeyTable.take_row.Goals as goal

pub leave_chain-requires-clause-slot : goal.leave_chain-requires-clause-slot
leave_chain-requires-clause-slot c = slot_below c.args.place c.self.inside.rows.items c.index.result.now c.self.invariant.0 (rw (sym c.self.view_is) at c.requires) c.index.ensures

pub number_rows-requires : goal.number_rows-requires
number_rows-requires c = rw (c.as_slice.ensures.value, c.remove.ensures.items) (is_table-removed c.args.place c.self.inside.rows.items c.remove.result c.self.invariant.0 (rw (sym c.self.view_is) at c.requires) c.remove.ensures.value)

pub invariant_of-self : goal.invariant_of-self
invariant_of-self c =
    let within = rw (sym c.self.view_is) at c.requires in
    let same : c.index-2.result.now ≡ c.index.result.now = element_is c.self.inside.rows.items c.args.place c.index-2.result.now c.index.result.now within c.index-2.ensures c.index.ensures in
    let chain = c.chain_of-chain.ensures.chain ∙ ap (λ (row : SlotRow). chain_of row.1.name) same in
    let places = rw (c.as_slice.ensures.value, c.remove.ensures.items) at c.number_rows.ensures.places in (
      rw c.remove.ensures.items (is_table-removed c.args.place c.self.inside.rows.items c.remove.result c.self.invariant.0 within c.remove.ensures.value),
      rw c.remove.ensures.capacity c.self.invariant.1,
      rw c.remove.ensures.items (leads-remove c.self.inside.rows.items c.args.place c.index.result.now c.self.invariant.0 within c.index.ensures c.self.inside.index (record { first = omega arith; next = omega arith; places = omega arith }) c.chain_of-chain.result chain c.slot_before-before.result (rw (sym c.self.view_is) at c.slot_before-before.ensures.last) c.number_rows.new.index c.self.invariant.2
          (c.number_rows.ensures.first ∙ ap (λ (index : SlotIndex). index.first) c.leave_chain.ensures) (c.number_rows.ensures.next ∙ ap (λ (index : SlotIndex). index.next) c.leave_chain.ensures) places),
    )
