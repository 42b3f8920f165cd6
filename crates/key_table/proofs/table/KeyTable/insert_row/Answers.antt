use Rattle.std.proofs.Common.{arith, sym, ◌∙◌}
use Rattle.key_table.proofs.ChainLemmas.{leads-insert}
use Rattle.key_table.proofs.table.KeyTable.insert_row.Goals as goal

pub invariant_of-self : goal.invariant_of-self
invariant_of-self c =
    let table = rw (sym c.self.view_is) at c.requires.table in
    let places = rw (c.as_slice.ensures.value, c.in-Ok.ensures.items) at c.number_rows.ensures.places in (
      rw c.in-Ok.ensures.items table,
      omega (arith, c.self.invariant.1, c.in-Ok.ensures.capacity),
      rw c.in-Ok.ensures.items (leads-insert c.self.inside.rows.items c.args.place (c.args.place, c.args.row) table c.self.inside.index (record { first = omega arith; next = omega arith; places = omega arith }) c.chain_of-chain.result c.chain_of-chain.ensures.chain c.slot_before-before.result (rw (sym c.self.view_is) at c.slot_before-before.ensures.last) c.number_rows.new.index c.self.invariant.2
          (c.number_rows.ensures.first ∙ c.enter_chain.ensures.first) (c.number_rows.ensures.next ∙ c.enter_chain.ensures.next) places),
    )
