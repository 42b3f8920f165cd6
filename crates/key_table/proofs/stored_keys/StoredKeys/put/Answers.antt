use Rattle.std.proofs.Common.{Some, refl, sym, ◌∙◌, ◌≡◌}
use Rattle.key_table.proofs.KeyStoreLemmas.{change_done, change_struck, shown_after, slot_for-below, slot_for-fits}
use Rattle.key_table.specs.KeyRows.{slot_for}
use Rattle.key_table.proofs.stored_keys.StoredKeys.put.Goals as goal

pub replace_row-requires-clause-slot : goal.replace_row-requires-clause-slot
replace_row-requires-clause-slot g c = slot_for-below c.self.inside.keys c.args.row.now.name c.in-Some.slot c.rows-rows.ensures.table (sym c.slot_for.ensures ∙ c.in-Some.is)

pub returns-in-Err-clause-work : goal.returns-in-Err-clause-work
returns-in-Err-clause-work g c =
    let at : slot_for c.args.row.now.name c.self.inside.keys ≡ Some c.in-Some.slot = sym c.slot_for.ensures ∙ c.in-Some.is in
    rw (sym c.self.view_is, at) (change_struck (record { size = c.changed_bytes_show_changed_rows.ensures.size; whole = c.changed_bytes_show_changed_rows.ensures.whole; torn = c.changed_bytes_show_changed_rows.ensures.torn }) (g.D.Disk.state c.args.disk.now) (g.D.Disk.state c.replace_row.new.disk) c.in-Some.slot (Some c.args.row.now) c.self.inside.keys c.self.inside.keys c.self.inside.store.bytes c.replace_row.new.store.bytes (rw (sym c.self.view_is) at c.requires) c.self.invariant.0
    (slot_for-fits c.self.inside.keys c.args.row.now c.in-Some.slot c.rows-rows.ensures.table c.replace_row.ensures.valid at) c.in-Err.fault (g.met.D.Disk.laws c.args.disk.now) c.in-Err.ensures.calls c.in-Err.ensures.torn c.in-Err.ensures.err refl)

pub invariant_of-self-2 : goal.invariant_of-self-2
invariant_of-self-2 g c =
    let at : slot_for c.args.row.now.name c.self.inside.keys ≡ Some c.in-Some.slot = sym c.slot_for.ensures ∙ c.in-Some.is in (
      shown_after (record { size = c.changed_bytes_show_changed_rows.ensures.size; whole = c.changed_bytes_show_changed_rows.ensures.whole; torn = c.changed_bytes_show_changed_rows.ensures.torn }) (g.D.Disk.state c.args.disk.now) (g.D.Disk.state c.replace_row.new.disk) c.in-Some.slot (Some c.args.row.now) c.self.inside.keys c.keep.new.self c.self.inside.store.bytes c.replace_row.new.store.bytes (rw (sym c.self.view_is) at c.requires) c.self.invariant.0
          (slot_for-fits c.self.inside.keys c.args.row.now c.in-Some.slot c.rows-rows.ensures.table c.replace_row.ensures.valid at) c.in-Ok.ensures.ok c.keep.ensures,
      c.self.invariant.1,
    )

pub returns-clause-work : goal.returns-clause-work
returns-clause-work g c =
    let at : slot_for c.args.row.now.name c.self.inside.keys ≡ Some c.in-Some.slot = sym c.slot_for.ensures ∙ c.in-Some.is in
    rw (sym c.self.view_is, at) (change_done (record { size = c.changed_bytes_show_changed_rows.ensures.size; whole = c.changed_bytes_show_changed_rows.ensures.whole; torn = c.changed_bytes_show_changed_rows.ensures.torn }) (g.D.Disk.state c.args.disk.now) (g.D.Disk.state c.replace_row.new.disk) c.in-Some.slot (Some c.args.row.now) c.self.inside.keys c.keep.new.self c.self.inside.store.bytes c.replace_row.new.store.bytes (rw (sym c.self.view_is) at c.requires) c.self.invariant.0
    (slot_for-fits c.self.inside.keys c.args.row.now c.in-Some.slot c.rows-rows.ensures.table c.replace_row.ensures.valid at) c.in-Ok.ensures.calls c.in-Ok.ensures.ok c.in-Ok.ensures.in_step c.keep.ensures)
