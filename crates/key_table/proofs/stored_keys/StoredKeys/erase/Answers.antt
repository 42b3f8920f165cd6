use Rattle.std.proofs.Common.{None, refl, sym}
use Rattle.key_table.proofs.KeyStoreLemmas.{change_done, change_struck, emptied-fits, shown_after}
use Rattle.key_table.proofs.stored_keys.StoredKeys.erase.Goals as goal

pub returns-in-Err-clause-work : goal.returns-in-Err-clause-work
returns-in-Err-clause-work g c =
    rw (sym c.self.view_is) (change_struck (record { size = c.changed_bytes_show_changed_rows.ensures.size; whole = c.changed_bytes_show_changed_rows.ensures.whole; torn = c.changed_bytes_show_changed_rows.ensures.torn }) (g.D.Disk.state c.args.disk.now) (g.D.Disk.state c.replace_row.new.disk) c.args.slot None c.self.inside.keys c.self.inside.keys c.self.inside.store.bytes c.replace_row.new.store.bytes (rw (sym c.self.view_is) at c.requires.in_step) c.self.invariant.0
    (emptied-fits c.self.inside.keys c.args.slot c.rows-rows.ensures.table c.requires.below) c.in-Err.fault (g.met.D.Disk.laws c.args.disk.now) c.in-Err.ensures.calls c.in-Err.ensures.torn c.in-Err.ensures.err refl)

pub invariant_of-self-2 : goal.invariant_of-self-2
invariant_of-self-2 g c = (
  shown_after (record { size = c.changed_bytes_show_changed_rows.ensures.size; whole = c.changed_bytes_show_changed_rows.ensures.whole; torn = c.changed_bytes_show_changed_rows.ensures.torn }) (g.D.Disk.state c.args.disk.now) (g.D.Disk.state c.replace_row.new.disk) c.args.slot None c.self.inside.keys c.erase.new.self c.self.inside.store.bytes c.replace_row.new.store.bytes (rw (sym c.self.view_is) at c.requires.in_step) c.self.invariant.0
      (emptied-fits c.self.inside.keys c.args.slot c.rows-rows.ensures.table c.requires.below) c.in-Ok.ensures.ok c.erase.ensures,
  c.self.invariant.1,
)

pub returns-clause-work : goal.returns-clause-work
returns-clause-work g c =
    rw (sym c.self.view_is) (change_done (record { size = c.changed_bytes_show_changed_rows.ensures.size; whole = c.changed_bytes_show_changed_rows.ensures.whole; torn = c.changed_bytes_show_changed_rows.ensures.torn }) (g.D.Disk.state c.args.disk.now) (g.D.Disk.state c.replace_row.new.disk) c.args.slot None c.self.inside.keys c.erase.new.self c.self.inside.store.bytes c.replace_row.new.store.bytes (rw (sym c.self.view_is) at c.requires.in_step) c.self.invariant.0
    (emptied-fits c.self.inside.keys c.args.slot c.rows-rows.ensures.table c.requires.below) c.in-Ok.ensures.calls c.in-Ok.ensures.ok c.in-Ok.ensures.in_step c.erase.ensures)
