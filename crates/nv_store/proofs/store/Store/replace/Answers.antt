use Rattle.std.proofs.Common.{◌∙◌, sym, ap, arith, List, ℕ, [], ◌∷◌}
use Rattle.disk_core.specs.DiskStates.{splice}
use Rattle.std.proofs.lemmas.List.{with_items_is}
use Rattle.nv_store.specs.Stores.{Stored}
use Rattle.nv_store.proofs.ReplaceLemmas.{on_err, torn, done}
use Rattle.nv_store.proofs.store.Store.replace.Goals as goal

pub returns-in_err-write_synced-2-clause-torn : goal.returns-in_err-write_synced-2-clause-torn
returns-in_err-write_synced-2-clause-torn g c =
    on_err _ _ (torn c.self.inside.settled c.self.inside.bytes.items c.args.self.now.bytes (ap (λ (stored : Stored). stored.bytes) c.self.view_is) c.args.slot c.half_place-at.result c.spare_half-spare.result c.args.cell.now c.deref.result.now c.deref.ensures.value c.spare_half-spare.ensures c.half_place-at.ensures
    (g.D.Disk.state c.args.disk.now) (g.D.Disk.state c.write_synced.new.disk) (g.D.Disk.state c.write_synced-2.new.disk)
    c.requires.in_step c.in_ok-write_synced.ensures.written c.in_ok-write_synced.ensures.durable c.write_synced-2.ensures.image c.write_synced-2.ensures.calls.tells)

pub returns-clause-in_step : goal.returns-clause-in_step
returns-clause-in_step g c =
    done c.self.inside.settled c.self.inside.bytes.items c.args.self.now.bytes (ap (λ (stored : Stored). stored.bytes) c.self.view_is) c.args.slot c.half_place-at.result c.spare_half-spare.result c.args.cell.now c.deref.result.now c.deref.ensures.value c.spare_half-spare.ensures c.half_place-at.ensures
    (g.D.Disk.state c.args.disk.now) (g.D.Disk.state c.write_synced.new.disk) (g.D.Disk.state c.write_synced-2.new.disk)
    c.requires.in_step c.in_ok-write_synced.ensures.written c.in_ok-write_synced.ensures.durable
    _ c.in_ok-write_synced-2.ensures.written c.in_ok-write_synced-2.ensures.durable
    (with_items_is c.self.inside.bytes c.put_cell.new.bytes (omega arith) ∙ c.put_cell.ensures ∙ ap (λ (l : List ℕ). splice (splice l c.half_place-at.result c.args.cell.now) c.args.slot (c.spare_half-spare.result ∷ [])) (c.deref_mut.ensures.value ∙ sym c.deref.ensures.value))
