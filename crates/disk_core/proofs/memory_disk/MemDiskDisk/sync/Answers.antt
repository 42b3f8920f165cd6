use Rattle.std.proofs.Common.{◌∙◌, sym, refl}
use Rattle.disk_core.specs.Disks.{Syncs}
use Rattle.disk_core.specs.DiskMemories.{memory_state}
use Rattle.disk_core.specs.MemoryDisks.{memory_of}
use Rattle.disk_core.proofs.MemorySteps.{fault_is, sync_failed, synced, moved}
use Rattle.disk_core.proofs.CrashImages.{clean_wider, only_clean}
use Rattle.disk_core.proofs.memory_disk.MemDiskDisk.sync.Goals as goal

pub returns-in_err-call-clause-step : goal.returns-in_err-call-clause-step
returns-in_err-call-clause-step c =
    moved (λ e. Syncs (memory_state (memory_of c.args.self.now)) (memory_state (memory_of c.call.new.self)) e) _ _ (fault_is c.from_residual.result c.in_err-call.field-0.0 c.from_residual.ensures.1)
    (sync_failed (memory_state (memory_of c.args.self.now)) (memory_state (memory_of c.call.new.self)) _ _ refl refl _ c.in_err-call.ensures.calls c.in_err-call.ensures.step (λ none. cc))

pub returns-clause-step : goal.returns-clause-step
returns-clause-step c =
    let t = c.call.new.self in
    synced (memory_state (memory_of c.args.self.now)) (memory_state (memory_of c.call.new.self)) _ _ refl refl _ c.in_ok-call.ensures.calls c.in_ok-call.ensures.step _ refl refl refl
    (λ d image. clean_wider t.bytes t.dirty c.sync_all.new.dirty d c.sync_all.ensures.dirty image)
    (only_clean t.bytes c.sync_all.new.dirty _ c.sync_all.ensures.dirty (t.dirty_size ∙ sym t.bytes_size))
