use Rattle.std.proofs.Common.{◌≡◌, ◌∙◌, sym, refl, true, false}
use Rattle.disk_core.proofs.CrashImages.{clean_wider, only_clean}
use Rattle.disk_core.proofs.memory_disk.MemDiskPowerDisk.on.Goals as goal

pub returns-then-self-clause-starts : goal.returns-then-self-clause-starts
returns-then-self-clause-starts c =
    let d = c.args.self.now in
    record {
      counts = record { faults = refl; cuts = refl };
      tells = refl;
      armed = refl;
      off = refl;
      image = λ x image. clean_wider d.bytes d.dirty c.sync_all.new.dirty x c.sync_all.ensures.dirty image;
      stable = λ _. only_clean d.bytes c.sync_all.new.dirty _ c.sync_all.ensures.dirty (d.dirty_size ∙ sym d.bytes_size);
      image_on = λ on. absurd (let e : true ≡ false = sym c.if-self.true ∙ on in cc);
      content = λ on. absurd (let e : true ≡ false = sym c.if-self.true ∙ on in cc);
    }
