use Rattle.std.proofs.Common.{◌≡◌, ◌∙◌, ap, refl, ◌+◌, arith, length, ℕ}
use Rattle.std.specs.Prelude.{slice_range}
use Rattle.disk_core.specs.Disks.{Reads}
use Rattle.disk_core.specs.DiskMemories.{memory_state}
use Rattle.disk_core.specs.MemoryDisks.{memory_of}
use Rattle.disk_core.proofs.MemorySteps.{fault_is, read_failed, read_given, moved}
use Rattle.disk_core.proofs.memory_disk.MemDiskDisk.read.Goals as goal

pub returns-in_err-call-clause-step : goal.returns-in_err-call-clause-step
returns-in_err-call-clause-step c =
    moved (λ e. Reads c.args.at c.args.buf.now (memory_state (memory_of c.args.self.now)) (memory_state (memory_of c.call.new.self)) e) _ _ (fault_is c.from_residual.result c.in_err-call.field-0.0 c.from_residual.ensures.1)
    (read_failed (memory_state (memory_of c.args.self.now)) (memory_state (memory_of c.call.new.self)) _ _ refl refl _ c.in_err-call.ensures.calls c.in_err-call.ensures.step c.args.at c.args.buf.now (λ none. cc))

pub returns-clause-step : goal.returns-clause-step
returns-clause-step c = read_given (memory_state (memory_of c.args.self.now)) (memory_state (memory_of c.call.new.self)) _ _ refl refl _ c.in_ok-call.ensures.calls c.in_ok-call.ensures.step c.args.at c.read_from.new.buf
    (c.read_from.ensures ∙ (let e : c.args.at + length c.args.buf.now ≡ c.args.at + length c.read_from.new.buf = omega (arith, c.read_from.auto.buf) in ap (λ (n : ℕ). slice_range c.call.new.self.bytes c.args.at n) e))
