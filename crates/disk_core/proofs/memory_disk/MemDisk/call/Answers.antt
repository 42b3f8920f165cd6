use Rattle.std.proofs.Common.{◌∙◌, sym, arith}
use Rattle.disk_core.specs.declared.disk.DiskError.TheVariants.{Failed, Off}
use Rattle.disk_core.proofs.MemorySteps.{unwritten, written, cut}
use Rattle.disk_core.proofs.memory_disk.MemDisk.call.Goals as goal

pub returns-then-self-clause-step : goal.returns-then-self-clause-step
returns-then-self-clause-step c =
    let d = c.args.self.now in
    unwritten d.bytes c.args.part.now d.dirty c.args.at (omega (arith, d.bytes_size)) (d.dirty_size ∙ sym d.bytes_size) _ _ _ _ _ _ _ _ _ _ Off

pub returns-in-None-clause-step : goal.returns-in-None-clause-step
returns-in-None-clause-step c =
    let d = c.args.self.now in
    written d.bytes c.args.part.now d.dirty c.args.at (omega (arith, d.bytes_size)) (d.dirty_size ∙ sym d.bytes_size) _ _ _ _ _ _ _ _ _ _ _ _ c.if-self.false c.write_into.ensures.bytes c.write_into.ensures.dirty

pub returns-in-Some-Fail-clause-step : goal.returns-in-Some-Fail-clause-step
returns-in-Some-Fail-clause-step c =
    let d = c.args.self.now in
    unwritten d.bytes c.args.part.now d.dirty c.args.at (omega (arith, d.bytes_size)) (d.dirty_size ∙ sym d.bytes_size) _ _ _ _ _ _ _ _ _ _ Failed

pub returns-in-Some-Cut-clause-step : goal.returns-in-Some-Cut-clause-step
returns-in-Some-Cut-clause-step c =
    let d = c.args.self.now in
    cut d.bytes c.args.part.now d.dirty c.args.at (omega (arith, d.bytes_size)) (d.dirty_size ∙ sym d.bytes_size) _ _ _ _ _ _ _ _ _ _ c.in-Some-Cut.keep d.synced _ _ _ _ c.if-self.false c.write_into-in-Some-Cut.ensures.bytes c.write_into-in-Some-Cut.ensures.dirty
    (c.write_into-in-Some-Cut.auto.dirty ∙ d.dirty_size ∙ sym d.bytes_size ∙ sym c.write_into-in-Some-Cut.auto.bytes) c.settle.auto.bytes c.settle.ensures c.sync_all.ensures.dirty
