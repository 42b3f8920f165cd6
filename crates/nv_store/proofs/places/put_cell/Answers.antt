use Rattle.std.proofs.Common.{◌+◌, ◌-◌, List, ℕ, length, ◌∙◌, ap, arith, set}
use Rattle.disk_core.specs.DiskStates.{splice}
use Rattle.nv_store.proofs.PlaceLemmas.{put_mid-splice, set-splice, length-splice}
use Rattle.nv_store.proofs.places.put_cell.Goals as goal

pub returns : goal.returns
returns c =
    let after = c.copy_from_slice.ensures.after in
    let same = put_mid-splice c.args.at (c.args.at + 96 - c.args.at) c.args.bytes.now c.copy_from_slice.new.self (omega (arith, ap length after)) in
    let long = length-splice c.args.bytes.now c.args.at c.args.cell.now (omega arith) in
    ap (λ (l : List ℕ). set l c.args.slot c.args.selector) (same ∙ ap (λ (l : List ℕ). splice c.args.bytes.now c.args.at l) after)
    ∙ set-splice (splice c.args.bytes.now c.args.at c.args.cell.now) c.args.slot c.args.selector (omega (arith, long))
