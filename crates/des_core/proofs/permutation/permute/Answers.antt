use Rattle.std.proofs.Common.{refl, arith}
use Rattle.des_core.specs.Bits.{bits_of}
use Rattle.des_core.specs.Des.{bits_by_table}
use Rattle.des_core.proofs.TableLemmas.{permute_step}
use Rattle.des_core.proofs.permutation.permute.Goals as goal

pub loop-place-init : goal.loop-place-init
unfolding bits_of bits_by_table
loop-place-init c = record { bits = refl; bound = omega arith }

pub loop-place-preserved : goal.loop-place-preserved
loop-place-preserved c =
    let l = c.loop-place in
    let step =
    permute_step c.args.width c.args.word c.args.table.now l.place-index l.out c.requires.places (omega arith) c.requires.few
    l.invariant.bits l.invariant.bound in
    record { bits = step.0; bound = step.1 }
