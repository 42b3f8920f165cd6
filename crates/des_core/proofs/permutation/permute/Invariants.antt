use Rattle.std.proofs.Common.{◌≡◌, ◌^◌, ◌<◌, take}
use Rattle.des_core.specs.Bits.{bits_of}
use Rattle.des_core.specs.Des.{bits_by_table}
use Rattle.des_core.proofs.permutation.permute.Given as goal

abbrev pub invariant-loop-place : goal.invariant-loop-place
invariant-loop-place l = record {
  bits : bits_of l.place-index l.out ≡ bits_by_table (take l.place-index l.table) (bits_of l.width l.word);
  bound : l.out < 2 ^ l.place-index;
}
