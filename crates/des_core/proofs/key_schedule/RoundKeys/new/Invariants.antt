use Rattle.std.proofs.Common.{◌≡◌, length, map, take}
use Rattle.std.specs.List.{All}
use Rattle.des_core.specs.Bits.{bits_of}
use Rattle.des_core.specs.KeptKeys.{IsKept, key_bits}
use Rattle.des_core.proofs.key_schedule.RoundKeys.new.Given as goal

abbrev pub invariant-loop-i : goal.invariant-loop-i
invariant-loop-i l = record {
  keys : map key_bits (take l.i l.kept) ≡ map (bits_of 48) (take l.i l.keys);
  kept : All IsKept (take l.i l.kept);
  sixteen : length l.kept ≡ 16;
}
