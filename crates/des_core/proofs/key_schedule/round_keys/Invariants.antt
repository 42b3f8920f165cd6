use Rattle.std.proofs.Common.{◌≡◌, ◌^◌, ◌<◌, ◌++◌, map, take, drop, length}
use Rattle.des_core.specs.Bits.{bits_of}
use Rattle.des_core.specs.KeyTables.{left_shifts}
use Rattle.des_core.specs.Des.{round_keys_from, round_keys}
use Rattle.des_core.proofs.key_schedule.round_keys.Given as goal

abbrev pub invariant-loop-i : goal.invariant-loop-i
invariant-loop-i l = record {
  keys : map (bits_of 48) (take l.i l.keys) ++ round_keys_from (drop l.i left_shifts) (bits_of 28 l.c) (bits_of 28 l.d)
      ≡ round_keys (bits_of 64 l.key);
  sixteen : length l.keys ≡ 16;
  c_small : l.c < 2 ^ 28;
  d_small : l.d < 2 ^ 28;
}
