use Rattle.std.proofs.Common.{◌≡◌, ◌++◌, drop, length, take}
use Rattle.pad_words.specs.Bytes.{exclusive_or}
use Rattle.pad_words.proofs.bytes.exclusive_or.Given as goal

abbrev pub invariant-loop-i : goal.invariant-loop-i
invariant-loop-i l = record {
  joined : take l.i l.bytes ++ exclusive_or (drop l.i l.bytes) (drop l.i l.fn.other) ≡ exclusive_or l.fn.bytes l.fn.other;
  long : length l.bytes ≡ length l.fn.other;
}
