use Rattle.std.proofs.Common.{◌≡◌, length, take}
use Rattle.pin_buffer.specs.PinMemory.{padded, values_of}
use Rattle.pin_buffer.proofs.buffer.put.Given as goal

abbrev pub invariant-loop-i : goal.invariant-loop-i
invariant-loop-i l = record {
  long : length l.places ≡ 16;
  front : take l.i (values_of l.places) ≡ take l.i (padded l.digits);
}
