use Rattle.std.proofs.Common.{◌≡◌, ◌*◌, ◌++◌, drop, length}
use Rattle.pad_words.specs.Bytes.{packed}
use Rattle.secure_entry.proofs.part.packed.Given as goal

abbrev pub invariant-loop-i : goal.invariant-loop-i
invariant-loop-i l = record {
  count : length l.bytes.items ≡ l.i;
  joined : l.bytes.items ++ packed (drop (2 * l.i) l.nibbles) ≡ packed l.nibbles;
}
