use Rattle.std.proofs.Common.{take, ◌*◌, ◌≡◌, ◌≤◌}
use Rattle.std.specs.List.{sum}
use Rattle.key_table.proofs.slot_index.sum_of.Given as goal

abbrev pub invariant-loop-byte : goal.invariant-loop-byte
invariant-loop-byte l = record {
  sum : l.total ≡ sum (take l.byte-index l.text);
  small : l.total ≤ 255 * l.byte-index;
}
