use Rattle.std.proofs.Common.{take, ◌≡◌}
use Rattle.key_table.specs.SlotIndexes.{HasPlaces}
use Rattle.key_table.proofs.slot_index.number_rows.Given as goal

abbrev pub invariant-loop-place : goal.invariant-loop-place
invariant-loop-place l = record {
  first : l.index.first ≡ l.fn.index.first;
  next : l.index.next ≡ l.fn.index.next;
  places : HasPlaces l.index.places 0 (take l.place l.rows);
}
