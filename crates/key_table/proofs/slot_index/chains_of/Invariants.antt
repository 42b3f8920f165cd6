use Rattle.std.proofs.Common.{drop, length, ◌≤◌}
use Rattle.key_table.specs.SlotIndexes.{LeadsTo}
use Rattle.key_table.proofs.slot_index.chains_of.Given as goal

abbrev pub invariant-loop-place : goal.invariant-loop-place
invariant-loop-place l = record {
  leads : LeadsTo l.index l.place (drop l.place l.rows);
  within : l.place ≤ length l.rows;
}

abbrev pub decreases-loop-place : goal.decreases-loop-place
decreases-loop-place l = l.place
