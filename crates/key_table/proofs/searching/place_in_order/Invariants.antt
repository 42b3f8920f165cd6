use Rattle.std.proofs.Common.{drop, length, ◌+◌, ◌-◌, ◌≡◌, ◌≤◌}
use Rattle.key_table.specs.Places.{place_in_order}
use Rattle.key_table.proofs.searching.place_in_order.Given as goal

abbrev pub invariant-loop-place : goal.invariant-loop-place
invariant-loop-place l = record {
  place : place_in_order l.slot l.rows ≡ l.place + place_in_order l.slot (drop l.place l.rows);
  within : l.place ≤ length l.rows;
}

abbrev pub decreases-loop-place : goal.decreases-loop-place
decreases-loop-place l = length l.rows - l.place
