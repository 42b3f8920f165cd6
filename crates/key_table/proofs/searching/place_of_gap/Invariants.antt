use Rattle.std.proofs.Common.{drop, length, ◌-◌, ◌≡◌, ◌≤◌}
use Rattle.key_table.specs.Places.{first_gap}
use Rattle.key_table.proofs.searching.place_of_gap.Given as goal

abbrev pub invariant-loop-place : goal.invariant-loop-place
invariant-loop-place l = record {
  gap : first_gap 0 l.rows ≡ first_gap l.place (drop l.place l.rows);
  within : l.place ≤ length l.rows;
}

abbrev pub decreases-loop-place : goal.decreases-loop-place
decreases-loop-place l = length l.rows - l.place
