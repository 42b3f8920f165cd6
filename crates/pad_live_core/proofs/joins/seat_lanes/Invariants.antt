use Rattle.std.specs.Prelude.{◌+◌, ◌≡◌, ◌≤◌, vec_capacity, vec_len}
use Rattle.turnstile.specs.Rules.{first_view}
use Rattle.turnstile.specs.Turns.{IsPassOf, view}
use Rattle.pad_live_core.specs.LaneJobs.{AreSeated}
use Rattle.pad_live_core.proofs.joins.seat_lanes.Given as goal

abbrev pub invariant-loop-i : goal.invariant-loop-i
invariant-loop-i g l = record {
  pass : IsPassOf l.desk.turn l.first;
  first : view l.first ≡ record (first_view (view l.fn.first).origin) { seated = 1 + l.i };
  seats : AreSeated l.desk.turn 1 l.passes.items;
  len : vec_len l.passes ≡ l.i;
  room : l.count ≤ vec_capacity l.passes;
}
