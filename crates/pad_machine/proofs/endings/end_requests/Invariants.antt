use Rattle.std.proofs.Common.{length, ◌+◌, ◌++◌, ◌≡◌, ◌≤◌}
use Rattle.pad_machine.specs.Endings.{all_ended, endings_told, meant_in}
use Rattle.pad_machine.proofs.endings.end_requests.Given as goal

abbrev pub invariant-loop-id : goal.invariant-loop-id
invariant-loop-id l = record {
  ended : all_ended l.ending l.refusal l.requests.rows ≡ all_ended l.ending l.refusal l.fn.requests.rows;
  told : l.out.items ++ endings_told l.ending l.refusal l.requests.rows ≡ l.fn.out.items ++ endings_told l.ending l.refusal l.fn.requests.rows;
  room : length (meant_in l.ending l.requests.rows) ≤ l.out.spare;
  spare : l.fn.out.spare + length (meant_in l.ending l.requests.rows) ≤ l.out.spare + length (meant_in l.ending l.fn.requests.rows);
}

abbrev pub decreases-loop-id : goal.decreases-loop-id
decreases-loop-id l = length (meant_in l.ending l.requests.rows)
