use Rattle.std.proofs.Common.{ℕ, ◌≡◌, ◌<◌}
use Rattle.std.specs.Prelude.{Some, false}
use Rattle.request_queue.specs.Nodes.{In, node_at}
use Rattle.request_queue.specs.Requests.{is_due}
use Rattle.request_queue.specs.declared.nodes.Node.{Node}
use Rattle.request_queue.proofs.lookups.due_from.Given as goal

abbrev pub invariant-loop : goal.invariant-loop
invariant-loop g l = record {
  inside : 0 < l.at → In (node_at l.nodes l.places) 0 l.at;
  grows : 0 < l.at → l.counter < l.at;
  miss : (k : ℕ) (n : Node g.row.C.Denot) → node_at l.nodes l.places k ≡ Some n → (0 < l.at → k < l.at) → is_due l.now n.request ≡ false;
}
