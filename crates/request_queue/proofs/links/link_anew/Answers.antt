use Rattle.request_queue.specs.Nodes.{node_at}
use Rattle.request_queue.proofs.RelinkLemmas.{In-kept, Relinked-from}
use Rattle.request_queue.proofs.links.link_anew.Goals as goal

pub set_prev-requires-clause-inside : goal.set_prev-requires-clause-inside
set_prev-requires-clause-inside g c = λ pos. In-kept (node_at c.args.nodes.now c.args.places.now) (node_at c.set_next.new.nodes c.args.places.now) c.args.chain c.args.links.now.behind (c.set_next.ensures.set.requests c.args.links.now.behind) (c.requires.behind pos)

pub returns-clause-linked : goal.returns-clause-linked
returns-clause-linked g c = Relinked-from (node_at c.args.nodes.now c.args.places.now) (node_at c.set_next.new.nodes c.args.places.now) (node_at c.set_prev.new.nodes c.args.places.now) c.args.heads.now c.set_next.new.heads c.args.tails.now c.set_prev.new.tails c.args.chain c.args.links.now c.set_next.ensures.set c.set_prev.ensures.set
