use Rattle.request_queue.specs.Nodes.{node_at}
use Rattle.request_queue.proofs.RelinkLemmas.{BothLinked-from, In-kept}
use Rattle.request_queue.proofs.links.link_both.Goals as goal

pub link_anew-requires-2-clause-before : goal.link_anew-requires-2-clause-before
link_anew-requires-2-clause-before g c = λ pos. In-kept (node_at c.args.nodes.now c.args.places.now) (node_at c.link_anew.new.nodes c.args.places.now) c.args.chain c.args.own.now.before (c.link_anew.ensures.linked.requests c.args.own.now.before) (c.requires.own_before pos)

pub link_anew-requires-2-clause-behind : goal.link_anew-requires-2-clause-behind
link_anew-requires-2-clause-behind g c = λ pos. In-kept (node_at c.args.nodes.now c.args.places.now) (node_at c.link_anew.new.nodes c.args.places.now) c.args.chain c.args.own.now.behind (c.link_anew.ensures.linked.requests c.args.own.now.behind) (c.requires.own_behind pos)

pub returns-clause-linked : goal.returns-clause-linked
returns-clause-linked g c = BothLinked-from (node_at c.args.nodes.now c.args.places.now) (node_at c.link_anew.new.nodes c.args.places.now) (node_at c.link_anew-2.new.nodes c.args.places.now) c.args.heads.now c.link_anew.new.heads c.link_anew-2.new.heads c.args.tails.now c.link_anew.new.tails c.link_anew-2.new.tails c.args.chain c.args.all.now c.args.own.now c.requires.chain c.link_anew.ensures.linked c.link_anew-2.ensures.linked c.requires.all_before c.requires.all_behind
