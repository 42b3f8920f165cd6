use Rattle.std.proofs.Common.{ap, subst, sym, ◌∙◌, ◌≡◌}
use Rattle.std.specs.Prelude.{IsNone, Some}
use Rattle.request_queue.specs.Nodes.{node_at, rows_of}
use Rattle.request_queue.specs.RequestList.{RequestList}
use Rattle.request_queue.specs.Requests.{begun_by_id, pending_by_id, request_in_work}
use Rattle.request_queue.specs.declared.nodes.Node.{Node}
use Rattle.request_queue.proofs.BeginLemmas.{begun-rows, begun-sound, idle-zero, some-node}
use Rattle.request_queue.proofs.LookupLemmas.{pending_by_id-node}
use Rattle.request_queue.proofs.queue.Queue.begin.Goals as goal

pub invariant_of-self : goal.invariant_of-self
invariant_of-self g c =
    let there : (n : Node g.row.C.Denot) × (node_at c.self.inside.nodes c.self.inside.places.items c.args.id ≡ Some n) = some-node (node_at c.self.inside.nodes c.self.inside.places.items c.args.id) (pending_by_id c.args.id c.args.self.now.rows) (sym (ap (λ (list : RequestList g.row.C.Denot g.row.R.Denot). pending_by_id c.args.id list.rows) c.self.view_is) ∙ pending_by_id-node c.self.inside.running c.self.inside.nodes c.self.inside.places.items c.self.invariant.tied c.args.id) c.requires.pending in
    begun-sound c.args.id c.self.inside.running c.self.inside.gone c.self.inside.nodes c.self.inside.places.items c.self.inside.heads c.self.inside.tails c.self.inside.counts there.0 there.1 c.self.invariant

pub returns-clause-begun : goal.returns-clause-begun
returns-clause-begun g c =
    let idle : IsNone (request_in_work (rows_of {C = g.row.C.Denot} {R = g.row.R.Denot} c.self.inside.running c.self.inside.nodes c.self.inside.places.items)) = subst (λ (list : RequestList g.row.C.Denot g.row.R.Denot). IsNone (request_in_work list.rows)) (sym c.self.view_is) c.requires.idle in
    begun-rows c.args.id c.self.inside.running c.self.inside.nodes c.self.inside.places.items c.self.invariant.tied (idle-zero c.self.inside.running c.self.inside.gone c.self.inside.nodes c.self.inside.places.items c.self.inside.heads c.self.inside.tails c.self.inside.counts c.self.invariant idle)
    ∙ ap (λ (list : RequestList g.row.C.Denot g.row.R.Denot). begun_by_id c.args.id list.rows) c.self.view_is
