use Rattle.std.proofs.Common.{ap, subst, sym, ℕ, ◌∙◌, ◌≡◌}
use Rattle.std.specs.Option.{option_map}
use Rattle.std.specs.Prelude.{List, Some, slice_index}
use Rattle.request_queue.specs.Nodes.{In, IsFirstDue, node_at}
use Rattle.request_queue.specs.Chains.{IsNext}
use Rattle.request_queue.specs.declared.nodes.Node.{Node}
use Rattle.request_queue.specs.RequestList.{RequestList}
use Rattle.request_queue.specs.Requests.{HasIds, request_id, first_of, is_due, pending_where}
use Rattle.request_queue.specs.declared.nodes.Place.{Place}
use Rattle.request_queue.proofs.LookupLemmas.{has-ids, due-id, walk-head, walk-links}
use Rattle.request_queue.proofs.LawLemmas.{first-pending, found-pending, found-same}
use Rattle.request_queue.proofs.queue.Queue.first_due.Goals as goal

pub returns-clause-first : goal.returns-clause-first
returns-clause-first g c =
    c.id_or_none.ensures
    ∙ due-id c.self.inside.running c.self.inside.nodes c.self.inside.places.items c.self.invariant.tied c.args.now c.due_from.result
    (subst (λ (places : List (Place g.row.R.Denot)). IsFirstDue (node_at c.self.inside.nodes places) c.args.now c.due_from.result) c.deref.ensures.value c.due_from.ensures)
    ∙ ap (λ (list : RequestList g.row.C.Denot g.row.R.Denot). option_map request_id (first_of (pending_where (is_due c.args.now) list.rows))) c.self.view_is

pub due_from-requires-clause-head : goal.due_from-requires-clause-head
due_from-requires-clause-head g c = subst (λ (places : List (Place g.row.R.Denot)). IsNext (In (node_at c.self.inside.nodes places) 0) 0 (slice_index c.self.inside.heads 0)) (sym c.deref.ensures.value) (walk-head c.self.inside.nodes c.self.inside.places.items c.self.inside.heads c.self.inside.tails c.self.invariant.chains)

pub due_from-requires-clause-links : goal.due_from-requires-clause-links
due_from-requires-clause-links g c = subst (λ (places : List (Place g.row.R.Denot)). (k : ℕ) (n : Node g.row.C.Denot) → node_at c.self.inside.nodes places k ≡ Some n → IsNext (In (node_at c.self.inside.nodes places) 0) k n.all.next) (sym c.deref.ensures.value) (walk-links c.self.inside.nodes c.self.inside.places.items c.self.inside.heads c.self.inside.tails c.self.invariant.chains)

pub returns-clause-same : goal.returns-clause-same
returns-clause-same g c =
    let ids : HasIds c.args.self.now.rows = subst (λ (list : RequestList g.row.C.Denot g.row.R.Denot). HasIds list.rows) c.self.view_is (has-ids c.self.inside.running c.self.inside.nodes c.self.inside.places.items c.self.invariant.tied c.self.invariant.named) in
    found-same c.args.self.now.rows (first_of (pending_where (is_due c.args.now) c.args.self.now.rows)) c.id_or_none.result (returns-clause-first g c) (λ request e. first-pending (is_due c.args.now) c.args.self.now.rows request ids e)

pub returns-clause-pending : goal.returns-clause-pending
returns-clause-pending g c =
    let ids : HasIds c.args.self.now.rows = subst (λ (list : RequestList g.row.C.Denot g.row.R.Denot). HasIds list.rows) c.self.view_is (has-ids c.self.inside.running c.self.inside.nodes c.self.inside.places.items c.self.invariant.tied c.self.invariant.named) in
    found-pending c.args.self.now.rows (first_of (pending_where (is_due c.args.now) c.args.self.now.rows)) c.id_or_none.result (returns-clause-first g c) (λ request e. first-pending (is_due c.args.now) c.args.self.now.rows request ids e)
