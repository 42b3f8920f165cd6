use Rattle.std.proofs.Common.{ap, arith, subst, ℕ, ◌<◌, ◌∙◌}
use Rattle.std.specs.Option.{option_map}
use Rattle.std.specs.Prelude.{List, slice_index}
use Rattle.request_queue.specs.Nodes.{chain_for, id_option, node_at, waiting_in}
use Rattle.request_queue.specs.RequestList.{RequestList}
use Rattle.request_queue.specs.Requests.{HasIds, request_id, eligible}
use Rattle.request_queue.specs.declared.nodes.Place.{Place}
use Rattle.request_queue.proofs.LookupLemmas.{has-ids, waiting-id}
use Rattle.request_queue.proofs.LawLemmas.{eligible-pending, found-pending, found-same}
use Rattle.request_queue.proofs.queue.Queue.next_for.Goals as goal

pub returns-clause-eligible : goal.returns-clause-eligible
returns-clause-eligible g c =
    let bound : chain_for c.args.holder < 17 = omega arith in
    c.id_or_none.ensures
    ∙ ap id_option (c.next_waiting.ensures
    ∙ ap (λ (places : List (Place g.row.R.Denot)). waiting_in (node_at c.self.inside.nodes places) c.chain_of-chain.result (slice_index c.self.inside.heads c.chain_of-chain.result) c.self.inside.running) c.deref.ensures.value
    ∙ ap (λ (chain : ℕ). waiting_in (node_at c.self.inside.nodes c.self.inside.places.items) chain (slice_index c.self.inside.heads chain) c.self.inside.running) c.chain_of-chain.ensures.chain)
    ∙ waiting-id c.self.inside.running c.self.inside.nodes c.self.inside.places.items c.self.invariant.tied c.self.inside.heads c.self.inside.tails c.self.invariant.chains c.args.holder bound
    ∙ ap (λ (list : RequestList g.row.C.Denot g.row.R.Denot). option_map request_id (eligible c.args.holder list.rows)) c.self.view_is

pub returns-clause-same : goal.returns-clause-same
returns-clause-same g c =
    let ids : HasIds c.args.self.now.rows = subst (λ (list : RequestList g.row.C.Denot g.row.R.Denot). HasIds list.rows) c.self.view_is (has-ids c.self.inside.running c.self.inside.nodes c.self.inside.places.items c.self.invariant.tied c.self.invariant.named) in
    found-same c.args.self.now.rows (eligible c.args.holder c.args.self.now.rows) c.id_or_none.result (returns-clause-eligible g c) (λ request e. eligible-pending c.args.holder c.args.self.now.rows request ids e)

pub returns-clause-pending : goal.returns-clause-pending
returns-clause-pending g c =
    let ids : HasIds c.args.self.now.rows = subst (λ (list : RequestList g.row.C.Denot g.row.R.Denot). HasIds list.rows) c.self.view_is (has-ids c.self.inside.running c.self.inside.nodes c.self.inside.places.items c.self.invariant.tied c.self.invariant.named) in
    found-pending c.args.self.now.rows (eligible c.args.holder c.args.self.now.rows) c.id_or_none.result (returns-clause-eligible g c) (λ request e. eligible-pending c.args.holder c.args.self.now.rows request ids e)

pub returns-clause-ids : goal.returns-clause-ids
returns-clause-ids g c = subst (λ (list : RequestList g.row.C.Denot g.row.R.Denot). HasIds list.rows) c.self.view_is (has-ids c.self.inside.running c.self.inside.nodes c.self.inside.places.items c.self.invariant.tied c.self.invariant.named)
