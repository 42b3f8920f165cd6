use Rattle.std.proofs.Common.{ap, arith, subst, ℕ, ◌<◌, ◌∙◌}
use Rattle.std.specs.Option.{option_map}
use Rattle.std.specs.Prelude.{slice_index}
use Rattle.request_queue.specs.Nodes.{chain_for, id_option}
use Rattle.request_queue.specs.RequestList.{RequestList}
use Rattle.request_queue.specs.Requests.{HasIds, request_id, first_of, may_begin, pending_where}
use Rattle.request_queue.proofs.LookupLemmas.{has-ids, first-id}
use Rattle.request_queue.proofs.LawLemmas.{first-pending, found-pending, found-same}
use Rattle.request_queue.proofs.queue.Queue.first_pending.Goals as goal

pub returns-clause-first : goal.returns-clause-first
returns-clause-first g c =
    let bound : chain_for c.args.session < 17 = omega arith in
    c.id_or_none.ensures
    ∙ ap (λ (chain : ℕ). id_option (slice_index c.self.inside.heads chain)) c.chain_of.ensures.chain
    ∙ first-id c.self.inside.running c.self.inside.nodes c.self.inside.places.items c.self.invariant.tied c.self.inside.heads c.self.inside.tails c.self.invariant.chains c.args.session bound
    ∙ ap (λ (list : RequestList g.row.C.Denot g.row.R.Denot). option_map request_id (first_of (pending_where (may_begin c.args.session) list.rows))) c.self.view_is

pub returns-clause-same : goal.returns-clause-same
returns-clause-same g c =
    let ids : HasIds c.args.self.now.rows = subst (λ (list : RequestList g.row.C.Denot g.row.R.Denot). HasIds list.rows) c.self.view_is (has-ids c.self.inside.running c.self.inside.nodes c.self.inside.places.items c.self.invariant.tied c.self.invariant.named) in
    found-same c.args.self.now.rows (first_of (pending_where (may_begin c.args.session) c.args.self.now.rows)) c.id_or_none.result (returns-clause-first g c) (λ request e. first-pending (may_begin c.args.session) c.args.self.now.rows request ids e)

pub returns-clause-pending : goal.returns-clause-pending
returns-clause-pending g c =
    let ids : HasIds c.args.self.now.rows = subst (λ (list : RequestList g.row.C.Denot g.row.R.Denot). HasIds list.rows) c.self.view_is (has-ids c.self.inside.running c.self.inside.nodes c.self.inside.places.items c.self.invariant.tied c.self.invariant.named) in
    found-pending c.args.self.now.rows (first_of (pending_where (may_begin c.args.session) c.args.self.now.rows)) c.id_or_none.result (returns-clause-first g c) (λ request e. first-pending (may_begin c.args.session) c.args.self.now.rows request ids e)
