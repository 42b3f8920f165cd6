use Rattle.std.proofs.Common.{ap, subst, ◌∙◌}
use Rattle.std.specs.Option.{option_map}
use Rattle.request_queue.specs.RequestList.{RequestList}
use Rattle.request_queue.specs.Requests.{HasIds, HasAtMostOneInWork, request_id, request_in_work}
use Rattle.request_queue.proofs.LookupLemmas.{has-ids, one-in-work, request_in_work-id}
use Rattle.request_queue.proofs.LawLemmas.{found-pending, found-same, request_in_work-pending}
use Rattle.request_queue.proofs.queue.Queue.in_work.Goals as goal

pub returns-clause-request_in_work : goal.returns-clause-request_in_work
returns-clause-request_in_work g c = c.id_or_none.ensures ∙ request_in_work-id c.self.inside.running c.self.inside.nodes c.self.inside.places.items c.self.invariant.tied c.self.invariant.work ∙ ap (λ (list : RequestList g.row.C.Denot g.row.R.Denot). option_map request_id (request_in_work list.rows)) c.self.view_is

pub returns-clause-same : goal.returns-clause-same
returns-clause-same g c =
    let ids : HasIds c.args.self.now.rows = subst (λ (list : RequestList g.row.C.Denot g.row.R.Denot). HasIds list.rows) c.self.view_is (has-ids c.self.inside.running c.self.inside.nodes c.self.inside.places.items c.self.invariant.tied c.self.invariant.named) in
    found-same c.args.self.now.rows (request_in_work c.args.self.now.rows) c.id_or_none.result (returns-clause-request_in_work g c) (λ request e. request_in_work-pending c.args.self.now.rows request ids e)

pub returns-clause-pending : goal.returns-clause-pending
returns-clause-pending g c =
    let ids : HasIds c.args.self.now.rows = subst (λ (list : RequestList g.row.C.Denot g.row.R.Denot). HasIds list.rows) c.self.view_is (has-ids c.self.inside.running c.self.inside.nodes c.self.inside.places.items c.self.invariant.tied c.self.invariant.named) in
    found-pending c.args.self.now.rows (request_in_work c.args.self.now.rows) c.id_or_none.result (returns-clause-request_in_work g c) (λ request e. request_in_work-pending c.args.self.now.rows request ids e)

pub returns-clause-one : goal.returns-clause-one
returns-clause-one g c = subst (λ (list : RequestList g.row.C.Denot g.row.R.Denot). HasAtMostOneInWork list.rows) c.self.view_is (one-in-work c.self.inside.running c.self.inside.nodes c.self.inside.places.items c.self.invariant.tied c.self.invariant.named)

pub returns-clause-ids : goal.returns-clause-ids
returns-clause-ids g c = subst (λ (list : RequestList g.row.C.Denot g.row.R.Denot). HasIds list.rows) c.self.view_is (has-ids c.self.inside.running c.self.inside.nodes c.self.inside.places.items c.self.invariant.tied c.self.invariant.named)
