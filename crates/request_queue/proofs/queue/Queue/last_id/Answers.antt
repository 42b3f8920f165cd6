use Rattle.std.proofs.Common.{arith, ap, subst, sym, ◌∙◌, ◌≡◌}
use Rattle.std.specs.Prelude.{length}
use Rattle.request_queue.specs.RequestList.{RequestList}
use Rattle.request_queue.specs.Requests.{HasIds}
use Rattle.request_queue.proofs.LookupLemmas.{has-ids}
use Rattle.request_queue.proofs.RowLemmas.{length-rows}
use Rattle.request_queue.proofs.queue.Queue.last_id.Goals as goal

pub returns-clause-last : goal.returns-clause-last
returns-clause-last g c =
    let counted : length c.self.inside.places.items ≡ length c.args.self.now.rows = sym (length-rows c.self.inside.running c.self.inside.nodes c.self.inside.places.items c.self.invariant.tied) ∙ ap (λ (list : RequestList g.row.C.Denot g.row.R.Denot). length list.rows) c.self.view_is in
    omega (arith, counted)

pub returns-clause-ids : goal.returns-clause-ids
returns-clause-ids g c = subst (λ (list : RequestList g.row.C.Denot g.row.R.Denot). HasIds list.rows) c.self.view_is (has-ids c.self.inside.running c.self.inside.nodes c.self.inside.places.items c.self.invariant.tied c.self.invariant.named)
