use Rattle.std.proofs.Common.{ap, sym, ◌∙◌}
use Rattle.std.specs.Option.{option_map}
use Rattle.std.specs.Prelude.{List}
use Rattle.request_queue.specs.Nodes.{request_in, node_at}
use Rattle.request_queue.specs.RequestList.{RequestList}
use Rattle.request_queue.specs.Requests.{request_session, pending_by_id}
use Rattle.request_queue.specs.declared.nodes.Place.{Place}
use Rattle.request_queue.proofs.LookupLemmas.{pending_by_id-node}
use Rattle.request_queue.proofs.queue.Queue.owner.Goals as goal

pub returns : goal.returns
returns g c =
    c.owner_of.ensures
    ∙ ap (λ (places : List (Place g.row.R.Denot)). option_map request_session (request_in (node_at c.self.inside.nodes places c.args.id))) c.deref.ensures.value
    ∙ ap (option_map request_session) (sym (pending_by_id-node c.self.inside.running c.self.inside.nodes c.self.inside.places.items c.self.invariant.tied c.args.id))
    ∙ ap (λ (list : RequestList g.row.C.Denot g.row.R.Denot). option_map request_session (pending_by_id c.args.id list.rows)) c.self.view_is
