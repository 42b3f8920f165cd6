use Rattle.std.proofs.Common.{ap, subst, sym, ◌≡◌}
use Rattle.std.specs.Prelude.{List}
use Rattle.slab.specs.Slab.{Slab}
use Rattle.request_queue.specs.Nodes.{Sound}
use Rattle.request_queue.specs.declared.nodes.Node.{Node}
use Rattle.request_queue.specs.declared.nodes.Place.{Place}
use Rattle.request_queue.proofs.SubmitLemmas.{sound-slots}
use Rattle.request_queue.proofs.queue.Queue.reserve.Goals as goal

pub invariant_of-self-then-is_err-2 : goal.invariant_of-self-then-is_err-2
invariant_of-self-then-is_err-2 g c =
    let same : c.reserve-else-is_err.new.self.slots ≡ c.self.inside.nodes.slots = ap (λ (nodes : Slab (Node g.row.C.Denot)). nodes.slots) c.reserve-else-is_err.ensures.rest_kept in
    subst (λ (places : List (Place g.row.R.Denot)). Sound c.self.inside.running c.self.inside.gone c.reserve-else-is_err.new.self places c.self.inside.heads c.self.inside.tails c.self.inside.counts) (sym {A = List (Place g.row.R.Denot)} c.reserve.ensures.items)
    (sound-slots c.self.inside.nodes c.reserve-else-is_err.new.self same c.self.inside.running c.self.inside.gone c.self.inside.places.items c.self.inside.heads c.self.inside.tails c.self.inside.counts c.self.invariant)

pub invariant_of-self-else-is_err-2 : goal.invariant_of-self-else-is_err-2
invariant_of-self-else-is_err-2 g c =
    let same : c.reserve-else-is_err.new.self.slots ≡ c.self.inside.nodes.slots = ap (λ (nodes : Slab (Node g.row.C.Denot)). nodes.slots) c.reserve-else-is_err.ensures.rest_kept in
    subst (λ (places : List (Place g.row.R.Denot)). Sound c.self.inside.running c.self.inside.gone c.reserve-else-is_err.new.self places c.self.inside.heads c.self.inside.tails c.self.inside.counts) (sym {A = List (Place g.row.R.Denot)} c.reserve.ensures.items)
    (sound-slots c.self.inside.nodes c.reserve-else-is_err.new.self same c.self.inside.running c.self.inside.gone c.self.inside.places.items c.self.inside.heads c.self.inside.tails c.self.inside.counts c.self.invariant)
