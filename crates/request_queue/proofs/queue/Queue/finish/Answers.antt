use Rattle.std.proofs.Common.{arith, ap, subst, sym, ◌∙◌, ◌≡◌, ◌<◌, ◌≤◌, ℕ}
use Rattle.std.specs.Prelude.{◌==◌, List, None, Option, Some, length}
use Rattle.request_queue.specs.Nodes.{BothLinked, In, Tied, request_in, got, key_at, node_at, rows_of}
use Rattle.request_queue.specs.RequestList.{RequestList}
use Rattle.request_queue.specs.Requests.{ended_where, pending_by_id}
use Rattle.request_queue.specs.declared.nodes.Place.{Place}
use Rattle.request_queue.proofs.FinishById.{all-next-inside, all-prev-inside, all-count, all-rows, all-sound, not-some, own-next-inside, own-prev-inside}
use Rattle.request_queue.proofs.LookupLemmas.{pending_by_id-node}
use Rattle.request_queue.proofs.RowLemmas.{length-rows, node-below}
use Rattle.request_queue.proofs.Totals.{gone_count-le}
use Rattle.request_queue.proofs.queue.Queue.finish.Goals as goal

pub returns-in_default-clause-ended : goal.returns-in_default-clause-ended
returns-in_default-clause-ended g c =
    let key_is : key_at c.self.inside.places.items c.args.id ≡ None = sym (c.key_of.ensures ∙ ap (λ (places : List (Place g.row.R.Denot)). key_at places c.args.id) c.deref.ensures.value) ∙ c.in_default.is in
    let none : pending_by_id c.args.id c.args.self.now.rows ≡ None = sym (ap (λ (list : RequestList g.row.C.Denot g.row.R.Denot). pending_by_id c.args.id list.rows) c.self.view_is) ∙ pending_by_id-node c.self.inside.running c.self.inside.nodes c.self.inside.places.items c.self.invariant.tied c.args.id ∙ ap (λ (key : Option ℕ). request_in (got c.self.inside.nodes key)) key_is in
    absurd (not-some (pending_by_id c.args.id c.args.self.now.rows) none c.requires)

pub link_both-requires-clause-all_before : goal.link_both-requires-clause-all_before
link_both-requires-clause-all_before g c =
    let key_is : key_at c.self.inside.places.items c.args.id ≡ Some c.in-Some.key = sym (c.key_of.ensures ∙ ap (λ (places : List (Place g.row.R.Denot)). key_at places c.args.id) c.deref.ensures.value) ∙ c.in-Some.is in
    let here : node_at c.self.inside.nodes c.self.inside.places.items c.args.id ≡ Some c.in-Some-get.node.now = ap (got c.self.inside.nodes) key_is ∙ sym c.in-Some-get.ensures in
    λ some. subst (λ (places : List (Place g.row.R.Denot)). In (node_at c.self.inside.nodes places) 0 c.without-all.result.before) (sym c.deref-2.ensures.value) (all-prev-inside (node_at c.self.inside.nodes c.self.inside.places.items) c.self.inside.heads c.self.inside.tails c.self.invariant.chains c.args.id (node-below c.self.inside.nodes c.self.inside.places.items c.args.id c.in-Some-get.node.now here).0 c.in-Some-get.node.now here c.without-all.result c.without-all.ensures some)

pub link_both-requires-clause-all_behind : goal.link_both-requires-clause-all_behind
link_both-requires-clause-all_behind g c =
    let key_is : key_at c.self.inside.places.items c.args.id ≡ Some c.in-Some.key = sym (c.key_of.ensures ∙ ap (λ (places : List (Place g.row.R.Denot)). key_at places c.args.id) c.deref.ensures.value) ∙ c.in-Some.is in
    let here : node_at c.self.inside.nodes c.self.inside.places.items c.args.id ≡ Some c.in-Some-get.node.now = ap (got c.self.inside.nodes) key_is ∙ sym c.in-Some-get.ensures in
    λ some. subst (λ (places : List (Place g.row.R.Denot)). In (node_at c.self.inside.nodes places) 0 c.without-all.result.behind) (sym c.deref-2.ensures.value) (all-next-inside (node_at c.self.inside.nodes c.self.inside.places.items) c.self.inside.heads c.self.inside.tails c.self.invariant.chains c.args.id (node-below c.self.inside.nodes c.self.inside.places.items c.args.id c.in-Some-get.node.now here).0 c.in-Some-get.node.now here c.without-all.result c.without-all.ensures some)

pub link_both-requires-clause-own_before : goal.link_both-requires-clause-own_before
link_both-requires-clause-own_before g c =
    let key_is : key_at c.self.inside.places.items c.args.id ≡ Some c.in-Some.key = sym (c.key_of.ensures ∙ ap (λ (places : List (Place g.row.R.Denot)). key_at places c.args.id) c.deref.ensures.value) ∙ c.in-Some.is in
    let here : node_at c.self.inside.nodes c.self.inside.places.items c.args.id ≡ Some c.in-Some-get.node.now = ap (got c.self.inside.nodes) key_is ∙ sym c.in-Some-get.ensures in
    λ some. subst (λ (places : List (Place g.row.R.Denot)). In (node_at c.self.inside.nodes places) c.in-Some-get.node.now.request.session.number c.without-own.result.before) (sym c.deref-2.ensures.value) (own-prev-inside (node_at c.self.inside.nodes c.self.inside.places.items) c.self.inside.heads c.self.inside.tails c.self.invariant.chains c.args.id (node-below c.self.inside.nodes c.self.inside.places.items c.args.id c.in-Some-get.node.now here).0 c.in-Some-get.node.now here c.without-own.result c.without-own.ensures some)

pub link_both-requires-clause-own_behind : goal.link_both-requires-clause-own_behind
link_both-requires-clause-own_behind g c =
    let key_is : key_at c.self.inside.places.items c.args.id ≡ Some c.in-Some.key = sym (c.key_of.ensures ∙ ap (λ (places : List (Place g.row.R.Denot)). key_at places c.args.id) c.deref.ensures.value) ∙ c.in-Some.is in
    let here : node_at c.self.inside.nodes c.self.inside.places.items c.args.id ≡ Some c.in-Some-get.node.now = ap (got c.self.inside.nodes) key_is ∙ sym c.in-Some-get.ensures in
    λ some. subst (λ (places : List (Place g.row.R.Denot)). In (node_at c.self.inside.nodes places) c.in-Some-get.node.now.request.session.number c.without-own.result.behind) (sym c.deref-2.ensures.value) (own-next-inside (node_at c.self.inside.nodes c.self.inside.places.items) c.self.inside.heads c.self.inside.tails c.self.invariant.chains c.args.id (node-below c.self.inside.nodes c.self.inside.places.items c.args.id c.in-Some-get.node.now here).0 c.in-Some-get.node.now here c.without-own.result c.without-own.ensures some)

pub index_mut-requires : goal.index_mut-requires
index_mut-requires g c =
    let key_is : key_at c.self.inside.places.items c.args.id ≡ Some c.in-Some.key = sym (c.key_of.ensures ∙ ap (λ (places : List (Place g.row.R.Denot)). key_at places c.args.id) c.deref.ensures.value) ∙ c.in-Some.is in
    let here : node_at c.self.inside.nodes c.self.inside.places.items c.args.id ≡ Some c.in-Some-get.node.now = ap (got c.self.inside.nodes) key_is ∙ sym c.in-Some-get.ensures in
    let below : (0 < c.args.id) × (c.args.id ≤ length c.self.inside.places.items) = node-below c.self.inside.nodes c.self.inside.places.items c.args.id c.in-Some-get.node.now here in
    let same : length c.deref.result.now ≡ length c.self.inside.places.items = ap (λ (places : List (Place g.row.R.Denot)). length places) c.deref.ensures.value in
    omega (arith, below.0, below.1, same)

pub overflow_sub-self : goal.overflow_sub-self
overflow_sub-self g c =
    let key_is : key_at c.self.inside.places.items c.args.id ≡ Some c.in-Some.key = sym (c.key_of.ensures ∙ ap (λ (places : List (Place g.row.R.Denot)). key_at places c.args.id) c.deref.ensures.value) ∙ c.in-Some.is in
    let here : node_at c.self.inside.nodes c.self.inside.places.items c.args.id ≡ Some c.in-Some-get.node.now = ap (got c.self.inside.nodes) key_is ∙ sym c.in-Some-get.ensures in
    let tied : Tied c.link_both.new.nodes c.self.inside.places.items = subst (λ (places : List (Place g.row.R.Denot)). Tied c.link_both.new.nodes places) c.deref-2.ensures.value c.link_both.ensures.tied in
    let both : BothLinked (node_at c.self.inside.nodes c.self.inside.places.items) (node_at c.link_both.new.nodes c.self.inside.places.items) c.self.inside.heads c.link_both.new.heads c.self.inside.tails c.link_both.new.tails c.in-Some-get.node.now.request.session.number c.without-all.result c.without-own.result = subst (λ (places : List (Place g.row.R.Denot)). BothLinked (node_at c.self.inside.nodes places) (node_at c.link_both.new.nodes places) c.self.inside.heads c.link_both.new.heads c.self.inside.tails c.link_both.new.tails c.in-Some-get.node.now.request.session.number c.without-all.result c.without-own.result) c.deref-2.ensures.value c.link_both.ensures.linked in
    let sized : length c.self.inside.counts ≡ 17 = omega arith in
    all-count c.args.id c.self.inside.running c.self.inside.gone c.self.inside.nodes c.link_both.new.nodes c.try_remove.new.self c.self.inside.places.items c.self.inside.heads c.link_both.new.heads c.self.inside.tails c.link_both.new.tails c.self.inside.counts c.in-Some.key c.in-Some-get.node.now c.args.reply c.without-all.result c.without-own.result c.self.invariant here key_is tied c.try_remove.ensures.updates c.without-all.ensures c.without-own.ensures both sized

pub overflow_add-self : goal.overflow_add-self
overflow_add-self g c =
    omega (arith, c.self.invariant.ended, c.self.invariant.fits, gone_count-le (rows_of {C = g.row.C.Denot} {R = g.row.R.Denot} c.self.inside.running c.self.inside.nodes c.self.inside.places.items), length-rows {R = g.row.R.Denot} c.self.inside.running c.self.inside.nodes c.self.inside.places.items c.self.invariant.tied)

pub invariant_of-self : goal.invariant_of-self
invariant_of-self g c =
    let key_is : key_at c.self.inside.places.items c.args.id ≡ Some c.in-Some.key = sym (c.key_of.ensures ∙ ap (λ (places : List (Place g.row.R.Denot)). key_at places c.args.id) c.deref.ensures.value) ∙ c.in-Some.is in
    let here : node_at c.self.inside.nodes c.self.inside.places.items c.args.id ≡ Some c.in-Some-get.node.now = ap (got c.self.inside.nodes) key_is ∙ sym c.in-Some-get.ensures in
    let tied : Tied c.link_both.new.nodes c.self.inside.places.items = subst (λ (places : List (Place g.row.R.Denot)). Tied c.link_both.new.nodes places) c.deref-2.ensures.value c.link_both.ensures.tied in
    let both : BothLinked (node_at c.self.inside.nodes c.self.inside.places.items) (node_at c.link_both.new.nodes c.self.inside.places.items) c.self.inside.heads c.link_both.new.heads c.self.inside.tails c.link_both.new.tails c.in-Some-get.node.now.request.session.number c.without-all.result c.without-own.result = subst (λ (places : List (Place g.row.R.Denot)). BothLinked (node_at c.self.inside.nodes places) (node_at c.link_both.new.nodes places) c.self.inside.heads c.link_both.new.heads c.self.inside.tails c.link_both.new.tails c.in-Some-get.node.now.request.session.number c.without-all.result c.without-own.result) c.deref-2.ensures.value c.link_both.ensures.linked in
    let sized : length c.self.inside.counts ≡ 17 = omega arith in
    rw c.running_after-self-inside.ensures (all-sound c.args.id c.self.inside.running c.self.inside.gone c.self.inside.nodes c.link_both.new.nodes c.try_remove.new.self c.self.inside.places.items c.self.inside.heads c.link_both.new.heads c.self.inside.tails c.link_both.new.tails c.self.inside.counts c.in-Some.key c.in-Some-get.node.now c.args.reply c.without-all.result c.without-own.result c.self.invariant here key_is tied c.try_remove.ensures.updates c.without-all.ensures c.without-own.ensures both sized)

pub returns-clause-ended : goal.returns-clause-ended
returns-clause-ended g c =
    let key_is : key_at c.self.inside.places.items c.args.id ≡ Some c.in-Some.key = sym (c.key_of.ensures ∙ ap (λ (places : List (Place g.row.R.Denot)). key_at places c.args.id) c.deref.ensures.value) ∙ c.in-Some.is in
    let here : node_at c.self.inside.nodes c.self.inside.places.items c.args.id ≡ Some c.in-Some-get.node.now = ap (got c.self.inside.nodes) key_is ∙ sym c.in-Some-get.ensures in
    let tied : Tied c.link_both.new.nodes c.self.inside.places.items = subst (λ (places : List (Place g.row.R.Denot)). Tied c.link_both.new.nodes places) c.deref-2.ensures.value c.link_both.ensures.tied in
    let both : BothLinked (node_at c.self.inside.nodes c.self.inside.places.items) (node_at c.link_both.new.nodes c.self.inside.places.items) c.self.inside.heads c.link_both.new.heads c.self.inside.tails c.link_both.new.tails c.in-Some-get.node.now.request.session.number c.without-all.result c.without-own.result = subst (λ (places : List (Place g.row.R.Denot)). BothLinked (node_at c.self.inside.nodes places) (node_at c.link_both.new.nodes places) c.self.inside.heads c.link_both.new.heads c.self.inside.tails c.link_both.new.tails c.in-Some-get.node.now.request.session.number c.without-all.result c.without-own.result) c.deref-2.ensures.value c.link_both.ensures.linked in
    let sized : length c.self.inside.counts ≡ 17 = omega arith in
    rw c.running_after-self-inside.ensures (all-rows c.args.id c.self.inside.running c.self.inside.gone c.self.inside.nodes c.link_both.new.nodes c.try_remove.new.self c.self.inside.places.items c.self.inside.heads c.link_both.new.heads c.self.inside.tails c.link_both.new.tails c.self.inside.counts c.in-Some.key c.in-Some-get.node.now c.args.reply c.without-all.result c.without-own.result c.self.invariant here key_is tied c.try_remove.ensures.updates c.without-all.ensures c.without-own.ensures both sized ∙ ap (λ (list : RequestList g.row.C.Denot g.row.R.Denot). ended_where (λ q. q.id == c.args.id) c.args.reply list.rows) c.self.view_is)
