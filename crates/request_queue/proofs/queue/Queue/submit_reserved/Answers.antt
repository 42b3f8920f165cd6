use Rattle.std.proofs.Common.{arith, ap, refl, subst, suc, set, sym, ◌∙◌, ◌≡◌, ◌<◌, ◌+◌, ℕ}
use Rattle.std.specs.Prelude.{List, Some, [], length, slice_index, ◌++◌, ◌∷◌}
use Rattle.slab.specs.Slab.{Updates}
use Rattle.request_queue.specs.Nodes.{BothLinked, In, Sound, Tied, last_node, node_at, rows_of}
use Rattle.request_queue.specs.RequestList.{RequestList}
use Rattle.request_queue.specs.Requests.{pending_count}
use Rattle.request_queue.specs.declared.nodes.Node.{Node}
use Rattle.request_queue.specs.declared.nodes.Place.{Place}
use Rattle.request_queue.specs.declared.nodes.Place.TheVariants.{Linked}
use Rattle.request_queue.specs.declared.links.Relink.{Relink}
use Rattle.request_queue.specs.declared.requests.Request.{Request}
use Rattle.request_queue.specs.declared.requests.RequestRow.{RequestRow}
use Rattle.request_queue.specs.declared.requests.RequestRow.TheVariants.{Waiting}
use Rattle.request_queue.proofs.RowLemmas.{length-rows}
use Rattle.request_queue.proofs.SubmitLemmas.{last-inside, submitted-rows, submitted-sound, submitted-tied}
use Rattle.request_queue.proofs.queue.Queue.submit_reserved.Goals as goal

abbrev rows_with : {C R : Type 0} → List (RequestRow C R) → Request C → List (RequestRow C R)
rows_with rows request = rows ++ Waiting request ∷ []

pub link_both-requires-clause-tied : goal.link_both-requires-clause-tied
link_both-requires-clause-tied g c =
    let x_is : c.len.result + 1 ≡ suc (length c.self.inside.places.items) = omega arith in
    let node : Node g.row.C.Denot = last_node (record { id = c.len.result + 1; session = c.args.session; submitted = c.args.now; limit = c.args.limit; command = c.args.command }) (slice_index c.self.inside.tails 0) (slice_index c.self.inside.tails c.args.session.number) in
    let inserted : Updates c.self.inside.nodes c.insert_reserved-key.new.self c.insert_reserved-key.result (Some node) = subst (λ (last : Node g.row.C.Denot). Updates c.self.inside.nodes c.insert_reserved-key.new.self c.insert_reserved-key.result (Some last)) c.behind-node.ensures c.insert_reserved-key.ensures.updates in
    let shown : c.deref.result.now ≡ c.self.inside.places.items ++ Linked c.insert_reserved-key.result ∷ [] = c.deref.ensures.value ∙ c.push_reserved.ensures.items in
    subst (λ (places : List (Place g.row.R.Denot)). Tied c.insert_reserved-key.new.self places) (sym {A = List (Place g.row.R.Denot)} shown) (submitted-tied c.self.inside.running c.self.inside.gone c.self.inside.nodes c.insert_reserved-key.new.self c.self.inside.places.items c.self.inside.heads c.self.inside.tails c.self.inside.counts c.insert_reserved-key.result (c.len.result + 1) node c.self.invariant x_is c.insert_reserved-key.ensures.was_vacant inserted refl)

pub link_both-requires-clause-all_before : goal.link_both-requires-clause-all_before
link_both-requires-clause-all_before g c =
    let x_is : c.len.result + 1 ≡ suc (length c.self.inside.places.items) = omega arith in
    let node : Node g.row.C.Denot = last_node (record { id = c.len.result + 1; session = c.args.session; submitted = c.args.now; limit = c.args.limit; command = c.args.command }) (slice_index c.self.inside.tails 0) (slice_index c.self.inside.tails c.args.session.number) in
    let inserted : Updates c.self.inside.nodes c.insert_reserved-key.new.self c.insert_reserved-key.result (Some node) = subst (λ (last : Node g.row.C.Denot). Updates c.self.inside.nodes c.insert_reserved-key.new.self c.insert_reserved-key.result (Some last)) c.behind-node.ensures c.insert_reserved-key.ensures.updates in
    let shown : c.deref.result.now ≡ c.self.inside.places.items ++ Linked c.insert_reserved-key.result ∷ [] = c.deref.ensures.value ∙ c.push_reserved.ensures.items in
    let is : c.behind-all.result.before ≡ slice_index c.self.inside.tails 0 = ap (λ (links : Relink). links.before) c.behind-all.ensures in
    λ some. rw is (subst (λ (places : List (Place g.row.R.Denot)). In (node_at c.insert_reserved-key.new.self places) 0 (slice_index c.self.inside.tails 0)) (sym {A = List (Place g.row.R.Denot)} shown) (last-inside c.self.inside.running c.self.inside.gone c.self.inside.nodes c.insert_reserved-key.new.self c.self.inside.places.items c.self.inside.heads c.self.inside.tails c.self.inside.counts c.insert_reserved-key.result (c.len.result + 1) node c.self.invariant x_is c.insert_reserved-key.ensures.was_vacant inserted refl 0 (omega arith) (omega (arith, is, some))))

pub link_both-requires-clause-own_before : goal.link_both-requires-clause-own_before
link_both-requires-clause-own_before g c =
    let x_is : c.len.result + 1 ≡ suc (length c.self.inside.places.items) = omega arith in
    let node : Node g.row.C.Denot = last_node (record { id = c.len.result + 1; session = c.args.session; submitted = c.args.now; limit = c.args.limit; command = c.args.command }) (slice_index c.self.inside.tails 0) (slice_index c.self.inside.tails c.args.session.number) in
    let inserted : Updates c.self.inside.nodes c.insert_reserved-key.new.self c.insert_reserved-key.result (Some node) = subst (λ (last : Node g.row.C.Denot). Updates c.self.inside.nodes c.insert_reserved-key.new.self c.insert_reserved-key.result (Some last)) c.behind-node.ensures c.insert_reserved-key.ensures.updates in
    let shown : c.deref.result.now ≡ c.self.inside.places.items ++ Linked c.insert_reserved-key.result ∷ [] = c.deref.ensures.value ∙ c.push_reserved.ensures.items in
    let is : c.behind-own.result.before ≡ slice_index c.self.inside.tails c.args.session.number = ap (λ (links : Relink). links.before) c.behind-own.ensures in
    λ some. rw is (subst (λ (places : List (Place g.row.R.Denot)). In (node_at c.insert_reserved-key.new.self places) c.args.session.number (slice_index c.self.inside.tails c.args.session.number)) (sym {A = List (Place g.row.R.Denot)} shown) (last-inside c.self.inside.running c.self.inside.gone c.self.inside.nodes c.insert_reserved-key.new.self c.self.inside.places.items c.self.inside.heads c.self.inside.tails c.self.inside.counts c.insert_reserved-key.result (c.len.result + 1) node c.self.invariant x_is c.insert_reserved-key.ensures.was_vacant inserted refl c.args.session.number (omega (arith, c.args.session.valid.1)) (omega (arith, is, some))))

pub invariant_of-self : goal.invariant_of-self
invariant_of-self g c =
    let x_is : c.len.result + 1 ≡ suc (length c.self.inside.places.items) = omega arith in
    let node : Node g.row.C.Denot = last_node (record { id = c.len.result + 1; session = c.args.session; submitted = c.args.now; limit = c.args.limit; command = c.args.command }) (slice_index c.self.inside.tails 0) (slice_index c.self.inside.tails c.args.session.number) in
    let inserted : Updates c.self.inside.nodes c.insert_reserved-key.new.self c.insert_reserved-key.result (Some node) = subst (λ (last : Node g.row.C.Denot). Updates c.self.inside.nodes c.insert_reserved-key.new.self c.insert_reserved-key.result (Some last)) c.behind-node.ensures c.insert_reserved-key.ensures.updates in
    let shown : c.deref.result.now ≡ c.self.inside.places.items ++ Linked c.insert_reserved-key.result ∷ [] = c.deref.ensures.value ∙ c.push_reserved.ensures.items in
    let counted : length c.self.inside.places.items ≡ length c.args.self.now.rows = sym (length-rows c.self.inside.running c.self.inside.nodes c.self.inside.places.items c.self.invariant.tied) ∙ ap (λ (list : RequestList g.row.C.Denot g.row.R.Denot). length list.rows) c.self.view_is in
    let fits : length c.self.inside.places.items < 4294967294 = omega (arith, counted) in
    let room : slice_index c.self.inside.counts c.args.session.number < 16 = omega (arith, c.self.invariant.counted c.args.session, ap (λ (list : RequestList g.row.C.Denot g.row.R.Denot). pending_count c.args.session list.rows) c.self.view_is) in
    let sized : length c.self.inside.counts ≡ 17 = omega arith in
    let tied : Tied c.link_both.new.nodes (c.self.inside.places.items ++ Linked c.insert_reserved-key.result ∷ []) = subst (λ (places : List (Place g.row.R.Denot)). Tied c.link_both.new.nodes places) shown c.link_both.ensures.tied in
    let both : BothLinked (node_at c.insert_reserved-key.new.self (c.self.inside.places.items ++ Linked c.insert_reserved-key.result ∷ [])) (node_at c.link_both.new.nodes (c.self.inside.places.items ++ Linked c.insert_reserved-key.result ∷ [])) c.self.inside.heads c.link_both.new.heads c.self.inside.tails c.link_both.new.tails c.args.session.number c.behind-all.result c.behind-own.result = subst (λ (places : List (Place g.row.R.Denot)). BothLinked (node_at c.insert_reserved-key.new.self places) (node_at c.link_both.new.nodes places) c.self.inside.heads c.link_both.new.heads c.self.inside.tails c.link_both.new.tails c.args.session.number c.behind-all.result c.behind-own.result) shown c.link_both.ensures.linked in
    subst (λ (places : List (Place g.row.R.Denot)). Sound c.self.inside.running c.self.inside.gone c.link_both.new.nodes places c.link_both.new.heads c.link_both.new.tails (set c.self.inside.counts c.args.session.number (slice_index c.self.inside.counts c.args.session.number + 1))) (sym {A = List (Place g.row.R.Denot)} c.push_reserved.ensures.items) (submitted-sound c.self.inside.running c.self.inside.gone c.self.inside.nodes c.insert_reserved-key.new.self c.self.inside.places.items c.self.inside.heads c.self.inside.tails c.self.inside.counts c.insert_reserved-key.result (c.len.result + 1) node c.self.invariant x_is c.insert_reserved-key.ensures.was_vacant inserted refl c.link_both.new.nodes c.link_both.new.heads c.link_both.new.tails c.behind-all.result c.behind-own.result fits room sized refl refl c.behind-all.ensures c.behind-own.ensures tied both)

pub returns-clause-id : goal.returns-clause-id
returns-clause-id g c =
    let counted : length c.self.inside.places.items ≡ length c.args.self.now.rows = sym (length-rows c.self.inside.running c.self.inside.nodes c.self.inside.places.items c.self.invariant.tied) ∙ ap (λ (list : RequestList g.row.C.Denot g.row.R.Denot). length list.rows) c.self.view_is in
    omega (arith, counted)

pub returns-clause-last : goal.returns-clause-last
returns-clause-last g c =
    let x_is : c.len.result + 1 ≡ suc (length c.self.inside.places.items) = omega arith in
    let node : Node g.row.C.Denot = last_node (record { id = c.len.result + 1; session = c.args.session; submitted = c.args.now; limit = c.args.limit; command = c.args.command }) (slice_index c.self.inside.tails 0) (slice_index c.self.inside.tails c.args.session.number) in
    let inserted : Updates c.self.inside.nodes c.insert_reserved-key.new.self c.insert_reserved-key.result (Some node) = subst (λ (last : Node g.row.C.Denot). Updates c.self.inside.nodes c.insert_reserved-key.new.self c.insert_reserved-key.result (Some last)) c.behind-node.ensures c.insert_reserved-key.ensures.updates in
    let shown : c.deref.result.now ≡ c.self.inside.places.items ++ Linked c.insert_reserved-key.result ∷ [] = c.deref.ensures.value ∙ c.push_reserved.ensures.items in
    let counted : length c.self.inside.places.items ≡ length c.args.self.now.rows = sym (length-rows c.self.inside.running c.self.inside.nodes c.self.inside.places.items c.self.invariant.tied) ∙ ap (λ (list : RequestList g.row.C.Denot g.row.R.Denot). length list.rows) c.self.view_is in
    let fits : length c.self.inside.places.items < 4294967294 = omega (arith, counted) in
    let room : slice_index c.self.inside.counts c.args.session.number < 16 = omega (arith, c.self.invariant.counted c.args.session, ap (λ (list : RequestList g.row.C.Denot g.row.R.Denot). pending_count c.args.session list.rows) c.self.view_is) in
    let sized : length c.self.inside.counts ≡ 17 = omega arith in
    let tied : Tied c.link_both.new.nodes (c.self.inside.places.items ++ Linked c.insert_reserved-key.result ∷ []) = subst (λ (places : List (Place g.row.R.Denot)). Tied c.link_both.new.nodes places) shown c.link_both.ensures.tied in
    let both : BothLinked (node_at c.insert_reserved-key.new.self (c.self.inside.places.items ++ Linked c.insert_reserved-key.result ∷ [])) (node_at c.link_both.new.nodes (c.self.inside.places.items ++ Linked c.insert_reserved-key.result ∷ [])) c.self.inside.heads c.link_both.new.heads c.self.inside.tails c.link_both.new.tails c.args.session.number c.behind-all.result c.behind-own.result = subst (λ (places : List (Place g.row.R.Denot)). BothLinked (node_at c.insert_reserved-key.new.self places) (node_at c.link_both.new.nodes places) c.self.inside.heads c.link_both.new.heads c.self.inside.tails c.link_both.new.tails c.args.session.number c.behind-all.result c.behind-own.result) shown c.link_both.ensures.linked in
    let id_is : c.len.result + 1 ≡ length c.args.self.now.rows + 1 = omega (arith, counted) in
    ap (λ (places : List (Place g.row.R.Denot)). rows_of {C = g.row.C.Denot} c.self.inside.running c.link_both.new.nodes places) c.push_reserved.ensures.items
    ∙ submitted-rows c.self.inside.running c.self.inside.gone c.self.inside.nodes c.insert_reserved-key.new.self c.self.inside.places.items c.self.inside.heads c.self.inside.tails c.self.inside.counts c.insert_reserved-key.result (c.len.result + 1) node c.self.invariant x_is c.insert_reserved-key.ensures.was_vacant inserted refl c.link_both.new.nodes c.link_both.new.heads c.link_both.new.tails c.behind-all.result c.behind-own.result fits room sized refl refl c.behind-all.ensures c.behind-own.ensures tied both
    ∙ ap (λ (list : RequestList g.row.C.Denot g.row.R.Denot). rows_with list.rows node.request) c.self.view_is
    ∙ ap (λ (id : ℕ). rows_with c.args.self.now.rows (record { id = id; session = c.args.session; submitted = c.args.now; limit = c.args.limit; command = c.args.command })) id_is
