use Rattle.std.proofs.Common.{arith, ap, refl, suc, sym, ◌∙◌, ◌≡◌, ◌<◌, ◌≤◌, ◌-◌, ℕ}
use Rattle.std.proofs.lemmas.Bool.{ltb-false, ltb-true}
use Rattle.std.proofs.lemmas.Option.{slice_get_past, slice_get_read}
use Rattle.std.specs.List.{slice_get}
use Rattle.std.specs.Prelude.{List, None, Some, length}
use Rattle.request_queue.specs.Nodes.{rows_of}
use Rattle.request_queue.specs.RequestList.{RequestList}
use Rattle.request_queue.specs.Requests.{HasIds, look}
use Rattle.request_queue.specs.declared.nodes.Place.{Place}
use Rattle.request_queue.proofs.LookupLemmas.{has-ids}
use Rattle.request_queue.proofs.LookLemmas.{look-none, look-some, look-under}
use Rattle.request_queue.proofs.queue.Queue.look.Goals as goal

pub returns-then-id-floor : goal.returns-then-id-floor
returns-then-id-floor g c = sym (look-under {C = g.row.C.Denot} c.args.session c.args.floor c.args.id c.args.self.now.rows c.if-id-floor.true)

pub returns-in-Some : goal.returns-in-Some
returns-in-Some g c =
    let id_is : suc (c.args.id - 1) ≡ c.args.id = omega arith in
    let above : c.args.floor < suc (c.args.id - 1) = omega arith in
    let ids : HasIds (rows_of {C = g.row.C.Denot} {R = g.row.R.Denot} c.self.inside.running c.self.inside.nodes c.self.inside.places.items) = has-ids c.self.inside.running c.self.inside.nodes c.self.inside.places.items c.self.invariant.tied c.self.invariant.named in
    let within : c.args.id - 1 < length c.deref.result.now = ltb-true (c.args.id - 1) (length c.deref.result.now) (sym c.in-Some.ensures.lookup.0) in
    let shown : slice_get c.deref.result.now (c.args.id - 1) ≡ Some c.in-Some.place.now = slice_get_read c.deref.result.now (length c.deref.result.now) (c.args.id - 1) c.in-Some.place.now refl within c.in-Some.ensures.lookup.1 in
    let at : slice_get c.self.inside.places.items (c.args.id - 1) ≡ Some c.in-Some.place.now = ap (λ (places : List (Place g.row.R.Denot)). slice_get places (c.args.id - 1)) (sym c.deref.ensures.value) ∙ shown in
    c.look_at.ensures
    ∙ look-some c.self.inside.running c.self.inside.nodes c.self.inside.places.items c.self.invariant.tied c.args.session c.args.floor (c.args.id - 1) c.in-Some.place.now ids above at
    ∙ ap (λ (id : ℕ). look c.args.session c.args.floor id (rows_of {C = g.row.C.Denot} {R = g.row.R.Denot} c.self.inside.running c.self.inside.nodes c.self.inside.places.items)) id_is
    ∙ ap (λ (list : RequestList g.row.C.Denot g.row.R.Denot). look c.args.session c.args.floor c.args.id list.rows) c.self.view_is

pub returns-in-None : goal.returns-in-None
returns-in-None g c =
    let id_is : suc (c.args.id - 1) ≡ c.args.id = omega arith in
    let above : c.args.floor < suc (c.args.id - 1) = omega arith in
    let ids : HasIds (rows_of {C = g.row.C.Denot} {R = g.row.R.Denot} c.self.inside.running c.self.inside.nodes c.self.inside.places.items) = has-ids c.self.inside.running c.self.inside.nodes c.self.inside.places.items c.self.invariant.tied c.self.invariant.named in
    let past : length c.deref.result.now ≤ c.args.id - 1 = ltb-false (c.args.id - 1) (length c.deref.result.now) (sym c.in-None.ensures.lookup.0) in
    let at : slice_get c.self.inside.places.items (c.args.id - 1) ≡ None = ap (λ (places : List (Place g.row.R.Denot)). slice_get places (c.args.id - 1)) (sym c.deref.ensures.value) ∙ slice_get_past c.deref.result.now (c.args.id - 1) past in
    look-none c.self.inside.running c.self.inside.nodes c.self.inside.places.items c.self.invariant.tied c.args.session c.args.floor (c.args.id - 1) ids above at
    ∙ ap (λ (id : ℕ). look c.args.session c.args.floor id (rows_of {C = g.row.C.Denot} {R = g.row.R.Denot} c.self.inside.running c.self.inside.nodes c.self.inside.places.items)) id_is
    ∙ ap (λ (list : RequestList g.row.C.Denot g.row.R.Denot). look c.args.session c.args.floor c.args.id list.rows) c.self.view_is
