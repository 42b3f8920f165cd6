-- The neighbours of a pending request, and the end of one by its id.
use Rattle.std.proofs.Common.{arith, ap, refl, set, subst, suc, sym, zero, ◌∙◌}
use Rattle.std.specs.Prelude.{IsSome, List, None, Option, Some, if◌then◌else◌, length, slice_index, ℕ, ◌+◌, ◌-◌, ◌<◌, ◌==◌, ◌≡◌}
use Rattle.slab.specs.Slab.{Slab, Updates}
use Rattle.request_queue.specs.Chains.{IsNext, IsPrev}
use Rattle.request_queue.specs.Nodes.{around, BothLinked, Chains, In, Sound, Tied, key_at, next_in, node_at, prev_in, rows_of}
use Rattle.request_queue.specs.Requests.{ended_where}
use Rattle.request_queue.specs.declared.nodes.Node.{Node}
use Rattle.request_queue.specs.declared.nodes.Place.{Place}
use Rattle.request_queue.specs.declared.nodes.Place.TheVariants.{Ended}
use Rattle.request_queue.specs.declared.links.Relink.{Relink}
use Rattle.request_queue.proofs.FinishLemmas.{finished-rows, finished-sound, own-count}
use Rattle.request_queue.proofs.RowLemmas.{node-below}
use Rattle.request_queue.proofs.ChainsAfter.{next_at-pos, prev_at-pos}

pub not-some : {A : Type 0} (o : Option A) → o ≡ None → IsSome o → ⊥
not-some None e h = cc
not-some (Some x) e h = cc

module _ {C : Type 0} (m : ℕ → Option (Node C)) (heads tails : List ℕ) (chains : Chains m heads tails) (x : ℕ) (above : 0 < x) (n : Node C) (here : m x ≡ Some n) where
  next-inside : (d : ℕ) → d < 17 → In m d x → 0 < next_in d (Some n) → In m d (next_in d (Some n))
  next-inside d bound inside some =
      let from : IsNext (In m d) x (next_in d (Some n)) = subst (λ (j : ℕ). IsNext (In m d) x j) (next_at-pos m heads d x above ∙ ap (next_in d) here) ((chains d bound).after x (λ _. inside)) in
      (from.found some).0

  prev-inside : (d : ℕ) → d < 17 → In m d x → 0 < prev_in d (Some n) → In m d (prev_in d (Some n))
  prev-inside d bound inside some =
      let from : IsPrev (In m d) x (prev_in d (Some n)) = subst (λ (j : ℕ). IsPrev (In m d) x j) (prev_at-pos m tails d x above ∙ ap (prev_in d) here) ((chains d bound).before x (λ _. inside)) in
      (from.found some).0

  next-own : (c : ℕ) → 0 < c → next_in c (Some n) ≡ n.own.next
  next-own zero h = absurd (omega arith)
  next-own (suc c) h = refl

  prev-own : (c : ℕ) → 0 < c → prev_in c (Some n) ≡ n.own.prev
  prev-own zero h = absurd (omega arith)
  prev-own (suc c) h = refl

  in-own : In m n.request.session.number x
  in-own = record { node = n; found = here; chain = λ _. refl }

  own-bound : n.request.session.number < 17
  own-bound = omega (arith, n.request.session.valid.1)

  all-next-in : 0 < n.all.next → In m 0 n.all.next
  all-next-in some = next-inside 0 (omega arith) (record { node = n; found = here; chain = λ h. absurd (omega (arith, h)) }) some

  pub all-next-inside : (r : Relink) → r ≡ around n.all → 0 < r.behind → In m 0 r.behind
  all-next-inside r is pos = let e : r.behind ≡ n.all.next = ap (λ (s : Relink). s.behind) is in subst (λ (j : ℕ). In m 0 j) (sym e) (all-next-in (omega (arith, e, pos)))

  all-prev-in : 0 < n.all.prev → In m 0 n.all.prev
  all-prev-in some = prev-inside 0 (omega arith) (record { node = n; found = here; chain = λ h. absurd (omega (arith, h)) }) some

  pub all-prev-inside : (r : Relink) → r ≡ around n.all → 0 < r.before → In m 0 r.before
  all-prev-inside r is pos = let e : r.before ≡ n.all.prev = ap (λ (s : Relink). s.before) is in subst (λ (j : ℕ). In m 0 j) (sym e) (all-prev-in (omega (arith, e, pos)))

  own-next-in : 0 < n.own.next → In m n.request.session.number n.own.next
  own-next-in some =
      let is = next-own n.request.session.number n.request.session.valid.0 in
      subst (λ (j : ℕ). In m n.request.session.number j) is (next-inside n.request.session.number own-bound in-own (omega (arith, is, some)))

  pub own-next-inside : (r : Relink) → r ≡ around n.own → 0 < r.behind → In m n.request.session.number r.behind
  own-next-inside r is pos = let e : r.behind ≡ n.own.next = ap (λ (s : Relink). s.behind) is in subst (λ (j : ℕ). In m n.request.session.number j) (sym e) (own-next-in (omega (arith, e, pos)))

  own-prev-in : 0 < n.own.prev → In m n.request.session.number n.own.prev
  own-prev-in some =
      let is = prev-own n.request.session.number n.request.session.valid.0 in
      subst (λ (j : ℕ). In m n.request.session.number j) is (prev-inside n.request.session.number own-bound in-own (omega (arith, is, some)))

  pub own-prev-inside : (r : Relink) → r ≡ around n.own → 0 < r.before → In m n.request.session.number r.before
  own-prev-inside r is pos = let e : r.before ≡ n.own.prev = ap (λ (s : Relink). s.before) is in subst (λ (j : ℕ). In m n.request.session.number j) (sym e) (own-prev-in (omega (arith, e, pos)))

-- a request ends, by its id
module _ {C R : Type 0} (x running gone : ℕ) (nodes mid later : Slab (Node C)) (places : List (Place R)) (heads heads_later tails tails_later counts : List ℕ) (key : ℕ) (n : Node C) (reply : R) (all own : Relink)
    (sound : Sound running gone nodes places heads tails counts)
    (here : node_at nodes places x ≡ Some n)
    (key_is : key_at places x ≡ Some key)
    (mid_tied : Tied mid places)
    (removed : Updates mid later key None)
    (all_is : all ≡ around n.all)
    (own_is : own ≡ around n.own)
    (both : BothLinked (node_at nodes places) (node_at mid places) heads heads_later tails tails_later n.request.session.number all own)
    (sized : length counts ≡ 17) where
  x-is : x ≡ suc (x - 1)
  x-is = omega (arith, node-below nodes places x n here)

  here-suc : node_at nodes places (suc (x - 1)) ≡ Some n
  here-suc = subst (λ (y : ℕ). node_at nodes places y ≡ Some n) x-is here

  key-suc : key_at places (suc (x - 1)) ≡ Some key
  key-suc = subst (λ (y : ℕ). key_at places y ≡ Some key) x-is key_is

  pub all-sound : Sound (if running == x then 0 else running) (gone + 1) later (set places (x - 1) (Ended x n.request.session reply)) heads_later tails_later (set counts n.request.session.number (slice_index counts n.request.session.number - 1))
  all-sound = subst (λ (y : ℕ). Sound (if running == y then 0 else running) (gone + 1) later (set places (x - 1) (Ended y n.request.session reply)) heads_later tails_later (set counts n.request.session.number (slice_index counts n.request.session.number - 1))) (sym x-is)
      (finished-sound running gone nodes mid later places heads heads_later tails tails_later counts (x - 1) key n reply all own sound here-suc key-suc mid_tied removed all_is own_is both sized)

  pub all-rows : rows_of (if running == x then 0 else running) later (set places (x - 1) (Ended x n.request.session reply)) ≡ ended_where (λ q. q.id == x) reply (rows_of {C = C} {R = R} running nodes places)
  all-rows = subst (λ (y : ℕ). rows_of (if running == y then 0 else running) later (set places (x - 1) (Ended y n.request.session reply)) ≡ ended_where (λ q. q.id == y) reply (rows_of {C = C} {R = R} running nodes places)) (sym x-is)
      (finished-rows running gone nodes mid later places heads heads_later tails tails_later counts (x - 1) key n reply all own sound here-suc key-suc mid_tied removed all_is own_is both sized)

  pub all-count : 0 < slice_index counts n.request.session.number
  all-count = own-count running gone nodes mid later places heads heads_later tails tails_later counts (x - 1) key n reply all own sound here-suc key-suc mid_tied removed all_is own_is both sized
