-- One link of one node is written.
use Rattle.std.proofs.Common.{arith, ap, inl, inr, refl, suc, sym, zero, ◌∙◌}
use Rattle.std.proofs.lemmas.Bool.{cases_eq}
use Rattle.std.proofs.lemmas.Option.{same_Some}
use Rattle.std.specs.Prelude.{List, None, Option, Some, ℕ, ◌<◌, ◌≡◌, ◌≢◌}
use Rattle.slab.specs.Slab.{Slab, get}
use Rattle.request_queue.specs.Nodes.{In, NextSet, PrevSet, Tied, request_in, got, key_at, next_at, next_in, node_at, prev_at, prev_in, with_next, with_prev}
use Rattle.request_queue.specs.declared.requests.Request.{Request}
use Rattle.request_queue.specs.declared.nodes.Node.{Node}
use Rattle.request_queue.specs.declared.nodes.Place.{Place}

module _ {C : Type 0} where
  -- the key of a place is at no other place
  pub key_once : {R : Type 0} (nodes : Slab (Node C)) (places : List (Place R)) (i j key : ℕ) → Tied nodes places → key_at places i ≡ Some key → key_at places j ≡ Some key → i ≡ j
  key_once nodes places i j key tied first second =
      let one : (n : Node C) × (get nodes key ≡ Some n) × (n.request.id ≡ i) = tied.at i key first in
      let two : (n : Node C) × (get nodes key ≡ Some n) × (n.request.id ≡ j) = tied.at j key second in
      let same : one.0 ≡ two.0 = same_Some _ _ (sym one.1 ∙ two.1) in
      sym one.2 ∙ ap (λ (n : Node C). n.request.id) same ∙ two.2

  got-others : (nodes later : Slab (Node C)) (key : ℕ) (at : Option ℕ) → ((other : ℕ) → at ≡ Some other → other ≢ key) → ((other : ℕ) → other ≢ key → get later other ≡ get nodes other) → got later at ≡ got nodes at
  got-others nodes later key None apart others = refl
  got-others nodes later key (Some other) apart others = others other (apart other refl)

  -- what the write of one key changes
  pub node_at-elsewhere : {R : Type 0} (nodes later : Slab (Node C)) (places : List (Place R)) (id key k : ℕ) → Tied nodes places → key_at places id ≡ Some key → ((other : ℕ) → other ≢ key → get later other ≡ get nodes other) → k ≢ id → node_at later places k ≡ node_at nodes places k
  node_at-elsewhere nodes later places id key k tied at others differs =
      got-others nodes later key (key_at places k) (λ other found same. differs (key_once nodes places k id key tied (found ∙ ap (λ (x : ℕ). Some x) same) at)) others

  pub Tied-written : {R : Type 0} (nodes later : Slab (Node C)) (places : List (Place R)) (id key : ℕ) (n new : Node C) → Tied nodes places → key_at places id ≡ Some key → get nodes key ≡ Some n → new.request ≡ n.request → get later key ≡ Some new → ((other : ℕ) → other ≢ key → get later other ≡ get nodes other) → Tied later places
  Tied-written nodes later places id key n new tied at was kept here others = record {
    at = λ i other found.
        let old : (m : Node C) × (get nodes other ≡ Some m) × (m.request.id ≡ i) = tied.at i other found in
        elim (cases_eq other key) [
          | inl same ↦
              let is : n ≡ old.0 = same_Some _ _ (sym was ∙ ap (get nodes) (sym same) ∙ old.1) in
              (new, ap (get later) same ∙ here, ap (λ (a : Request C). a.id) kept ∙ ap (λ (m : Node C). m.request.id) is ∙ old.2)
          | inr differs ↦ (old.0, others other differs ∙ old.1, old.2)
        ];
  }

  next-here : (c v : ℕ) (n : Node C) → next_in c (Some (with_next c v n)) ≡ v
  next-here zero v n = refl
  next-here (suc c) v n = refl

  prev-here : (c v : ℕ) (n : Node C) → prev_in c (Some (with_prev c v n)) ≡ v
  prev-here zero v n = refl
  prev-here (suc c) v n = refl

  next-beside : (d c v : ℕ) (n : Node C) → d ≢ c → (0 < d → n.request.session.number ≡ d) → (0 < c → n.request.session.number ≡ c) → next_in d (Some (with_next c v n)) ≡ next_in d (Some n)
  next-beside zero zero v n differs in_d in_c = absurd (differs refl)
  next-beside zero (suc c) v n differs in_d in_c = refl
  next-beside (suc d) zero v n differs in_d in_c = refl
  next-beside (suc d) (suc c) v n differs in_d in_c = absurd (differs (sym (in_d (omega arith)) ∙ in_c (omega arith)))

  prev-beside : (d c v : ℕ) (n : Node C) → d ≢ c → (0 < d → n.request.session.number ≡ d) → (0 < c → n.request.session.number ≡ c) → prev_in d (Some (with_prev c v n)) ≡ prev_in d (Some n)
  prev-beside zero zero v n differs in_d in_c = absurd (differs refl)
  prev-beside zero (suc c) v n differs in_d in_c = refl
  prev-beside (suc d) zero v n differs in_d in_c = refl
  prev-beside (suc d) (suc c) v n differs in_d in_c = absurd (differs (sym (in_d (omega arith)) ∙ in_c (omega arith)))

  prev-stays : (d c v : ℕ) (n : Node C) → prev_in d (Some (with_next c v n)) ≡ prev_in d (Some n)
  prev-stays zero zero v n = refl
  prev-stays zero (suc c) v n = refl
  prev-stays (suc d) zero v n = refl
  prev-stays (suc d) (suc c) v n = refl

  next-stays : (d c v : ℕ) (n : Node C) → next_in d (Some (with_prev c v n)) ≡ next_in d (Some n)
  next-stays zero zero v n = refl
  next-stays zero (suc c) v n = refl
  next-stays (suc d) zero v n = refl
  next-stays (suc d) (suc c) v n = refl

  pub request-next : (c v : ℕ) (n : Node C) → (with_next c v n).request ≡ n.request
  request-next zero v n = refl
  request-next (suc c) v n = refl

  pub request-prev : (c v : ℕ) (n : Node C) → (with_prev c v n).request ≡ n.request
  request-prev zero v n = refl
  request-prev (suc c) v n = refl

  -- a function of two nodes, one of which was written
  at-all : {A : Type 0} (f : Option (Node C) → A) (m later : ℕ → Option (Node C)) (at k : ℕ) (n new : Node C) → m at ≡ Some n → later at ≡ Some new → ((j : ℕ) → j ≢ at → later j ≡ m j) → f (Some new) ≡ f (Some n) → f (later k) ≡ f (m k)
  at-all f m later at k n new was here others same = elim (cases_eq k at) [
    | inl is ↦ ap (λ (j : ℕ). f (later j)) is ∙ ap f here ∙ same ∙ sym (ap f was) ∙ sym (ap (λ (j : ℕ). f (m j)) is)
    | inr differs ↦ ap f (others k differs)
  ]

  pub NextSet-node : (m later : ℕ → Option (Node C)) (heads : List ℕ) (c at v : ℕ) (n : Node C) → 0 < at → In m c at → m at ≡ Some n → later at ≡ Some (with_next c v n) → ((k : ℕ) → k ≢ at → later k ≡ m k) → NextSet m later heads heads c at v
  NextSet-node m later heads c zero v n pos inside was here others = absurd (omega arith)
  NextSet-node m later heads c (suc at) v n pos inside was here others = record {
    here = ap (next_in c) here ∙ next-here c v n;
    others = λ d j at_d differs. elsewhere d j at_d differs;
    prev = λ d k. at-all (prev_in d) m later (suc at) k n (with_next c v n) was here others (prev-stays d c v n);
    requests = λ k. at-all request_in m later (suc at) k n (with_next c v n) was here others (ap (λ (a : Request C). Some a) (request-next c v n));
  }
    where
      elsewhere : (d j : ℕ) → (0 < j → In m d j) → (d ≡ c → j ≢ suc at) → next_at later heads d j ≡ next_at m heads d j
      elsewhere d zero at_d differs = refl
      elsewhere d (suc j) at_d differs = elim (cases_eq (suc j) (suc at)) [
        | inl same ↦
            let there : In m d (suc j) = at_d (omega arith) in
            let one : there.node ≡ n = same_Some _ _ (sym there.found ∙ ap m same ∙ was) in
            let two : inside.node ≡ n = same_Some _ _ (sym inside.found ∙ was) in
            let beside : next_in d (Some (with_next c v n)) ≡ next_in d (Some n) = next-beside d c v n (λ e. differs e same) (λ h. sym (ap (λ (x : Node C). x.request.session.number) one) ∙ there.chain h) (λ h. sym (ap (λ (x : Node C). x.request.session.number) two) ∙ inside.chain h) in
            at-all (next_in d) m later (suc at) (suc j) n (with_next c v n) was here others beside
        | inr apart ↦ ap (next_in d) (others (suc j) apart)
      ]

  pub PrevSet-node : (m later : ℕ → Option (Node C)) (tails : List ℕ) (c at v : ℕ) (n : Node C) → 0 < at → In m c at → m at ≡ Some n → later at ≡ Some (with_prev c v n) → ((k : ℕ) → k ≢ at → later k ≡ m k) → PrevSet m later tails tails c at v
  PrevSet-node m later tails c zero v n pos inside was here others = absurd (omega arith)
  PrevSet-node m later tails c (suc at) v n pos inside was here others = record {
    here = ap (prev_in c) here ∙ prev-here c v n;
    others = λ d j at_d differs. elsewhere d j at_d differs;
    next = λ d k. at-all (next_in d) m later (suc at) k n (with_prev c v n) was here others (next-stays d c v n);
    requests = λ k. at-all request_in m later (suc at) k n (with_prev c v n) was here others (ap (λ (a : Request C). Some a) (request-prev c v n));
  }
    where
      elsewhere : (d j : ℕ) → (0 < j → In m d j) → (d ≡ c → j ≢ suc at) → prev_at later tails d j ≡ prev_at m tails d j
      elsewhere d zero at_d differs = refl
      elsewhere d (suc j) at_d differs = elim (cases_eq (suc j) (suc at)) [
        | inl same ↦
            let there : In m d (suc j) = at_d (omega arith) in
            let one : there.node ≡ n = same_Some _ _ (sym there.found ∙ ap m same ∙ was) in
            let two : inside.node ≡ n = same_Some _ _ (sym inside.found ∙ was) in
            let beside : prev_in d (Some (with_prev c v n)) ≡ prev_in d (Some n) = prev-beside d c v n (λ e. differs e same) (λ h. sym (ap (λ (x : Node C). x.request.session.number) one) ∙ there.chain h) (λ h. sym (ap (λ (x : Node C). x.request.session.number) two) ∙ inside.chain h) in
            at-all (prev_in d) m later (suc at) (suc j) n (with_prev c v n) was here others beside
        | inr apart ↦ ap (prev_in d) (others (suc j) apart)
      ]

  -- the same at a key that was written
  pub next-written : {R : Type 0} (nodes later : Slab (Node C)) (places : List (Place R)) (heads : List ℕ) (c at v key : ℕ) → 0 < at → Tied nodes places → In (node_at nodes places) c at → key_at places at ≡ Some key
      → ((n : Node C) → get nodes key ≡ Some n → get later key ≡ Some (with_next c v n)) → ((other : ℕ) → other ≢ key → get later other ≡ get nodes other)
      → NextSet (node_at nodes places) (node_at later places) heads heads c at v × Tied later places
  next-written nodes later places heads c at v key pos tied inside is here others =
      let old : (n : Node C) × (get nodes key ≡ Some n) × (n.request.id ≡ at) = tied.at at key is in (
        NextSet-node (node_at nodes places) (node_at later places) heads c at v old.0 pos inside (ap (got nodes) is ∙ old.1) (ap (got later) is ∙ here old.0 old.1) (λ k differs. node_at-elsewhere nodes later places at key k tied is others differs),
        Tied-written nodes later places at key old.0 (with_next c v old.0) tied is old.1 (request-next c v old.0) (here old.0 old.1) others,
      )

  pub prev-written : {R : Type 0} (nodes later : Slab (Node C)) (places : List (Place R)) (tails : List ℕ) (c at v key : ℕ) → 0 < at → Tied nodes places → In (node_at nodes places) c at → key_at places at ≡ Some key
      → ((n : Node C) → get nodes key ≡ Some n → get later key ≡ Some (with_prev c v n)) → ((other : ℕ) → other ≢ key → get later other ≡ get nodes other)
      → PrevSet (node_at nodes places) (node_at later places) tails tails c at v × Tied later places
  prev-written nodes later places tails c at v key pos tied inside is here others =
      let old : (n : Node C) × (get nodes key ≡ Some n) × (n.request.id ≡ at) = tied.at at key is in (
        PrevSet-node (node_at nodes places) (node_at later places) tails c at v old.0 pos inside (ap (got nodes) is ∙ old.1) (ap (got later) is ∙ here old.0 old.1) (λ k differs. node_at-elsewhere nodes later places at key k tied is others differs),
        Tied-written nodes later places at key old.0 (with_prev c v old.0) tied is old.1 (request-prev c v old.0) (here old.0 old.1) others,
      )
