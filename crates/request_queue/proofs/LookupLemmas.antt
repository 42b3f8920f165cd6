-- What the links find, as the words on the list of rows.
use Rattle.std.proofs.Common.{arith, ap, inl, inr, refl, subst, suc, sym, ◌∙◌}
use Rattle.std.proofs.lemmas.Bool.{cases_eq, eq-eqb, eqb-true, ne_eqb}
use Rattle.std.proofs.lemmas.Option.{same_Some}
use Rattle.std.specs.List.{slice_get}
use Rattle.std.specs.Option.{option_map}
use Rattle.std.specs.Prelude.{Bool, List, None, Option, Some, false, if◌then◌else◌, not, slice_index, true, ℕ, ◌&&◌, ◌<◌, ◌==◌, ◌≡◌, ◌≢◌, ◌≤◌}
use Rattle.slab.specs.Slab.{Slab}
use Rattle.pad_words.specs.declared.numbers.Session.{Session}
use Rattle.request_queue.specs.Chains.{Chain, IsNext}
use Rattle.request_queue.specs.Nodes.{Chains, In, IsFirstDue, Tied, request_in, chain_for, id_option, next_at, next_in, node_at, prev_at, rows_of, waiting_in}
use Rattle.request_queue.specs.Requests.{HasIds, HasAtMostOneInWork, request_id, eligible, first_of, is_due, may_begin, pending_by_id, pending_where, row_id, request_in_work}
use Rattle.request_queue.specs.declared.nodes.Node.{Node}
use Rattle.request_queue.specs.declared.nodes.Place.{Place}
use Rattle.request_queue.specs.declared.nodes.Place.TheVariants.{Ended}
use Rattle.request_queue.specs.declared.requests.Request.{Request}
use Rattle.request_queue.specs.declared.requests.RequestRow.TheVariants.{Gone, InWork, Waiting}
use Rattle.request_queue.proofs.FindLemmas.{request-first, eligible-first, id-request, id-pos, pending_by_id-first, pending_where-first, pends, waits, request_in_work-first, works, working_row}
use Rattle.request_queue.proofs.RowLemmas.{node-below, node-id, row-cases}
use Rattle.request_queue.proofs.ChainsAfter.{next_at-pos}

not-true : (b : Bool) → (b ≡ true → ⊥) → b ≡ false
not-true true never = absurd (never refl)
not-true false never = refl

both-true : (a b : Bool) → a && b ≡ true → (a ≡ true) × (b ≡ true)
both-true true b e = (refl, e)
both-true false b e = cc

not-eqb : (a b : ℕ) → not (a == b) ≡ true → a ≢ b
not-eqb a b e same = let no : not true ≡ true = sym (ap (λ (c : Bool). not c) (eq-eqb a b same)) ∙ e in cc

module _ {C : Type 0} where
  waits-by : (R : Type 0) (b : Bool) (test : Request C → Bool) (a : Request C) → waits {C = C} {R = R} test (if b then InWork a else Waiting a) ≡ (not b && test a)
  waits-by R true test a = refl
  waits-by R false test a = refl

  pends-by : (R : Type 0) (b : Bool) (test : Request C → Bool) (a : Request C) → pends {C = C} {R = R} test (if b then InWork a else Waiting a) ≡ test a
  pends-by R true test a = refl
  pends-by R false test a = refl

  works-by : (R : Type 0) (b : Bool) (a : Request C) → works {C = C} {R = R} (if b then InWork a else Waiting a) ≡ b
  works-by R true a = refl
  works-by R false a = refl

  id-by : (R : Type 0) (b : Bool) (a : Request C) → row_id {C = C} {R = R} (if b then InWork a else Waiting a) ≡ a.id
  id-by R true a = refl
  id-by R false a = refl

  -- a session's requests are those of its chain
  pub may-in : (session : Option Session) (a : Request C) → may_begin session a ≡ true → 0 < chain_for session → a.session.number ≡ chain_for session
  may-in None a e h = absurd (omega arith)
  may-in (Some s) a e h = eqb-true a.session.number s.number e

  pub in-may : (session : Option Session) (a : Request C) → (0 < chain_for session → a.session.number ≡ chain_for session) → may_begin session a ≡ true
  in-may None a e = refl
  in-may (Some s) a e = eq-eqb a.session.number s.number (e s.valid.0)

  in-node : (m : ℕ → Option (Node C)) (c k : ℕ) (n : Node C) → m k ≡ Some n → In m c k → 0 < c → n.request.session.number ≡ c
  in-node m c k n e inside pos =
      let same : n ≡ inside.node = same_Some _ _ (sym e ∙ inside.found) in
      ap (λ (x : Node C). x.request.session.number) same ∙ inside.chain pos

running-by : {C R : Type 0} {running : ℕ} (b : Bool) (n a : Request C) → working_row {C = C} {R = R} a ≡ (if b then InWork n else Waiting n) → (b ≡ true → n.id ≡ running) → a.id ≡ running
running-by {C} true n a e is = let same : n ≡ a = cc in ap (λ (q : Request C). q.id) (sym same) ∙ is refl
running-by false n a e is = cc

module _ {C R : Type 0} (running : ℕ) (nodes : Slab (Node C)) (places : List (Place R)) (tied : Tied nodes places) where
  -- the pending request with an id
  pub pending_by_id-node : (id : ℕ) → pending_by_id id (rows_of {C = C} {R = R} running nodes places) ≡ request_in (node_at nodes places id)
  pending_by_id-node id =
      pending_by_id-first id (rows_of running nodes places)
      ∙ request-first (pends (λ q. q.id == id)) running nodes places id tied (λ i s r. refl)
      (λ n e. pends-by R (n.request.id == running) (λ q. q.id == id) n.request ∙ eq-eqb n.request.id id (node-id nodes places id n tied e))
      (λ k n e lt. pends-by R (n.request.id == running) (λ q. q.id == id) n.request ∙ ne_eqb n.request.id id (λ same.
      let k_is : n.request.id ≡ k = node-id nodes places k n tied e in
      let there : node_at nodes places id ≡ Some n = ap (λ (j : ℕ). node_at nodes places j) (sym same ∙ k_is) ∙ e in
      omega (arith, lt n there, same, k_is)))

  -- the request in work
  pub request_in_work-node : request_in_work (rows_of {C = C} {R = R} running nodes places) ≡ request_in (node_at nodes places running)
  request_in_work-node =
      request_in_work-first (rows_of running nodes places)
      ∙ request-first works running nodes places running tied (λ i s r. refl)
      (λ n e. works-by R (n.request.id == running) n.request ∙ eq-eqb n.request.id running (node-id nodes places running n tied e))
      (λ k n e lt. works-by R (n.request.id == running) n.request ∙ ne_eqb n.request.id running (λ same.
      let k_is : n.request.id ≡ k = node-id nodes places k n tied e in
      let there : node_at nodes places running ≡ Some n = ap (λ (j : ℕ). node_at nodes places j) (sym same ∙ k_is) ∙ e in
      omega (arith, lt n there, same, k_is)))

  pub request_in_work-id : (0 < running → (n : Node C) × (node_at nodes places running ≡ Some n)) → id_option running ≡ option_map request_id (request_in_work (rows_of {C = C} {R = R} running nodes places))
  request_in_work-id work = id-request nodes places running tied work ∙ ap (option_map request_id) (sym request_in_work-node)

  -- the first request that is due
  pub due-id : (now id : ℕ) → IsFirstDue (node_at nodes places) now id → id_option id ≡ option_map request_id (first_of (pending_where (is_due now) (rows_of {C = C} {R = R} running nodes places)))
  due-id now id first =
      id-request nodes places id tied (λ h. ((first.inside h).node, (first.inside h).found))
      ∙ ap (option_map request_id) (sym (pending_where-first (is_due now) (rows_of running nodes places)
      ∙ request-first (pends (is_due now)) running nodes places id tied (λ i s r. refl)
      (λ n e. pends-by R (n.request.id == running) (is_due now) n.request ∙ first.hit n e)
      (λ k n e lt. pends-by R (n.request.id == running) (is_due now) n.request ∙ first.miss k n e (λ h. lt (first.inside h).node (first.inside h).found))))

  -- the first of a chain
  module _ (heads tails : List ℕ) (chains : Chains (node_at nodes places) heads tails) (session : Option Session) (bound : chain_for session < 17) where
    chain : Chain (In (node_at nodes places) (chain_for session)) (next_at (node_at nodes places) heads (chain_for session)) (prev_at (node_at nodes places) tails (chain_for session))
    chain = chains (chain_for session) bound

    head : ℕ
    head = slice_index heads (chain_for session)

    from_head : IsNext (In (node_at nodes places) (chain_for session)) 0 (slice_index heads (chain_for session))
    from_head = chain.after 0 (λ h. absurd (omega (arith, h)))

    inside : (k : ℕ) (n : Node C) → node_at nodes places k ≡ Some n → may_begin session n.request ≡ true → In (node_at nodes places) (chain_for session) k
    inside k n e may = record { node = n; found = e; chain = may-in session n.request may }

    may : (k : ℕ) (n : Node C) → node_at nodes places k ≡ Some n → In (node_at nodes places) (chain_for session) k → may_begin session n.request ≡ true
    may k n e in_chain = in-may session n.request (in-node (node_at nodes places) (chain_for session) k n e in_chain)

    below-head : (k : ℕ) (n : Node C) → node_at nodes places k ≡ Some n → In (node_at nodes places) (chain_for session) k → (0 < slice_index heads (chain_for session)) × (slice_index heads (chain_for session) ≤ k)
    below-head k n e in_chain = from_head.first k in_chain (node-below nodes places k n e).0

    has-head : 0 < slice_index heads (chain_for session) → (n : Node C) × (node_at nodes places (slice_index heads (chain_for session)) ≡ Some n)
    has-head h = let there = (from_head.found h).0 in (there.node, there.found)

    pub first-id : id_option (slice_index heads (chain_for session)) ≡ option_map request_id (first_of (pending_where (may_begin session) (rows_of {C = C} {R = R} running nodes places)))
    first-id =
        id-request nodes places (slice_index heads (chain_for session)) tied has-head
        ∙ ap (option_map request_id) (sym (pending_where-first (may_begin session) (rows_of running nodes places)
        ∙ request-first (pends (may_begin session)) running nodes places (slice_index heads (chain_for session)) tied (λ i s r. refl)
        (λ n e. pends-by R (n.request.id == running) (may_begin session) n.request ∙ may (slice_index heads (chain_for session)) n e (from_head.found (id-pos nodes places (slice_index heads (chain_for session)) n e)).0)
        (λ k n e lt. pends-by R (n.request.id == running) (may_begin session) n.request ∙ not-true (may_begin session n.request) (λ yes.
        let past : (0 < slice_index heads (chain_for session)) × (slice_index heads (chain_for session) ≤ k) = below-head k n e (inside k n e yes) in
        let there : (m : Node C) × (node_at nodes places (slice_index heads (chain_for session)) ≡ Some m) = has-head past.0 in
        omega (arith, lt there.0 there.1, past.1)))))

    -- the first that waits, at this id
    waiting-at : (h : ℕ) → (0 < h → (n : Node C) × (node_at nodes places h ≡ Some n))
        → ((n : Node C) → node_at nodes places h ≡ Some n → (h ≢ running) × (may_begin session n.request ≡ true))
        → ((k : ℕ) (n : Node C) → node_at nodes places k ≡ Some n → k ≢ running → In (node_at nodes places) (chain_for session) k → (0 < h) × (h ≤ k))
        → id_option h ≡ option_map request_id (eligible session (rows_of {C = C} {R = R} running nodes places))
    waiting-at h has hit miss =
        id-request nodes places h tied has
        ∙ ap (option_map request_id) (sym (eligible-first session (rows_of running nodes places)
        ∙ request-first (waits (may_begin session)) running nodes places h tied (λ i s r. refl)
        (λ n e. waits-by R (n.request.id == running) (may_begin session) n.request ∙ yes n e (hit n e))
        (λ k n e lt. waits-by R (n.request.id == running) (may_begin session) n.request ∙ not-true (not (n.request.id == running) && may_begin session n.request) (λ passes.
        let parts : (not (n.request.id == running) ≡ true) × (may_begin session n.request ≡ true) = both-true (not (n.request.id == running)) (may_begin session n.request) passes in
        let k_is : n.request.id ≡ k = node-id nodes places k n tied e in
        let apart : n.request.id ≢ running = not-eqb n.request.id running parts.0 in
        let past : (0 < h) × (h ≤ k) = miss k n e (λ same. apart (k_is ∙ same)) (inside k n e parts.1) in
        let there : (m : Node C) × (node_at nodes places h ≡ Some m) = has past.0 in
        omega (arith, lt there.0 there.1, past.1)))))
      where
        yes : (n : Node C) → node_at nodes places h ≡ Some n → (h ≢ running) × (may_begin session n.request ≡ true) → (not (n.request.id == running) && may_begin session n.request) ≡ true
        yes n e holds =
            let id : n.request.id ≡ h = node-id nodes places h n tied e in
            let apart : (n.request.id == running) ≡ false = ne_eqb n.request.id running (λ same. holds.0 (sym id ∙ same)) in
            ap (λ (b : Bool). not b && may_begin session n.request) apart ∙ holds.1

    pub waiting-id : id_option (waiting_in (node_at nodes places) (chain_for session) (slice_index heads (chain_for session)) running) ≡ option_map request_id (eligible session (rows_of {C = C} {R = R} running nodes places))
    waiting-id = elim (cases_eq (slice_index heads (chain_for session)) running) [
      | inl same ↦ ap id_option (is_next same) ∙ second same
      | inr differs ↦
          ap id_option (is_head differs)
          ∙ waiting-at (slice_index heads (chain_for session)) has-head
          (λ n e. (differs, may (slice_index heads (chain_for session)) n e (from_head.found (id-pos nodes places (slice_index heads (chain_for session)) n e)).0))
          (λ k n e apart in_chain. below-head k n e in_chain)
    ]
      where
        is_next : slice_index heads (chain_for session) ≡ running → waiting_in (node_at nodes places) (chain_for session) (slice_index heads (chain_for session)) running ≡ next_in (chain_for session) (node_at nodes places (slice_index heads (chain_for session)))
        is_next same = ap (λ (b : Bool). if b then next_in (chain_for session) (node_at nodes places (slice_index heads (chain_for session))) else slice_index heads (chain_for session)) (eq-eqb _ _ same)

        is_head : slice_index heads (chain_for session) ≢ running → waiting_in (node_at nodes places) (chain_for session) (slice_index heads (chain_for session)) running ≡ slice_index heads (chain_for session)
        is_head differs = ap (λ (b : Bool). if b then next_in (chain_for session) (node_at nodes places (slice_index heads (chain_for session))) else slice_index heads (chain_for session)) (ne_eqb _ _ differs)

        second : slice_index heads (chain_for session) ≡ running → id_option (next_in (chain_for session) (node_at nodes places (slice_index heads (chain_for session)))) ≡ option_map request_id (eligible session (rows_of {C = C} {R = R} running nodes places))
        second same = elim (cases_eq (slice_index heads (chain_for session)) 0) [
          | inl none ↦
              let empty : next_in (chain_for session) (node_at nodes places (slice_index heads (chain_for session))) ≡ 0 = ap (λ (j : ℕ). next_in (chain_for session) (node_at nodes places j)) none in
              waiting-at (next_in (chain_for session) (node_at nodes places (slice_index heads (chain_for session))))
              (λ h. absurd (omega (arith, h, empty)))
              (λ n e. absurd (omega (arith, id-pos nodes places _ n e, empty)))
              (λ k n e apart in_chain. absurd (omega (arith, (below-head k n e in_chain).0, none)))
          | inr some ↦
              let pos : 0 < slice_index heads (chain_for session) = omega (arith, some) in
              let from : IsNext (In (node_at nodes places) (chain_for session)) (slice_index heads (chain_for session)) (next_in (chain_for session) (node_at nodes places (slice_index heads (chain_for session)))) =
              subst (λ (j : ℕ). IsNext (In (node_at nodes places) (chain_for session)) (slice_index heads (chain_for session)) j) (next_at-pos (node_at nodes places) heads (chain_for session) (slice_index heads (chain_for session)) pos) (chain.after (slice_index heads (chain_for session)) (λ h. (from_head.found h).0)) in
              waiting-at (next_in (chain_for session) (node_at nodes places (slice_index heads (chain_for session))))
              (λ h. let there = (from.found h).0 in (there.node, there.found))
              (λ n e.
              let next_pos = id-pos nodes places _ n e in
              let there = from.found next_pos in
              (omega (arith, there.1, same), may _ n e there.0))
              (λ k n e apart in_chain.
              let past = below-head k n e in_chain in
              from.first k in_chain (omega (arith, past.1, apart, same)))
        ]

  -- ids
  pub has-ids : ((i id : ℕ) (session : Session) (reply : R) → slice_get places i ≡ Some (Ended id session reply) → id ≡ suc i) → HasIds (rows_of {C = C} {R = R} running nodes places)
  has-ids named = record {
    at = λ i row e. elim (row-cases running nodes places i row tied e) [
      | inl found ↦ ap row_id found.2 ∙ id-by R (found.0.request.id == running) found.0.request ∙ node-id nodes places (suc i) found.0 tied found.1
      | inr ended ↦ ap row_id ended.4 ∙ named i ended.0 ended.1 ended.2 ended.3
    ];
  }

  -- at most one request is in work
  in-work-id : (i : ℕ) (a : Request C) → slice_get (rows_of {C = C} {R = R} running nodes places) i ≡ Some (InWork a) → a.id ≡ running
  in-work-id i a e = elim (row-cases running nodes places i (InWork a) tied e) [
    | inl found ↦ running-by (found.0.request.id == running) found.0.request a found.2 (λ same. eqb-true found.0.request.id running same)
    | inr ended ↦ let no : working_row {C = C} {R = R} a ≡ Gone ended.0 ended.1 ended.2 = ended.4 in cc
  ]

  pub one-in-work : ((i id : ℕ) (session : Session) (reply : R) → slice_get places i ≡ Some (Ended id session reply) → id ≡ suc i) → HasAtMostOneInWork (rows_of {C = C} {R = R} running nodes places)
  one-in-work named = record {
    at = λ i j a b at_i at_j.
        let ids : HasIds (rows_of {C = C} {R = R} running nodes places) = has-ids named in
        let first : a.id ≡ suc i = ids.at i (InWork a) at_i in
        let second : b.id ≡ suc j = ids.at j (InWork b) at_j in
        omega (arith, first, second, in-work-id i a at_i, in-work-id j b at_j);
  }

-- the links of the whole chain, as a walk needs them
module _ {C R : Type 0} (nodes : Slab (Node C)) (places : List (Place R)) (heads tails : List ℕ) (chains : Chains (node_at nodes places) heads tails) where
  pub walk-head : IsNext (In (node_at nodes places) 0) 0 (slice_index heads 0)
  walk-head = (chains 0 (omega arith)).after 0 (λ h. absurd (omega (arith, h)))

  pub walk-links : (k : ℕ) (n : Node C) → node_at nodes places k ≡ Some n → IsNext (In (node_at nodes places) 0) k n.all.next
  walk-links k n e =
      let pos : 0 < k = (node-below nodes places k n e).0 in
      subst (λ (j : ℕ). IsNext (In (node_at nodes places) 0) k j) (next_at-pos (node_at nodes places) heads 0 k pos ∙ ap (next_in 0) e) ((chains 0 (omega arith)).after k (λ _. record { node = n; found = e; chain = λ h. absurd (omega (arith, h)) }))
