-- The queue after room was made, and after a request came last.
use Rattle.std.proofs.Common.{arith, ap, inl, inr, refl, set, suc, sym, zero, ◌∙◌}
use Rattle.std.proofs.lemmas.Bool.{cases_eq, eq-eqb, ne_eqb}
use Rattle.std.proofs.lemmas.List.{get_or-set_other, get_or-set_same, length-append}
use Rattle.std.proofs.lemmas.Option.{same_Some}
use Rattle.std.specs.List.{slice_get}
use Rattle.std.specs.Prelude.{Bool, List, None, Option, Some, [], if◌then◌else◌, length, slice_index, slice_index_or, ℕ, ◌++◌, ◌+◌, ◌<◌, ◌∷◌, ◌≡◌, ◌≢◌, ◌≤◌}
use Rattle.slab.specs.Slab.{Slab, Updates, get}
use Rattle.pad_words.specs.declared.numbers.Session.{Session}
use Rattle.request_queue.specs.Chains.{IsPrev}
use Rattle.request_queue.specs.Nodes.{behind_last, BothLinked, In, Sound, Tied, request_in, got, key_at, key_in, next_at, node_at, prev_at, row_before, rows_of}
use Rattle.pad_words.specs.Numbers.{same_session}
use Rattle.request_queue.specs.Requests.{gone_count, pending_count}
use Rattle.request_queue.specs.declared.nodes.Node.{Node}
use Rattle.request_queue.specs.declared.nodes.Place.{Place}
use Rattle.request_queue.specs.declared.nodes.Place.TheVariants.{Ended, Linked}
use Rattle.request_queue.specs.declared.links.Relink.{Relink}
use Rattle.request_queue.specs.declared.requests.Request.{Request}
use Rattle.request_queue.specs.declared.requests.RequestRow.{RequestRow}
use Rattle.request_queue.specs.declared.requests.RequestRow.TheVariants.{Gone, InWork, Waiting}
use Rattle.request_queue.proofs.ChainLemmas.{Chain-kept}
use Rattle.request_queue.proofs.RelinkLemmas.{request-some}
use Rattle.request_queue.proofs.RowLemmas.{length-rows, node-below, row_by, same_lists, slice_get-before_last, slice_get-last, slice_get-rows}
use Rattle.request_queue.proofs.ChainsAfter.{Chains-submitted, In-same, next_at-old, prev_at-old}
use Rattle.request_queue.proofs.Totals.{gone_count-total, gone_weight, one_if, pending_count-total, total, total-last, weight}

module _ {C : Type 0} (nodes later : Slab (Node C)) (same : later.slots ≡ nodes.slots) where
  get-slots : (key : ℕ) → get later key ≡ get nodes key
  get-slots key = ap (λ (slots : List (Option (Node C))). slice_index_or slots key None) same

  got-slots : (o : Option ℕ) → got later o ≡ got nodes o
  got-slots None = refl
  got-slots (Some key) = get-slots key

  node-slots : {R : Type 0} (places : List (Place R)) (k : ℕ) → node_at later places k ≡ node_at nodes places k
  node-slots places k = got-slots (key_at places k)

  rows-slots : {R : Type 0} (running : ℕ) (places : List (Place R)) → rows_of {C = C} {R = R} running later places ≡ rows_of running nodes places
  rows-slots running [] = refl
  rows-slots {R} running (Ended id session reply ∷ places) = ap (λ (rows : List (RequestRow C R)). Gone id session reply ∷ rows) (rows-slots running places)
  rows-slots {R} running (Linked key ∷ places) =
      ap (λ (o : Option (Node C)). row_before running o (rows_of {C = C} {R = R} running later places)) (get-slots key)
      ∙ ap (λ (rows : List (RequestRow C R)). row_before running (get nodes key) rows) (rows-slots running places)

  -- more room changes nothing
  pub sound-slots : {R : Type 0} (running gone : ℕ) (places : List (Place R)) (heads tails counts : List ℕ) → Sound running gone nodes places heads tails counts → Sound running gone later places heads tails counts
  sound-slots {R} running gone places heads tails counts sound = record {
    fits = sound.fits;
    tied = record { at = λ id key e. let n = sound.tied.at id key e in (n.0, get-slots key ∙ n.1, n.2) };
    named = sound.named;
    chains = λ c bound. Chain-kept (In (node_at nodes places) c) (In (node_at later places) c) (next_at (node_at nodes places) heads c) (prev_at (node_at nodes places) tails c) (next_at (node_at later places) heads c) (prev_at (node_at later places) tails c) (sound.chains c bound)
        (λ k inside. In-same (node_at nodes places) (node_at later places) c k (node-slots places k) inside)
        (λ k inside. In-same (node_at later places) (node_at nodes places) c k (sym (node-slots places k)) inside)
        (λ j at. next_at-old (node_at nodes places) (node_at later places) heads c j (λ _. node-slots places j))
        (λ j at. prev_at-old (node_at nodes places) (node_at later places) tails c j (λ _. node-slots places j));
    work = λ h. let n = sound.work h in (n.0, node-slots places running ∙ n.1);
    counted = λ session. sound.counted session ∙ ap (λ (rows : List (RequestRow C R)). pending_count session rows) (sym (rows-slots running places));
    few = λ session. omega (arith, sound.few session, ap (λ (rows : List (RequestRow C R)). pending_count session rows) (rows-slots running places));
    ended = sound.ended ∙ ap (λ (rows : List (RequestRow C R)). gone_count rows) (sym (rows-slots running places));
  }

  pub rows-reserved : {R : Type 0} (running : ℕ) (places : List (Place R)) → rows_of {C = C} {R = R} running later places ≡ rows_of running nodes places
  rows-reserved running places = rows-slots running places

module _ {R : Type 0} where
  key_at-last : (places : List (Place R)) (key x : ℕ) → x ≡ suc (length places) → key_at (places ++ Linked key ∷ []) x ≡ Some key
  key_at-last places key x is = ap (λ (y : ℕ). key_at (places ++ Linked key ∷ []) y) is ∙ ap key_in (slice_get-last places (Linked key))

  key_at-before : (places : List (Place R)) (key x k : ℕ) → x ≡ suc (length places) → k ≢ x → key_at (places ++ Linked key ∷ []) k ≡ key_at places k
  key_at-before places key x zero is differs = refl
  key_at-before places key x (suc k) is differs = ap key_in (slice_get-before_last places (Linked key) k (λ e. differs (omega (arith, e, is))))

abbrev row_if : {C R : Type 0} → Bool → Request C → Option (RequestRow C R)
row_if b a = Some (if b then InWork a else Waiting a)

-- a request came last
module _ {C R : Type 0} (running gone : ℕ) (nodes mid : Slab (Node C)) (places : List (Place R)) (heads tails counts : List ℕ) (key x : ℕ) (node : Node C)
    (sound : Sound running gone nodes places heads tails counts)
    (x_is : x ≡ suc (length places))
    (vacant : get nodes key ≡ None)
    (inserted : Updates nodes mid key (Some node))
    (id_is : node.request.id ≡ x) where
  apart-key : (k other : ℕ) → key_at places k ≡ Some other → other ≢ key
  apart-key k other e same =
      let n = sound.tied.at k other e in
      let no : None ≡ Some n.0 = sym vacant ∙ ap (get nodes) (sym same) ∙ n.1 in
      cc

  got-old : (at : Option ℕ) → ((other : ℕ) → at ≡ Some other → other ≢ key) → got mid at ≡ got nodes at
  got-old None apart = refl
  got-old (Some other) apart = inserted.others other (apart other refl)

  new-node : node_at mid (places ++ Linked key ∷ []) x ≡ Some node
  new-node = ap (got mid) (key_at-last places key x x_is) ∙ inserted.changed

  old-node : (k : ℕ) → k ≢ x → node_at mid (places ++ Linked key ∷ []) k ≡ node_at nodes places k
  old-node k differs = ap (got mid) (key_at-before places key x k x_is differs) ∙ got-old (key_at places k) (λ other e. apart-key k other e)

  pub submitted-tied : Tied mid (places ++ Linked key ∷ [])
  submitted-tied = record {
    at = λ k other e. elim (cases_eq k x) [
      | inl same ↦
          let key_is : Some key ≡ Some other = sym (key_at-last places key x x_is) ∙ ap (key_at (places ++ Linked key ∷ [])) (sym same) ∙ e in
          (node, ap (get mid) (sym (same_Some key other key_is)) ∙ inserted.changed, id_is ∙ sym same)
      | inr differs ↦
          let old : key_at places k ≡ Some other = sym (key_at-before places key x k x_is differs) ∙ e in
          let n = sound.tied.at k other old in
          (n.0, inserted.others other (apart-key k other old) ∙ n.1, n.2)
    ];
  }

  below : (k : ℕ) (n : Node C) → node_at nodes places k ≡ Some n → k < x
  below k n e = omega (arith, (node-below nodes places k n e).1, x_is)

  -- the last of each chain is a request of that chain
  pub last-inside : (c : ℕ) → c < 17 → 0 < slice_index tails c → In (node_at mid (places ++ Linked key ∷ [])) c (slice_index tails c)
  last-inside c bound some =
      let end : IsPrev (In (node_at nodes places) c) 0 (slice_index tails c) = (sound.chains c bound).before 0 (λ h. absurd (omega (arith, h))) in
      let inside : In (node_at nodes places) c (slice_index tails c) = (end.found some).0 in
      In-same (node_at nodes places) (node_at mid (places ++ Linked key ∷ [])) c (slice_index tails c) (old-node (slice_index tails c) (omega (arith, below (slice_index tails c) inside.node inside.found))) inside

  module _ (later : Slab (Node C)) (heads_later tails_later : List ℕ) (all own : Relink)
      (fits : length places < 4294967294)
      (room : slice_index counts node.request.session.number < 16)
      (sized : length counts ≡ 17)
      (all_links : node.all ≡ record { prev = slice_index tails 0; next = 0 })
      (own_links : node.own ≡ record { prev = slice_index tails node.request.session.number; next = 0 })
      (all_is : all ≡ behind_last (slice_index tails 0) x)
      (own_is : own ≡ behind_last (slice_index tails node.request.session.number) x)
      (tied : Tied later (places ++ Linked key ∷ []))
      (both : BothLinked (node_at mid (places ++ Linked key ∷ [])) (node_at later (places ++ Linked key ∷ [])) heads heads_later tails tails_later node.request.session.number all own) where
    running-old : node.request.id ≢ running
    running-old same = elim (cases_eq running 0) [
      | inl none ↦ omega (arith, same, none, id_is, x_is)
      | inr some ↦
          let n = sound.work (omega (arith, some)) in
          omega (arith, below running n.0 n.1, same, id_is)
    ]

    request-old : (k : ℕ) → k ≢ x → request_in (node_at later (places ++ Linked key ∷ []) k) ≡ request_in (node_at nodes places k)
    request-old k differs = both.requests k ∙ ap request_in (old-node k differs)

    rows-len : length (rows_of {C = C} {R = R} running nodes places) ≡ length places
    rows-len = length-rows running nodes places sound.tied

    pub submitted-rows : rows_of running later (places ++ Linked key ∷ []) ≡ rows_of {C = C} {R = R} running nodes places ++ Waiting node.request ∷ []
    submitted-rows = same_lists (rows_of running later (places ++ Linked key ∷ [])) (rows_of running nodes places ++ Waiting node.request ∷ []) (λ k. slice_get-rows running later (places ++ Linked key ∷ []) k tied ∙ pointwise k)
      where
        pointwise : (k : ℕ) → row_by running (slice_get (places ++ Linked key ∷ []) k) (request_in (node_at later (places ++ Linked key ∷ []) (suc k))) ≡ slice_get (rows_of {C = C} {R = R} running nodes places ++ Waiting node.request ∷ []) k
        pointwise k = elim (cases_eq k (length places)) [
          | inl same ↦
              let at : slice_get (places ++ Linked key ∷ []) k ≡ Some (Linked key) = ap (slice_get (places ++ Linked key ∷ [])) same ∙ slice_get-last places (Linked key) in
              let request : request_in (node_at later (places ++ Linked key ∷ []) (suc k)) ≡ Some node.request = ap (λ (j : ℕ). request_in (node_at later (places ++ Linked key ∷ []) j)) (let e : suc k ≡ x = omega (arith, same, x_is) in e) ∙ both.requests x ∙ ap request_in new-node in
              ap (λ (p : Option (Place R)). row_by running p (request_in (node_at later (places ++ Linked key ∷ []) (suc k)))) at
              ∙ ap (λ (o : Option (Request C)). row_by {C = C} {R = R} running (Some (Linked key)) o) request
              ∙ ap (λ (b : Bool). row_if b node.request) (ne_eqb node.request.id running running-old)
              ∙ sym (ap (slice_get (rows_of {C = C} {R = R} running nodes places ++ Waiting node.request ∷ [])) (same ∙ sym rows-len) ∙ slice_get-last (rows_of running nodes places) (Waiting node.request))
          | inr differs ↦
              ap (λ (p : Option (Place R)). row_by running p (request_in (node_at later (places ++ Linked key ∷ []) (suc k)))) (slice_get-before_last places (Linked key) k differs)
              ∙ ap (λ (o : Option (Request C)). row_by {C = C} {R = R} running (slice_get places k) o) (request-old (suc k) (λ e. differs (omega (arith, e, x_is))))
              ∙ sym (slice_get-rows running nodes places k sound.tied)
              ∙ sym (slice_get-before_last (rows_of running nodes places) (Waiting node.request) k (λ e. differs (e ∙ rows-len)))
        ]

    submitted-count : (session : Session) → pending_count session (rows_of running later (places ++ Linked key ∷ [])) ≡ pending_count session (rows_of {C = C} {R = R} running nodes places) + one_if (same_session node.request.session session)
    submitted-count session =
        let one : pending_count session (rows_of running later (places ++ Linked key ∷ [])) ≡ total (weight session) (rows_of {C = C} {R = R} running nodes places ++ Waiting node.request ∷ []) = ap (λ (rows : List (RequestRow C R)). pending_count session rows) submitted-rows ∙ pending_count-total session (rows_of running nodes places ++ Waiting node.request ∷ []) in
        let two : total (weight session) (rows_of {C = C} {R = R} running nodes places ++ Waiting node.request ∷ []) ≡ total (weight session) (rows_of {C = C} {R = R} running nodes places) + one_if (same_session node.request.session session) = total-last (weight session) (rows_of running nodes places) (Waiting node.request) in
        let three : pending_count session (rows_of {C = C} {R = R} running nodes places) ≡ total (weight session) (rows_of {C = C} {R = R} running nodes places) = pending_count-total session (rows_of running nodes places) in
        omega (arith, one, two, three)

    pub submitted-sound : Sound running gone later (places ++ Linked key ∷ []) heads_later tails_later (set counts node.request.session.number (slice_index counts node.request.session.number + 1))
    submitted-sound = record {
      fits = let e : length (places ++ Linked key ∷ []) ≡ length places + 1 = length-append places (Linked key ∷ []) in omega (arith, fits, e);
      tied = tied;
      named = λ k id session reply e. elim (cases_eq k (length places)) [
        | inl same ↦ let no : Some (Linked key) ≡ Some (Ended id session reply) = sym (slice_get-last places (Linked key)) ∙ ap (slice_get (places ++ Linked key ∷ [])) (sym same) ∙ e in cc
        | inr differs ↦ sound.named k id session reply (sym (slice_get-before_last places (Linked key) k differs) ∙ e)
      ];
      chains = Chains-submitted (node_at nodes places) (node_at mid (places ++ Linked key ∷ [])) (node_at later (places ++ Linked key ∷ [])) heads heads_later tails tails_later node.request.session.number x node all own sound.chains (omega (arith, x_is)) below new-node old-node node.request.session.valid.0 refl all_links own_links all_is own_is both;
      work = λ h.
          let n = sound.work h in
          let now = request-some (node_at later (places ++ Linked key ∷ []) running) n.0.request (request-old running (omega (arith, below running n.0 n.1)) ∙ ap request_in n.1) in
          (now.0, now.1);
      counted = λ session. counts-at session;
      few = λ session. few-at session;
      ended = gone-same;
    }
      where
        counts-at : (session : Session) → slice_index (set counts node.request.session.number (slice_index counts node.request.session.number + 1)) session.number ≡ pending_count session (rows_of running later (places ++ Linked key ∷ []))
        counts-at session = elim (cases_eq session.number node.request.session.number) [
          | inl same ↦
              let one : one_if (same_session node.request.session session) ≡ 1 = ap one_if (eq-eqb node.request.session.number session.number (sym same)) in
              let old : slice_index counts session.number ≡ pending_count session (rows_of {C = C} {R = R} running nodes places) = sound.counted session in
              let moved : slice_index counts session.number ≡ slice_index counts node.request.session.number = ap (slice_index counts) same in
              let new : slice_index (set counts node.request.session.number (slice_index counts node.request.session.number + 1)) session.number ≡ slice_index counts node.request.session.number + 1 = ap (slice_index (set counts node.request.session.number (slice_index counts node.request.session.number + 1))) same ∙ get_or-set_same counts node.request.session.number (slice_index counts node.request.session.number + 1) 0 (omega (arith, sized, node.request.session.valid.1)) in
              omega (arith, one, old, moved, new, submitted-count session)
          | inr differs ↦
              let none : one_if (same_session node.request.session session) ≡ 0 = ap one_if (ne_eqb node.request.session.number session.number (λ e. differs (sym e))) in
              let old : slice_index counts session.number ≡ pending_count session (rows_of {C = C} {R = R} running nodes places) = sound.counted session in
              let new : slice_index (set counts node.request.session.number (slice_index counts node.request.session.number + 1)) session.number ≡ slice_index counts session.number = get_or-set_other counts node.request.session.number session.number (slice_index counts node.request.session.number + 1) 0 differs in
              omega (arith, none, old, new, submitted-count session)
        ]

        few-at : (session : Session) → pending_count session (rows_of running later (places ++ Linked key ∷ [])) ≤ 16
        few-at session = elim (cases_eq session.number node.request.session.number) [
          | inl same ↦
              let one : one_if (same_session node.request.session session) ≡ 1 = ap one_if (eq-eqb node.request.session.number session.number (sym same)) in
              let old : slice_index counts session.number ≡ pending_count session (rows_of {C = C} {R = R} running nodes places) = sound.counted session in
              let moved : slice_index counts session.number ≡ slice_index counts node.request.session.number = ap (slice_index counts) same in
              omega (arith, one, old, moved, room, submitted-count session)
          | inr differs ↦
              let none : one_if (same_session node.request.session session) ≡ 0 = ap one_if (ne_eqb node.request.session.number session.number (λ e. differs (sym e))) in
              omega (arith, none, submitted-count session, sound.few session)
        ]

        gone-same : gone ≡ gone_count (rows_of running later (places ++ Linked key ∷ []))
        gone-same =
            let one : gone_count (rows_of running later (places ++ Linked key ∷ [])) ≡ total gone_weight (rows_of {C = C} {R = R} running nodes places ++ Waiting node.request ∷ []) = ap (λ (rows : List (RequestRow C R)). gone_count rows) submitted-rows ∙ gone_count-total (rows_of running nodes places ++ Waiting node.request ∷ []) in
            let two : total gone_weight (rows_of {C = C} {R = R} running nodes places ++ Waiting node.request ∷ []) ≡ total gone_weight (rows_of {C = C} {R = R} running nodes places) + 0 = total-last gone_weight (rows_of running nodes places) (Waiting node.request) in
            let three : gone_count (rows_of {C = C} {R = R} running nodes places) ≡ total gone_weight (rows_of {C = C} {R = R} running nodes places) = gone_count-total (rows_of running nodes places) in
            omega (arith, one, two, three, sound.ended)
