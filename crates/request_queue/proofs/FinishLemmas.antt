-- The queue after a request ended.
use Rattle.std.proofs.Common.{arith, ap, inl, inr, refl, set, suc, sym, zero, ◌∙◌}
use Rattle.std.proofs.lemmas.Bool.{cases_eq, eq-eqb, ne_eqb}
use Rattle.std.proofs.lemmas.List.{get_or-set_other, get_or-set_same, length-set}
use Rattle.std.proofs.lemmas.Option.{slice_get-map, slice_get_within}
use Rattle.std.specs.List.{slice_get}
use Rattle.std.specs.Option.{option_map}
use Rattle.std.specs.Prelude.{Bool, List, None, Option, Some, [], false, if◌then◌else◌, length, map, slice_index, true, ℕ, ◌+◌, ◌-◌, ◌<◌, ◌==◌, ◌∷◌, ◌≡◌, ◌≢◌}
use Rattle.slab.specs.Slab.{Slab, Updates, get}
use Rattle.pad_words.specs.declared.numbers.Session.{Session}
use Rattle.request_queue.specs.Nodes.{around, BothLinked, Sound, Tied, request_in, got, key_at, key_in, node_at, row_of, rows_of}
use Rattle.pad_words.specs.Numbers.{same_session}
use Rattle.request_queue.specs.Requests.{HasIds, ended_where, gone_count, pending_count, row_id}
use Rattle.request_queue.specs.declared.nodes.Node.{Node}
use Rattle.request_queue.specs.declared.nodes.Place.{Place}
use Rattle.request_queue.specs.declared.nodes.Place.TheVariants.{Ended, Linked}
use Rattle.request_queue.specs.declared.links.Relink.{Relink}
use Rattle.request_queue.specs.declared.requests.Request.{Request}
use Rattle.request_queue.specs.declared.requests.RequestRow.{RequestRow}
use Rattle.request_queue.specs.declared.requests.RequestRow.TheVariants.{Gone, InWork, Waiting}
use Rattle.request_queue.proofs.LookupLemmas.{has-ids}
use Rattle.request_queue.proofs.NodeLemmas.{key_once}
use Rattle.request_queue.proofs.RelinkLemmas.{request-some}
use Rattle.request_queue.proofs.RowLemmas.{length-rows, node-below, node-id, row-pending, row_by, same_lists, slice_get-rows, slice_get-set_other, slice_get-set_same}
use Rattle.request_queue.proofs.ChainsAfter.{Chains-finished}
use Rattle.request_queue.proofs.Totals.{gone-row, gone_count-total, gone_weight, one_if, pending_count-total, total, total-set, weight, weight-row}

-- rows that end, row by row
abbrev pub ended_row : {C R : Type 0} → (Request C → Bool) → R → RequestRow C R → RequestRow C R
ended_row test reply (Waiting q) = if test q then Gone q.id q.session reply else Waiting q
ended_row test reply (InWork q) = if test q then Gone q.id q.session reply else InWork q
ended_row test reply (Gone id session earlier) = Gone id session earlier

pub ended_where-map : {C R : Type 0} (test : Request C → Bool) (reply : R) (rows : List (RequestRow C R)) → ended_where test reply rows ≡ map (ended_row test reply) rows
ended_where-map test reply [] = refl
ended_where-map {C} {R} test reply (Waiting q ∷ rows) = ap (λ (rest : List (RequestRow C R)). ended_row test reply (Waiting q) ∷ rest) (ended_where-map test reply rows)
ended_where-map {C} {R} test reply (InWork q ∷ rows) = ap (λ (rest : List (RequestRow C R)). ended_row test reply (InWork q) ∷ rest) (ended_where-map test reply rows)
ended_where-map {C} {R} test reply (Gone id session earlier ∷ rows) = ap (λ (rest : List (RequestRow C R)). Gone id session earlier ∷ rest) (ended_where-map test reply rows)

key_at-set_other : {R : Type 0} (places : List (Place R)) (i k : ℕ) (place : Place R) → k ≢ suc i → key_at (set places i place) k ≡ key_at places k
key_at-set_other places i zero place differs = refl
key_at-set_other places i (suc k) place differs = ap key_in (slice_get-set_other places i k place (λ e. differs (ap (λ (n : ℕ). suc n) e)))

module _ {C R : Type 0} where
  abbrev gone_as : ℕ → Session → R → RequestRow C R
  gone_as id session reply = Gone id session reply

  ended-other : (id : ℕ) (reply : R) (row : RequestRow C R) → row_id row ≢ id → ended_row (λ q. q.id == id) reply row ≡ row
  ended-other id reply (Waiting q) differs = ap (λ (b : Bool). if b then Gone q.id q.session reply else Waiting q) (ne_eqb q.id id differs)
  ended-other id reply (InWork q) differs = ap (λ (b : Bool). if b then Gone q.id q.session reply else InWork q) (ne_eqb q.id id differs)
  ended-other id reply (Gone gone session earlier) differs = refl

  ended-by : (b : Bool) (id : ℕ) (reply : R) (a : Request C) → a.id ≡ id → ended_row (λ q. q.id == id) reply (if b then InWork a else Waiting a) ≡ Gone a.id a.session reply
  ended-by true id reply a same = ap (λ (b : Bool). if b then Gone a.id a.session reply else InWork a) (eq-eqb a.id id same)
  ended-by false id reply a same = ap (λ (b : Bool). if b then Gone a.id a.session reply else Waiting a) (eq-eqb a.id id same)

  ended-others : (id : ℕ) (reply : R) (o : Option (RequestRow C R)) → ((row : RequestRow C R) → o ≡ Some row → row_id row ≢ id) → option_map (ended_row (λ q. q.id == id) reply) o ≡ o
  ended-others id reply None differs = refl
  ended-others id reply (Some row) differs = ap (λ (r : RequestRow C R). Some r) (ended-other id reply row (differs row refl))

  -- the row of this place alone ends
  pub ended-set : (rows : List (RequestRow C R)) (i running : ℕ) (reply : R) (a : Request C) → HasIds rows → slice_get rows i ≡ Some (row_of running a) → a.id ≡ suc i → ended_where (λ q. q.id == suc i) reply rows ≡ set rows i (Gone (suc i) a.session reply)
  ended-set rows i running reply a ids at is = ended_where-map (λ q. q.id == suc i) reply rows ∙ same_lists (map (ended_row (λ q. q.id == suc i) reply) rows) (set rows i (Gone (suc i) a.session reply)) pointwise
    where
      pointwise : (k : ℕ) → slice_get (map (ended_row (λ q. q.id == suc i) reply) rows) k ≡ slice_get (set rows i (Gone (suc i) a.session reply)) k
      pointwise k = slice_get-map (ended_row (λ q. q.id == suc i) reply) rows k ∙ elim (cases_eq k i) [
        | inl same ↦
            ap (λ (j : ℕ). option_map (ended_row (λ q. q.id == suc i) reply) (slice_get rows j)) same
            ∙ ap (option_map (ended_row (λ q. q.id == suc i) reply)) at
            ∙ ap (λ (r : RequestRow C R). Some r) (ended-by (a.id == running) (suc i) reply a is ∙ ap (λ (id : ℕ). gone_as id a.session reply) is)
            ∙ sym (ap (slice_get (set rows i (Gone (suc i) a.session reply))) same ∙ slice_get-set_same rows i (Gone (suc i) a.session reply) (slice_get_within rows i (row_of running a) at))
        | inr differs ↦
            ended-others (suc i) reply (slice_get rows k) (λ row e. λ same. differs (let id : row_id row ≡ suc k = ids.at k row e in omega (arith, id, same)))
            ∙ sym (slice_get-set_other rows i k (Gone (suc i) a.session reply) differs)
      ]

  -- a row that is not the one in work is the same after another was
  row-kept : (r later k : ℕ) (p : Option (Place R)) (o : Option (Request C)) → ((a : Request C) → o ≡ Some a → row_of {C = C} {R = R} later a ≡ row_of r a) → row_by later p o ≡ row_by r p o
  row-kept r later k None o same = refl
  row-kept r later k (Some (Ended id session reply)) o same = refl
  row-kept r later k (Some (Linked key)) None same = refl
  row-kept r later k (Some (Linked key)) (Some a) same = ap (λ (row : RequestRow C R). Some row) (same a refl)

  apart-row : (r x : ℕ) (a : Request C) → a.id ≢ x → a.id ≢ 0 → row_of {C = C} {R = R} (if r == x then 0 else r) a ≡ row_of r a
  apart-row r x a not_x not_zero = elim (cases_eq r x) [
    | inl same ↦
        ap (λ (b : Bool). row_of {C = C} {R = R} (if b then 0 else r) a) (eq-eqb r x same)
        ∙ ap (λ (b : Bool). if b then InWork a else Waiting a) (ne_eqb a.id 0 not_zero ∙ sym (ne_eqb a.id r (λ e. not_x (e ∙ same))))
    | inr differs ↦ ap (λ (b : Bool). row_of {C = C} {R = R} (if b then 0 else r) a) (ne_eqb r x differs)
  ]

  module _ (running gone : ℕ) (nodes mid later : Slab (Node C)) (places : List (Place R)) (heads heads_later tails tails_later counts : List ℕ) (i key : ℕ) (n : Node C) (reply : R) (all own : Relink)
      (sound : Sound running gone nodes places heads tails counts)
      (here : node_at nodes places (suc i) ≡ Some n)
      (key_is : key_at places (suc i) ≡ Some key)
      (mid_tied : Tied mid places)
      (removed : Updates mid later key None)
      (all_is : all ≡ around n.all)
      (own_is : own ≡ around n.own)
      (both : BothLinked (node_at nodes places) (node_at mid places) heads heads_later tails tails_later n.request.session.number all own)
      (sized : length counts ≡ 17) where
    after : List (Place R)
    after = set places i (Ended (suc i) n.request.session reply)

    rows : List (RequestRow C R)
    rows = rows_of running nodes places

    row : RequestRow C R
    row = Gone (suc i) n.request.session reply

    i-within : i < length places
    i-within = omega (arith, (node-below nodes places (suc i) n here).1)

    key-gone : key_at (set places i (Ended (suc i) n.request.session reply)) (suc i) ≡ None
    key-gone = ap key_in (slice_get-set_same places i (Ended (suc i) n.request.session reply) i-within)

    gone-node : node_at later (set places i (Ended (suc i) n.request.session reply)) (suc i) ≡ None
    gone-node = ap (got later) key-gone

    got-kept : (at : Option ℕ) → ((other : ℕ) → at ≡ Some other → other ≢ key) → got later at ≡ got mid at
    got-kept None apart = refl
    got-kept (Some other) apart = removed.others other (apart other refl)

    rest : (k : ℕ) → k ≢ suc i → node_at later (set places i (Ended (suc i) n.request.session reply)) k ≡ node_at mid places k
    rest k differs =
        ap (got later) (key_at-set_other places i k (Ended (suc i) n.request.session reply) differs)
        ∙ got-kept (key_at places k) (λ other e same. differs (key_once mid places k (suc i) key mid_tied (e ∙ ap (λ (x : ℕ). Some x) same) key_is))

    pub finished-tied : Tied later (set places i (Ended (suc i) n.request.session reply))
    finished-tied = record {
      at = λ k other e. elim (cases_eq k (suc i)) [
        | inl same ↦ let none : None ≡ Some other = sym key-gone ∙ ap (key_at (set places i (Ended (suc i) n.request.session reply))) (sym same) ∙ e in cc
        | inr differs ↦
            let old : key_at places k ≡ Some other = sym (key_at-set_other places i k (Ended (suc i) n.request.session reply) differs) ∙ e in
            let has : (m : Node C) × (get mid other ≡ Some m) × (m.request.id ≡ k) = mid_tied.at k other old in
            let apart : other ≢ key = λ same. differs (key_once mid places k (suc i) key mid_tied (old ∙ ap (λ (x : ℕ). Some x) same) key_is) in
            (has.0, removed.others other apart ∙ has.1, has.2)
      ];
    }

    finished-request : (k : ℕ) → k ≢ suc i → request_in (node_at later (set places i (Ended (suc i) n.request.session reply)) k) ≡ request_in (node_at nodes places k)
    finished-request k differs = ap request_in (rest k differs) ∙ both.requests k

    -- the rows are the old ones but for this one
    finished-set : rows_of (if running == suc i then 0 else running) later (set places i (Ended (suc i) n.request.session reply)) ≡ set (rows_of {C = C} {R = R} running nodes places) i (Gone (suc i) n.request.session reply)
    finished-set = same_lists (rows_of (if running == suc i then 0 else running) later (set places i (Ended (suc i) n.request.session reply))) (set (rows_of running nodes places) i (Gone (suc i) n.request.session reply)) (λ k. slice_get-rows (if running == suc i then 0 else running) later (set places i (Ended (suc i) n.request.session reply)) k finished-tied ∙ pointwise k)
      where
        in-rows : i < length (rows_of {C = C} {R = R} running nodes places)
        in-rows = omega (arith, length-rows running nodes places sound.tied, i-within)

        same-row : (k : ℕ) (a : Request C) → k ≢ i → request_in (node_at nodes places (suc k)) ≡ Some a → row_of {C = C} {R = R} (if running == suc i then 0 else running) a ≡ row_of running a
        same-row k a differs e =
            let m : (m : Node C) × (node_at nodes places (suc k) ≡ Some m) × (m.request ≡ a) = request-some (node_at nodes places (suc k)) a e in
            let id : a.id ≡ suc k = ap (λ (x : Request C). x.id) (sym m.2) ∙ node-id nodes places (suc k) m.0 sound.tied m.1 in
            apart-row running (suc i) a (λ same. differs (omega (arith, id, same))) (λ none. omega (arith, id, none))

        pointwise : (k : ℕ) → row_by (if running == suc i then 0 else running) (slice_get (set places i (Ended (suc i) n.request.session reply)) k) (request_in (node_at later (set places i (Ended (suc i) n.request.session reply)) (suc k))) ≡ slice_get (set (rows_of {C = C} {R = R} running nodes places) i (Gone (suc i) n.request.session reply)) k
        pointwise k = elim (cases_eq k i) [
          | inl same ↦
              ap (λ (p : Option (Place R)). row_by (if running == suc i then 0 else running) p (request_in (node_at later (set places i (Ended (suc i) n.request.session reply)) (suc k)))) (ap (slice_get (set places i (Ended (suc i) n.request.session reply))) same ∙ slice_get-set_same places i (Ended (suc i) n.request.session reply) i-within)
              ∙ sym (ap (slice_get (set (rows_of {C = C} {R = R} running nodes places) i (Gone (suc i) n.request.session reply))) same ∙ slice_get-set_same (rows_of running nodes places) i (Gone (suc i) n.request.session reply) in-rows)
          | inr differs ↦
              ap (λ (p : Option (Place R)). row_by (if running == suc i then 0 else running) p (request_in (node_at later (set places i (Ended (suc i) n.request.session reply)) (suc k)))) (slice_get-set_other places i k (Ended (suc i) n.request.session reply) differs)
              ∙ ap (λ (o : Option (Request C)). row_by (if running == suc i then 0 else running) (slice_get places k) o) (finished-request (suc k) (λ e. differs (omega (arith, e))))
              ∙ row-kept running (if running == suc i then 0 else running) k (slice_get places k) (request_in (node_at nodes places (suc k))) (λ a e. same-row k a differs e)
              ∙ sym (slice_get-rows running nodes places k sound.tied)
              ∙ sym (slice_get-set_other (rows_of running nodes places) i k (Gone (suc i) n.request.session reply) differs)
        ]

    at-row : slice_get (rows_of {C = C} {R = R} running nodes places) i ≡ Some (row_of running n.request)
    at-row = row-pending running nodes places i n sound.tied here

    pub finished-rows : rows_of (if running == suc i then 0 else running) later (set places i (Ended (suc i) n.request.session reply)) ≡ ended_where (λ q. q.id == suc i) reply (rows_of {C = C} {R = R} running nodes places)
    finished-rows = finished-set ∙ sym (ended-set (rows_of running nodes places) i running reply n.request (has-ids running nodes places sound.tied sound.named) at-row (node-id nodes places (suc i) n sound.tied here))

    finished-count : (session : Session) → pending_count session (rows_of (if running == suc i then 0 else running) later (set places i (Ended (suc i) n.request.session reply))) + one_if (same_session n.request.session session) ≡ pending_count session (rows_of {C = C} {R = R} running nodes places)
    finished-count session =
        let one : total (weight session) (set (rows_of {C = C} {R = R} running nodes places) i (Gone (suc i) n.request.session reply)) + weight {R = R} session (row_of running n.request) ≡ total (weight session) (rows_of {C = C} {R = R} running nodes places) + 0 = total-set (weight session) (rows_of running nodes places) i (row_of running n.request) (Gone (suc i) n.request.session reply) at-row in
        let two : weight {R = R} session (row_of running n.request) ≡ one_if (same_session n.request.session session) = weight-row R running session n.request in
        let three : pending_count session (rows_of (if running == suc i then 0 else running) later (set places i (Ended (suc i) n.request.session reply))) ≡ total (weight session) (set (rows_of {C = C} {R = R} running nodes places) i (Gone (suc i) n.request.session reply)) = ap (λ (xs : List (RequestRow C R)). pending_count session xs) finished-set ∙ pending_count-total session (set (rows_of running nodes places) i (Gone (suc i) n.request.session reply)) in
        let four : pending_count session (rows_of {C = C} {R = R} running nodes places) ≡ total (weight session) (rows_of {C = C} {R = R} running nodes places) = pending_count-total session (rows_of running nodes places) in
        omega (arith, one, two, three, four)

    pub own-count : 0 < slice_index counts n.request.session.number
    own-count =
        let one = finished-count n.request.session in
        let two : one_if (same_session n.request.session n.request.session) ≡ 1 = ap one_if (eq-eqb n.request.session.number n.request.session.number refl) in
        omega (arith, one, two, sound.counted n.request.session)

    pub finished-sound : Sound (if running == suc i then 0 else running) (gone + 1) later (set places i (Ended (suc i) n.request.session reply)) heads_later tails_later (set counts n.request.session.number (slice_index counts n.request.session.number - 1))
    finished-sound = record {
      fits = omega (arith, length-set places i (Ended (suc i) n.request.session reply), sound.fits);
      tied = finished-tied;
      named = λ k id session was e. elim (cases_eq k i) [
        | inl same ↦
            let is : Some (Ended (suc i) n.request.session reply) ≡ Some (Ended id session was) = sym (slice_get-set_same places i (Ended (suc i) n.request.session reply) i-within) ∙ ap (slice_get (set places i (Ended (suc i) n.request.session reply))) (sym same) ∙ e in
            let id_is : suc i ≡ id = cc in
            omega (arith, id_is, same)
        | inr differs ↦ sound.named k id session was (sym (slice_get-set_other places i k (Ended (suc i) n.request.session reply) differs) ∙ e)
      ];
      chains = Chains-finished (node_at nodes places) (node_at mid places) (node_at later (set places i (Ended (suc i) n.request.session reply))) heads heads_later tails tails_later n.request.session.number (suc i) n all own sound.chains (omega arith) here gone-node rest n.request.session.valid.0 refl all_is own_is both;
      work = λ pos. works pos;
      counted = λ session. counts-at session;
      few = λ session. omega (arith, finished-count session, sound.few session);
      ended = gone-more;
    }
      where
        works : 0 < (if running == suc i then 0 else running) → (m : Node C) × (node_at later (set places i (Ended (suc i) n.request.session reply)) (if running == suc i then 0 else running) ≡ Some m)
        works pos = elim (cases_eq running (suc i)) [
          | inl same ↦
              let none : (if running == suc i then 0 else running) ≡ 0 = ap (λ (b : Bool). if b then 0 else running) (eq-eqb running (suc i) same) in
              absurd (omega (arith, pos, none))
          | inr differs ↦
              let is : (if running == suc i then 0 else running) ≡ running = ap (λ (b : Bool). if b then 0 else running) (ne_eqb running (suc i) differs) in
              let old : (m : Node C) × (node_at nodes places running ≡ Some m) = sound.work (omega (arith, pos, is)) in
              let now : (m : Node C) × (node_at later (set places i (Ended (suc i) n.request.session reply)) running ≡ Some m) × (m.request ≡ old.0.request) = request-some (node_at later (set places i (Ended (suc i) n.request.session reply)) running) old.0.request (finished-request running differs ∙ ap request_in old.1) in
              (now.0, ap (λ (j : ℕ). node_at later (set places i (Ended (suc i) n.request.session reply)) j) is ∙ now.1)
        ]

        counts-at : (session : Session) → slice_index (set counts n.request.session.number (slice_index counts n.request.session.number - 1)) session.number ≡ pending_count session (rows_of (if running == suc i then 0 else running) later (set places i (Ended (suc i) n.request.session reply)))
        counts-at session = elim (cases_eq session.number n.request.session.number) [
          | inl same ↦
              let one : one_if (same_session n.request.session session) ≡ 1 = ap one_if (eq-eqb n.request.session.number session.number (sym same)) in
              let old : slice_index counts session.number ≡ pending_count session (rows_of {C = C} {R = R} running nodes places) = sound.counted session in
              let moved : slice_index counts session.number ≡ slice_index counts n.request.session.number = ap (slice_index counts) same in
              let new : slice_index (set counts n.request.session.number (slice_index counts n.request.session.number - 1)) session.number ≡ slice_index counts n.request.session.number - 1 = ap (slice_index (set counts n.request.session.number (slice_index counts n.request.session.number - 1))) same ∙ get_or-set_same counts n.request.session.number (slice_index counts n.request.session.number - 1) 0 (omega (arith, sized, n.request.session.valid.1)) in
              omega (arith, one, old, moved, new, finished-count session)
          | inr differs ↦
              let none : one_if (same_session n.request.session session) ≡ 0 = ap one_if (ne_eqb n.request.session.number session.number (λ e. differs (sym e))) in
              let old : slice_index counts session.number ≡ pending_count session (rows_of {C = C} {R = R} running nodes places) = sound.counted session in
              let new : slice_index (set counts n.request.session.number (slice_index counts n.request.session.number - 1)) session.number ≡ slice_index counts session.number = get_or-set_other counts n.request.session.number session.number (slice_index counts n.request.session.number - 1) 0 differs in
              omega (arith, none, old, new, finished-count session)
        ]

        gone-more : gone + 1 ≡ gone_count (rows_of (if running == suc i then 0 else running) later (set places i (Ended (suc i) n.request.session reply)))
        gone-more =
            let one : total gone_weight (set (rows_of {C = C} {R = R} running nodes places) i (Gone (suc i) n.request.session reply)) + gone_weight {R = R} (row_of running n.request) ≡ total gone_weight (rows_of {C = C} {R = R} running nodes places) + 1 = total-set gone_weight (rows_of running nodes places) i (row_of running n.request) (Gone (suc i) n.request.session reply) at-row in
            let two : gone_weight {R = R} (row_of running n.request) ≡ 0 = gone-row R running n.request in
            let three : gone_count (rows_of (if running == suc i then 0 else running) later (set places i (Ended (suc i) n.request.session reply))) ≡ total gone_weight (set (rows_of {C = C} {R = R} running nodes places) i (Gone (suc i) n.request.session reply)) = ap (λ (xs : List (RequestRow C R)). gone_count xs) finished-set ∙ gone_count-total (set (rows_of running nodes places) i (Gone (suc i) n.request.session reply)) in
            let four : gone_count (rows_of {C = C} {R = R} running nodes places) ≡ total gone_weight (rows_of {C = C} {R = R} running nodes places) = gone_count-total (rows_of running nodes places) in
            omega (arith, one, two, three, four, sound.ended)
