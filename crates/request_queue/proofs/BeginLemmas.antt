-- The empty queue, and the queue after a request came into work.
use Rattle.std.proofs.Common.{arith, ap, inl, inr, refl, suc, sym, zero, ◌∙◌}
use Rattle.std.proofs.lemmas.Bool.{cases_eq, ne_eqb}
use Rattle.std.proofs.lemmas.Option.{slice_get-map}
use Rattle.std.specs.List.{slice_get}
use Rattle.std.specs.Option.{option_map}
use Rattle.std.specs.Prelude.{Bool, IsNone, IsSome, List, None, Option, Some, [], if◌then◌else◌, replicate, slice_index, ℕ, ◌<◌, ◌≡◌, ◌≢◌}
use Rattle.slab.specs.Slab.{Slab}
use Rattle.request_queue.specs.Chains.{IsNext, IsPrev}
use Rattle.request_queue.specs.Nodes.{In, Sound, Tied, request_in, key_at, next_at, node_at, prev_at, rows_of}
use Rattle.request_queue.specs.Requests.{begun_by_id, begun_row, request_in_work}
use Rattle.request_queue.specs.declared.nodes.Node.{Node}
use Rattle.request_queue.specs.declared.nodes.Place.{Place}
use Rattle.request_queue.specs.declared.nodes.Place.TheVariants.{Ended, Linked}
use Rattle.request_queue.specs.declared.requests.Request.{Request}
use Rattle.request_queue.specs.declared.requests.RequestRow.TheVariants.{InWork, Waiting}
use Rattle.request_queue.proofs.LookupLemmas.{request_in_work-node}
use Rattle.request_queue.proofs.RelinkLemmas.{request-some}
use Rattle.request_queue.proofs.RowLemmas.{node-id, row_by, same_lists, slice_get-rows}
use Rattle.request_queue.proofs.Totals.{gone_count-running, pending_count-running}

not-none : {A : Type 0} (o : Option A) (x : A) → o ≡ Some x → IsNone o → ⊥
not-none None x e h = cc
not-none (Some y) x e h = cc

pub some-node : {C : Type 0} (o : Option (Node C)) (p : Option (Request C)) → p ≡ request_in o → IsSome p → (n : Node C) × (o ≡ Some n)
some-node None None e h = cc
some-node None (Some a) e h = cc
some-node (Some n) p e h = (n, refl)

-- nothing was submitted
no-key : (R : Type 0) (id key : ℕ) → key_at {R = R} [] id ≡ Some key → ⊥
no-key R zero key e = cc
no-key R (suc id) key e = cc

no-node : {C : Type 0} (R : Type 0) (nodes : Slab (Node C)) (k : ℕ) → node_at {R = R} nodes [] k ≡ None
no-node R nodes zero = refl
no-node R nodes (suc k) = refl

no-in : {C : Type 0} (R : Type 0) (nodes : Slab (Node C)) (c k : ℕ) → In (node_at {R = R} nodes []) c k → ⊥
no-in R nodes c k inside = let e : None ≡ Some inside.node = sym (no-node R nodes k) ∙ inside.found in cc

pub zeros : (n c : ℕ) → slice_index (replicate n 0) c ≡ 0
zeros zero c = refl
zeros (suc n) zero = refl
zeros (suc n) (suc c) = zeros n c

module _ {C R : Type 0} where
  begun-by : (x : ℕ) (p : Option (Place R)) (o : Option (Request C)) → ((a : Request C) → o ≡ Some a → a.id ≢ 0) → row_by x p o ≡ option_map (begun_row x) (row_by 0 p o)
  begun-by x None o differs = refl
  begun-by x (Some (Ended id session reply)) o differs = refl
  begun-by x (Some (Linked key)) None differs = refl
  begun-by x (Some (Linked key)) (Some a) differs = sym (ap (λ (b : Bool). Some (begun_row {C = C} {R = R} x (if b then InWork a else Waiting a))) (ne_eqb a.id 0 (differs a refl)))

  pub begun-rows : (x running : ℕ) (nodes : Slab (Node C)) (places : List (Place R)) → Tied nodes places → running ≡ 0 → rows_of x nodes places ≡ begun_by_id x (rows_of {C = C} {R = R} running nodes places)
  begun-rows x running nodes places tied idle = same_lists (rows_of x nodes places) (begun_by_id x (rows_of running nodes places)) pointwise
    where
      differs : (i : ℕ) (a : Request C) → request_in (node_at nodes places (suc i)) ≡ Some a → a.id ≢ 0
      differs i a e =
          let m = request-some (node_at nodes places (suc i)) a e in
          let id : a.id ≡ suc i = ap (λ (q : Request C). q.id) (sym m.2) ∙ node-id nodes places (suc i) m.0 tied m.1 in
          λ none. omega (arith, id, none)

      pointwise : (i : ℕ) → slice_get (rows_of x nodes places) i ≡ slice_get (begun_by_id x (rows_of {C = C} {R = R} running nodes places)) i
      pointwise i =
          slice_get-rows x nodes places i tied
          ∙ begun-by x (slice_get places i) (request_in (node_at nodes places (suc i))) (λ a e. differs i a e)
          ∙ ap (λ (r : ℕ). option_map (begun_row {C = C} {R = R} x) (row_by r (slice_get places i) (request_in (node_at nodes places (suc i))))) (sym idle)
          ∙ ap (option_map (begun_row x)) (sym (slice_get-rows running nodes places i tied))
          ∙ sym (slice_get-map (begun_row x) (rows_of running nodes places) i)

  pub idle-zero : (running gone : ℕ) (nodes : Slab (Node C)) (places : List (Place R)) (heads tails counts : List ℕ) → Sound running gone nodes places heads tails counts → IsNone (request_in_work (rows_of {C = C} {R = R} running nodes places)) → running ≡ 0
  idle-zero running gone nodes places heads tails counts sound idle = elim (cases_eq running 0) [
    | inl none ↦ none
    | inr some ↦
        let n = sound.work (omega (arith, some)) in
        absurd (not-none (request_in_work (rows_of {C = C} {R = R} running nodes places)) n.0.request (request_in_work-node running nodes places sound.tied ∙ ap request_in n.1) idle)
  ]

  pub begun-sound : (x running gone : ℕ) (nodes : Slab (Node C)) (places : List (Place R)) (heads tails counts : List ℕ) (n : Node C) → node_at nodes places x ≡ Some n → Sound running gone nodes places heads tails counts → Sound x gone nodes places heads tails counts
  begun-sound x running gone nodes places heads tails counts n here sound = record {
    fits = sound.fits;
    tied = sound.tied;
    named = sound.named;
    chains = sound.chains;
    work = λ _. (n, here);
    counted = λ session. sound.counted session ∙ pending_count-running session running x nodes places;
    few = λ session. omega (arith, sound.few session, pending_count-running {R = R} session running x nodes places);
    ended = sound.ended ∙ gone_count-running running x nodes places;
  }

  pub empty-sound : (nodes : Slab (Node C)) (heads tails counts : List ℕ) → ((c : ℕ) → slice_index heads c ≡ 0) → ((c : ℕ) → slice_index tails c ≡ 0) → ((c : ℕ) → slice_index counts c ≡ 0) → Sound {C = C} {R = R} 0 0 nodes [] heads tails counts
  empty-sound nodes heads tails counts no_heads no_tails no_counts = record {
    fits = omega arith;
    tied = record { at = λ id key e. absurd (no-key R id key e) };
    named = λ i id session reply e. cc;
    chains = λ c bound. record {
      positive = λ k inside. absurd (no-in R nodes c k inside);
      after = λ j at. afters c j at;
      before = λ j at. befores c j at;
    };
    work = λ h. absurd (omega (arith, h));
    counted = λ session. no_counts session.number;
    few = λ session. omega arith;
    ended = refl;
  }
    where
      afters : (c j : ℕ) → (0 < j → In (node_at {R = R} nodes []) c j) → IsNext (In (node_at {R = R} nodes []) c) j (next_at (node_at {R = R} nodes []) heads c j)
      afters c zero at = record { found = λ h. absurd (omega (arith, h, no_heads c)); first = λ k inside lt. absurd (no-in R nodes c k inside) }
      afters c (suc j) at = absurd (no-in R nodes c (suc j) (at (omega arith)))

      befores : (c j : ℕ) → (0 < j → In (node_at {R = R} nodes []) c j) → IsPrev (In (node_at {R = R} nodes []) c) j (prev_at (node_at {R = R} nodes []) tails c j)
      befores c zero at = record { found = λ h. absurd (omega (arith, h, no_tails c)); last = λ k inside lt. absurd (no-in R nodes c k inside) }
      befores c (suc j) at = absurd (no-in R nodes c (suc j) (at (omega arith)))
