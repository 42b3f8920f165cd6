-- Chains that are linked anew, one after another.
use Rattle.std.proofs.Common.{arith, ap, refl, suc, zero, ◌∙◌}
use Rattle.std.specs.Prelude.{List, None, Option, Some, ℕ, ◌<◌, ◌≡◌}
use Rattle.request_queue.specs.Nodes.{BothLinked, In, NextSet, OneLinked, PrevSet, Relinked, SameLinks, request_in, next_at, next_in, prev_at, prev_in}
use Rattle.request_queue.specs.declared.nodes.Node.{Node}
use Rattle.request_queue.specs.declared.links.Relink.{Relink}
use Rattle.request_queue.specs.declared.requests.Request.{Request}

module _ {C : Type 0} where
  pub request-some : (o : Option (Node C)) (a : Request C) → request_in o ≡ Some a → (n : Node C) × (o ≡ Some n) × (n.request ≡ a)
  request-some None a e = cc
  request-some (Some n) a e = (n, refl, cc)

  -- a request stays in its chain while the requests are the same
  pub In-kept : (m later : ℕ → Option (Node C)) (c k : ℕ) → request_in (later k) ≡ request_in (m k) → In m c k → In later c k
  In-kept m later c k same inside =
      let now : (n : Node C) × (later k ≡ Some n) × (n.request ≡ inside.node.request) = request-some (later k) inside.node.request (same ∙ ap request_in inside.found) in
      record { node = now.0; found = now.1; chain = λ pos. ap (λ (a : Request C). a.session.number) now.2 ∙ inside.chain pos }

  next_at-same : (m later : ℕ → Option (Node C)) (heads : List ℕ) (d j : ℕ) → ((e k : ℕ) → next_in e (later k) ≡ next_in e (m k)) → next_at later heads d j ≡ next_at m heads d j
  next_at-same m later heads d zero same = refl
  next_at-same m later heads d (suc j) same = same d (suc j)

  prev_at-same : (m later : ℕ → Option (Node C)) (tails : List ℕ) (d j : ℕ) → ((e k : ℕ) → prev_in e (later k) ≡ prev_in e (m k)) → prev_at later tails d j ≡ prev_at m tails d j
  prev_at-same m later tails d zero same = refl
  prev_at-same m later tails d (suc j) same = same d (suc j)

  pub Relinked-from : (m mid later : ℕ → Option (Node C)) (heads heads_later tails tails_later : List ℕ) (c : ℕ) (r : Relink) → NextSet m mid heads heads_later c r.before r.next → PrevSet mid later tails tails_later c r.behind r.prev → Relinked m later heads heads_later tails tails_later c r
  Relinked-from m mid later heads heads_later tails tails_later c r first second = record {
    one = record {
      next_here = next_at-same mid later heads_later c r.before second.next ∙ first.here;
      next_others = λ j at differs. next_at-same mid later heads_later c j second.next ∙ first.others c j at (λ _. differs);
      prev_here = second.here;
      prev_others = λ j at differs. second.others c j (λ h. In-kept m mid c j (first.requests j) (at h)) (λ _. differs) ∙ prev_at-same m mid tails c j first.prev;
    };
    rest = λ d differs. record {
      next = λ j at. next_at-same mid later heads_later d j second.next ∙ first.others d j at (λ e. absurd (differs e));
      prev = λ j at. second.others d j (λ h. In-kept m mid d j (first.requests j) (at h)) (λ e. absurd (differs e)) ∙ prev_at-same m mid tails d j first.prev;
    };
    requests = λ k. second.requests k ∙ first.requests k;
  }

  then-same : (m mid later : ℕ → Option (Node C)) (h0 h1 h2 t0 t1 t2 : List ℕ) (c : ℕ) (r : Relink) → OneLinked m mid h0 h1 t0 t1 c r → SameLinks mid later h1 h2 t1 t2 c
      → ((j : ℕ) → In m c j → In mid c j) → (0 < r.before → In m c r.before) → (0 < r.behind → In m c r.behind) → OneLinked m later h0 h2 t0 t2 c r
  then-same m mid later h0 h1 h2 t0 t1 t2 c r one same keep before behind = record {
    next_here = same.next r.before (λ h. keep r.before (before h)) ∙ one.next_here;
    next_others = λ j at differs. same.next j (λ h. keep j (at h)) ∙ one.next_others j at differs;
    prev_here = same.prev r.behind (λ h. keep r.behind (behind h)) ∙ one.prev_here;
    prev_others = λ j at differs. same.prev j (λ h. keep j (at h)) ∙ one.prev_others j at differs;
  }

  same-then : (m mid later : ℕ → Option (Node C)) (h0 h1 h2 t0 t1 t2 : List ℕ) (c : ℕ) (r : Relink) → SameLinks m mid h0 h1 t0 t1 c → OneLinked mid later h1 h2 t1 t2 c r
      → ((j : ℕ) → In m c j → In mid c j) → OneLinked m later h0 h2 t0 t2 c r
  same-then m mid later h0 h1 h2 t0 t1 t2 c r same one keep = record {
    next_here = one.next_here;
    next_others = λ j at differs. one.next_others j (λ h. keep j (at h)) differs ∙ same.next j at;
    prev_here = one.prev_here;
    prev_others = λ j at differs. one.prev_others j (λ h. keep j (at h)) differs ∙ same.prev j at;
  }

  pub BothLinked-from : (m mid later : ℕ → Option (Node C)) (h0 h1 h2 t0 t1 t2 : List ℕ) (c : ℕ) (all own : Relink) → 0 < c → Relinked m mid h0 h1 t0 t1 0 all → Relinked mid later h1 h2 t1 t2 c own
      → (0 < all.before → In m 0 all.before) → (0 < all.behind → In m 0 all.behind) → BothLinked m later h0 h2 t0 t2 c all own
  BothLinked-from m mid later h0 h1 h2 t0 t1 t2 c all own pos first second before behind = record {
    whole = then-same m mid later h0 h1 h2 t0 t1 t2 0 all first.one (second.rest 0 (omega arith)) (keep 0) before behind;
    session = same-then m mid later h0 h1 h2 t0 t1 t2 c own (first.rest c (omega arith)) second.one (keep c);
    rest = λ d not_all not_own. record {
      next = λ j at. (second.rest d not_own).next j (λ h. keep d j (at h)) ∙ (first.rest d not_all).next j at;
      prev = λ j at. (second.rest d not_own).prev j (λ h. keep d j (at h)) ∙ (first.rest d not_all).prev j at;
    };
    requests = λ k. second.requests k ∙ first.requests k;
  }
    where
      keep : (d j : ℕ) → In m d j → In mid d j
      keep d j inside = In-kept m mid d j (first.requests j) inside
