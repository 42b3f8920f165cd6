-- All chains after a request came last, and after one left.
use Rattle.std.proofs.Common.{arith, ap, inl, inr, refl, subst, suc, sym, zero, ◌∙◌}
use Rattle.std.proofs.lemmas.Bool.{cases_eq}
use Rattle.std.proofs.lemmas.Option.{same_Some}
use Rattle.std.specs.Prelude.{List, None, Option, Some, slice_index, ℕ, ◌<◌, ◌≡◌, ◌≢◌}
use Rattle.request_queue.specs.Chains.{Chain}
use Rattle.request_queue.specs.Nodes.{behind_last, BothLinked, Chains, In, OneLinked, request_in, next_at, next_in, prev_at, prev_in}
use Rattle.request_queue.specs.declared.nodes.Node.{Node}
use Rattle.request_queue.specs.declared.links.Relink.{Relink}
use Rattle.request_queue.proofs.ChainLemmas.{Chain-kept, Chain-with, Chain-without, before-lt, last-lt}
use Rattle.request_queue.proofs.RelinkLemmas.{In-kept}

module _ {C : Type 0} where
  -- links of one request that stayed as it is
  pub next_at-old : (m later : ℕ → Option (Node C)) (heads : List ℕ) (d j : ℕ) → (0 < j → later j ≡ m j) → next_at later heads d j ≡ next_at m heads d j
  next_at-old m later heads d zero same = refl
  next_at-old m later heads d (suc j) same = ap (next_in d) (same (omega arith))

  pub prev_at-old : (m later : ℕ → Option (Node C)) (tails : List ℕ) (d j : ℕ) → (0 < j → later j ≡ m j) → prev_at later tails d j ≡ prev_at m tails d j
  prev_at-old m later tails d zero same = refl
  prev_at-old m later tails d (suc j) same = ap (prev_in d) (same (omega arith))

  pub next_at-pos : (m : ℕ → Option (Node C)) (heads : List ℕ) (d j : ℕ) → 0 < j → next_at m heads d j ≡ next_in d (m j)
  next_at-pos m heads d zero pos = absurd (omega arith)
  next_at-pos m heads d (suc j) pos = refl

  pub prev_at-pos : (m : ℕ → Option (Node C)) (tails : List ℕ) (d j : ℕ) → 0 < j → prev_at m tails d j ≡ prev_in d (m j)
  prev_at-pos m tails d zero pos = absurd (omega arith)
  prev_at-pos m tails d (suc j) pos = refl

  pub In-same : (m later : ℕ → Option (Node C)) (d k : ℕ) → later k ≡ m k → In m d k → In later d k
  In-same m later d k same inside = In-kept m later d k (ap request_in same) inside

  In-none : (m : ℕ → Option (Node C)) (d k : ℕ) → m k ≡ None → In m d k → ⊥
  In-none m d k none inside = let e : None ≡ Some inside.node = sym none ∙ inside.found in cc

  -- one chain after x came
  one-with : (m mid later : ℕ → Option (Node C)) (heads heads_later tails tails_later : List ℕ) (d x : ℕ) → Chain (In m d) (next_at m heads d) (prev_at m tails d)
      → 0 < x → ((k : ℕ) (n : Node C) → m k ≡ Some n → k < x) → ((k : ℕ) → k ≢ x → mid k ≡ m k) → ((k : ℕ) → request_in (later k) ≡ request_in (mid k))
      → In mid d x → next_in d (mid x) ≡ 0 → prev_in d (mid x) ≡ slice_index tails d
      → OneLinked mid later heads heads_later tails tails_later d (record { before = slice_index tails d; behind = 0; next = x; prev = x })
      → Chain (In later d) (next_at later heads_later d) (prev_at later tails_later d)
  one-with m mid later heads heads_later tails tails_later d x chain pos below old requests has no_next its_prev one =
      Chain-with (In m d) (In later d) (next_at m heads d) (prev_at m tails d) (next_at later heads_later d) (prev_at later tails_later d) x chain less pos
      (λ k inside. In-kept mid later d k (requests k) (to_mid k inside))
      (λ k inside differs. In-same mid m d k (sym (old k differs)) (In-kept later mid d k (sym (requests k)) inside))
      (In-kept mid later d x (requests x) has)
      one.next_here
      (one.next_others x (λ _. has) (omega (arith, last-lt (In m d) (next_at m heads d) (prev_at m tails d) x chain less pos)) ∙ next_at-pos mid heads d x pos ∙ no_next)
      (λ j at differs. one.next_others j (λ h. to_mid j (at h)) differs ∙ next_at-old m mid heads d j (λ h. old j (apart j (at h))))
      one.prev_here
      (one.prev_others x (λ _. has) (omega (arith, pos)) ∙ prev_at-pos mid tails d x pos ∙ its_prev)
      (λ j inside. one.prev_others j (λ _. to_mid j inside) (omega (arith, chain.positive j inside)) ∙ prev_at-old m mid tails d j (λ h. old j (apart j inside)))
    where
      less : (k : ℕ) → In m d k → k < x
      less k inside = below k inside.node inside.found

      apart : (k : ℕ) → In m d k → k ≢ x
      apart k inside = omega (arith, less k inside)

      to_mid : (k : ℕ) → In m d k → In mid d k
      to_mid k inside = In-same m mid d k (old k (apart k inside)) inside

  pub Chains-submitted : (m mid later : ℕ → Option (Node C)) (heads heads_later tails tails_later : List ℕ) (s x : ℕ) (node : Node C) (all own : Relink) → Chains m heads tails
      → 0 < x → ((k : ℕ) (n : Node C) → m k ≡ Some n → k < x) → mid x ≡ Some node → ((k : ℕ) → k ≢ x → mid k ≡ m k)
      → 0 < s → node.request.session.number ≡ s
      → node.all ≡ record { prev = slice_index tails 0; next = 0 } → node.own ≡ record { prev = slice_index tails s; next = 0 }
      → all ≡ behind_last (slice_index tails 0) x → own ≡ record { before = slice_index tails s; behind = 0; next = x; prev = x }
      → BothLinked mid later heads heads_later tails tails_later s all own
      → Chains later heads_later tails_later
  Chains-submitted m mid later heads heads_later tails tails_later s x node all own chains pos below new old s_pos owner whole_links own_links all_is own_is both = λ d bound.
      elim (cases_eq d 0) [
        | inl is_all ↦ subst Good (sym is_all) (whole (subst (λ (e : ℕ). e < 17) is_all bound))
        | inr not_all ↦ elim (cases_eq d s) [
          | inl is_own ↦ subst Good (sym is_own) (session (subst (λ (e : ℕ). e < 17) is_own bound))
          | inr not_own ↦ other d bound not_all not_own
        ]
      ]
    where
      Good : ℕ → Type 0
      Good d = Chain (In later d) (next_at later heads_later d) (prev_at later tails_later d)

      whole : 0 < 17 → Good 0
      whole bound = one-with m mid later heads heads_later tails tails_later 0 x (chains 0 bound) pos below old both.requests
          (record { node = node; found = new; chain = λ h. absurd (omega (arith, h)) })
          (ap (next_in 0) new ∙ next_whole node whole_links)
          (ap (prev_in 0) new ∙ prev_whole node whole_links)
          (subst (λ (r : Relink). OneLinked mid later heads heads_later tails tails_later 0 r) all_is both.whole)
        where
          next_whole : (n : Node C) → n.all ≡ record { prev = slice_index tails 0; next = 0 } → next_in 0 (Some n) ≡ 0
          next_whole n e = cc

          prev_whole : (n : Node C) → n.all ≡ record { prev = slice_index tails 0; next = 0 } → prev_in 0 (Some n) ≡ slice_index tails 0
          prev_whole n e = cc

      session : s < 17 → Good s
      session bound = one-with m mid later heads heads_later tails tails_later s x (chains s bound) pos below old both.requests
          (record { node = node; found = new; chain = λ _. owner })
          (ap (next_in s) new ∙ next_own s s_pos)
          (ap (prev_in s) new ∙ prev_own s s_pos)
          (subst (λ (r : Relink). OneLinked mid later heads heads_later tails tails_later s r) own_is both.session)
        where
          next_own : (c : ℕ) → 0 < c → next_in c (Some node) ≡ 0
          next_own zero h = absurd (omega arith)
          next_own (suc c) h = cc

          prev_own : (c : ℕ) → 0 < c → prev_in c (Some node) ≡ slice_index tails s
          prev_own zero h = absurd (omega arith)
          prev_own (suc c) h = cc

      other : (d : ℕ) → d < 17 → d ≢ 0 → d ≢ s → Good d
      other d bound not_all not_own =
          Chain-kept (In m d) (In later d) (next_at m heads d) (prev_at m tails d) (next_at later heads_later d) (prev_at later tails_later d) (chains d bound)
          (λ k inside. In-kept mid later d k (both.requests k) (to_mid k inside))
          (λ k inside.
          let there : In mid d k = In-kept later mid d k (sym (both.requests k)) inside in
          let apart : k ≢ x = λ is.
          let same : there.node ≡ node = same_Some _ _ (sym there.found ∙ ap mid is ∙ new) in
          not_own (sym (there.chain (omega (arith, not_all))) ∙ ap (λ (n : Node C). n.request.session.number) same ∙ owner) in
          In-same mid m d k (sym (old k apart)) there)
          (λ j at. (both.rest d not_all not_own).next j (λ h. to_mid j (at h)) ∙ next_at-old m mid heads d j (λ h. old j (omega (arith, below j (at h).node (at h).found))))
          (λ j at. (both.rest d not_all not_own).prev j (λ h. to_mid j (at h)) ∙ prev_at-old m mid tails d j (λ h. old j (omega (arith, below j (at h).node (at h).found))))
        where
          to_mid : (k : ℕ) → In m d k → In mid d k
          to_mid k inside = In-same m mid d k (old k (omega (arith, below k inside.node inside.found))) inside

  -- one chain after x left
  one-without : (m mid later : ℕ → Option (Node C)) (heads heads_later tails tails_later : List ℕ) (d x : ℕ) (r : Relink) → Chain (In m d) (next_at m heads d) (prev_at m tails d)
      → In m d x → ((k : ℕ) → request_in (mid k) ≡ request_in (m k)) → later x ≡ None → ((k : ℕ) → k ≢ x → later k ≡ mid k)
      → r.before ≡ prev_at m tails d x → r.behind ≡ next_at m heads d x → r.next ≡ next_at m heads d x → r.prev ≡ prev_at m tails d x
      → OneLinked m mid heads heads_later tails tails_later d r
      → Chain (In later d) (next_at later heads_later d) (prev_at later tails_later d)
  one-without m mid later heads heads_later tails tails_later d x r chain has requests gone rest before behind next prev one =
      Chain-without (In m d) (In later d) (next_at m heads d) (prev_at m tails d) (next_at later heads_later d) (prev_at later tails_later d) x chain has
      (λ k inside. In-kept mid m d k (sym (requests k)) (In-same later mid d k (sym (rest k (apart k inside))) inside))
      apart
      (λ k inside differs. In-same mid later d k (rest k differs) (In-kept m mid d k (requests k) inside))
      (ap (λ (j : ℕ). next_at later heads_later d j) (sym before) ∙ next_at-old mid later heads_later d r.before (λ _. rest r.before before_not) ∙ one.next_here ∙ next)
      (λ j at not_x differs. next_at-old mid later heads_later d j (λ _. rest j not_x) ∙ one.next_others j at (λ e. differs (e ∙ before)))
      (ap (λ (j : ℕ). prev_at later tails_later d j) (sym behind) ∙ prev_at-old mid later tails_later d r.behind (λ h. rest r.behind (behind_not h)) ∙ one.prev_here ∙ prev)
      (λ j at not_x differs. prev_at-old mid later tails_later d j (λ _. rest j not_x) ∙ one.prev_others j at (λ e. differs (e ∙ behind)))
    where
      apart : (k : ℕ) → In later d k → k ≢ x
      apart k inside is = In-none later d k (ap later is ∙ gone) inside

      before_not : r.before ≢ x
      before_not = omega (arith, before, before-lt (In m d) (next_at m heads d) (prev_at m tails d) x chain has)

      behind_not : 0 < r.behind → r.behind ≢ x
      behind_not h = omega (arith, behind, ((chain.after x (λ _. has)).found (omega (arith, h, behind))).1)

  pub Chains-finished : (m mid later : ℕ → Option (Node C)) (heads heads_later tails tails_later : List ℕ) (s x : ℕ) (node : Node C) (all own : Relink) → Chains m heads tails
      → 0 < x → m x ≡ Some node → later x ≡ None → ((k : ℕ) → k ≢ x → later k ≡ mid k)
      → 0 < s → node.request.session.number ≡ s
      → all ≡ record { before = node.all.prev; behind = node.all.next; next = node.all.next; prev = node.all.prev }
      → own ≡ record { before = node.own.prev; behind = node.own.next; next = node.own.next; prev = node.own.prev }
      → BothLinked m mid heads heads_later tails tails_later s all own
      → Chains later heads_later tails_later
  Chains-finished m mid later heads heads_later tails tails_later s x node all own chains pos here gone rest s_pos owner all_is own_is both = λ d bound.
      elim (cases_eq d 0) [
        | inl is_all ↦ subst Good (sym is_all) (whole (subst (λ (e : ℕ). e < 17) is_all bound))
        | inr not_all ↦ elim (cases_eq d s) [
          | inl is_own ↦ subst Good (sym is_own) (session (subst (λ (e : ℕ). e < 17) is_own bound))
          | inr not_own ↦ other d bound not_all not_own
        ]
      ]
    where
      Good : ℕ → Type 0
      Good d = Chain (In later d) (next_at later heads_later d) (prev_at later tails_later d)

      next_x : (d : ℕ) → next_at m heads d x ≡ next_in d (Some node)
      next_x d = next_at-pos m heads d x pos ∙ ap (next_in d) here

      prev_x : (d : ℕ) → prev_at m tails d x ≡ prev_in d (Some node)
      prev_x d = prev_at-pos m tails d x pos ∙ ap (prev_in d) here

      next_own : (c : ℕ) → 0 < c → next_in c (Some node) ≡ node.own.next
      next_own zero h = absurd (omega arith)
      next_own (suc c) h = refl

      prev_own : (c : ℕ) → 0 < c → prev_in c (Some node) ≡ node.own.prev
      prev_own zero h = absurd (omega arith)
      prev_own (suc c) h = refl

      whole : 0 < 17 → Good 0
      whole bound = one-without m mid later heads heads_later tails tails_later 0 x all (chains 0 bound)
          (record { node = node; found = here; chain = λ h. absurd (omega (arith, h)) }) both.requests gone rest
          (ap (λ (r : Relink). r.before) all_is ∙ sym (prev_x 0)) (ap (λ (r : Relink). r.behind) all_is ∙ sym (next_x 0))
          (ap (λ (r : Relink). r.next) all_is ∙ sym (next_x 0)) (ap (λ (r : Relink). r.prev) all_is ∙ sym (prev_x 0))
          both.whole

      session : s < 17 → Good s
      session bound = one-without m mid later heads heads_later tails tails_later s x own (chains s bound)
          (record { node = node; found = here; chain = λ _. owner }) both.requests gone rest
          (ap (λ (r : Relink). r.before) own_is ∙ sym (prev_x s ∙ prev_own s s_pos)) (ap (λ (r : Relink). r.behind) own_is ∙ sym (next_x s ∙ next_own s s_pos))
          (ap (λ (r : Relink). r.next) own_is ∙ sym (next_x s ∙ next_own s s_pos)) (ap (λ (r : Relink). r.prev) own_is ∙ sym (prev_x s ∙ prev_own s s_pos))
          both.session

      other : (d : ℕ) → d < 17 → d ≢ 0 → d ≢ s → Good d
      other d bound not_all not_own =
          Chain-kept (In m d) (In later d) (next_at m heads d) (prev_at m tails d) (next_at later heads_later d) (prev_at later tails_later d) (chains d bound)
          (λ k inside. In-same mid later d k (rest k (apart k inside)) (In-kept m mid d k (both.requests k) inside))
          (λ k inside. In-kept mid m d k (sym (both.requests k)) (In-same later mid d k (sym (rest k (λ is. In-none later d k (ap later is ∙ gone) inside))) inside))
          (λ j at. next_at-old mid later heads_later d j (λ h. rest j (apart j (at h))) ∙ (both.rest d not_all not_own).next j at)
          (λ j at. prev_at-old mid later tails_later d j (λ h. rest j (apart j (at h))) ∙ (both.rest d not_all not_own).prev j at)
        where
          apart : (k : ℕ) → In m d k → k ≢ x
          apart k inside is =
              let same : inside.node ≡ node = same_Some _ _ (sym inside.found ∙ ap m is ∙ here) in
              not_own (sym (inside.chain (omega (arith, not_all))) ∙ ap (λ (n : Node C). n.request.session.number) same ∙ owner)
