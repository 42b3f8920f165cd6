-- A history is the shuffle of the entries of its makers.
use Rattle.std.proofs.Common.{ap, map, refl, subst, sym, inl, inr, List, [], ◌++◌, ◌+◌, ◌∙◌, ◌∷◌, ◌≡◌, ◌≢◌, ℕ, cond}
use Rattle.std.specs.Prelude.{bytes_eq}
use Rattle.turnstile.proofs.ListLemmas.{each_append, not_same, same_refl}
use Rattle.turnstile.specs.Joinings.{HasNumber}
use Rattle.turnstile.specs.Numbers.{Each, NumbersDiffer}
use Rattle.turnstile.specs.Rules.{entries_of, entry_in}
use Rattle.turnstile.specs.declared.machine.Entry.{Entry}
use Rattle.turnstile.specs.declared.view.KnownPass.{KnownPass}
use Rattle.turnstile.specs.declared.view.MadeEntry.{MadeEntry}
use Rattle.pad_live_core.specs.Shuffles.{Shuffle, Takes}
use Rattle.pad_live_core.specs.LaneEvents.{placed_from}

module _ {A : Type 0} where
  takes_left : (x : A) (ls ms after : List (List A)) → Takes x ls after → Takes x (ls ++ ms) (after ++ ms)
  takes_left x [] ms after t = absurd t
  takes_left x (l ∷ ls) ms after (inl t) = inl (record { rest = t.rest; front = t.front; left = ap (λ a. a ++ ms) t.left })
  takes_left x (l ∷ ls) ms after (inr t) = inr (t.0 ++ ms, takes_left x ls ms t.0 t.1, ap (λ a. a ++ ms) t.2)

  takes_right : (x : A) (ls ms after : List (List A)) → Takes x ms after → Takes x (ls ++ ms) (ls ++ after)
  takes_right x [] ms after t = t
  takes_right x (l ∷ ls) ms after t = inr (ls ++ after, takes_right x ls ms after t, refl)

  abbrev pub joined_lists : List (List (List A)) → List (List A)
  joined_lists [] = []
  joined_lists (ms ∷ mss) = ms ++ joined_lists mss

  -- each list is a shuffle of lists of its own
  abbrev pub Refined : List (List A) → List (List (List A)) → Type 0
  Refined [] [] = Unit {0}
  Refined [] (ms ∷ mss) = ⊥
  Refined (l ∷ ls) [] = ⊥
  Refined (l ∷ ls) (ms ∷ mss) = Shuffle l ms × Refined ls mss

  takes_refined : (x : A) (ls after : List (List A)) (mss : List (List (List A))) → Takes x ls after → Refined ls mss → (mss' : List (List (List A))) × Takes x (joined_lists mss) (joined_lists mss') × Refined after mss'
  takes_refined x [] after mss t r = absurd t
  takes_refined x (l ∷ ls) after [] t r = absurd r
  takes_refined x (l ∷ ls) after (ms ∷ mss) (inl t) r =
      let one : Shuffle (x ∷ t.rest) ms = subst (λ y. Shuffle y ms) t.front r.0 in
      (one.0 ∷ mss, takes_left x ms (joined_lists mss) one.0 one.1, subst (λ y. Refined y (one.0 ∷ mss)) (sym t.left) (one.2, r.1))
  takes_refined x (l ∷ ls) after (ms ∷ mss) (inr t) r =
      let more = takes_refined x ls t.0 mss t.1 r.1 in
      (ms ∷ more.0, takes_right x ms (joined_lists mss) (joined_lists more.0) more.1, subst (λ y. Refined y (ms ∷ more.0)) (sym t.2) (r.0, more.2))

  empty_refined : (ls : List (List A)) (mss : List (List (List A))) → Each (λ (l : List A). l ≡ []) ls → Refined ls mss → Each (λ (l : List A). l ≡ []) (joined_lists mss)
  empty_refined [] [] e r = tt
  empty_refined [] (ms ∷ mss) e r = absurd r
  empty_refined (l ∷ ls) [] e r = absurd r
  empty_refined (l ∷ ls) (ms ∷ mss) e r = each_append (λ (y : List A). y ≡ []) ms (joined_lists mss) (subst (λ y. Shuffle y ms) e.0 r.0) (empty_refined ls mss e.1 r.1)

  -- a shuffle of shuffles
  pub refine : (xs : List A) (ls : List (List A)) (mss : List (List (List A))) → Shuffle xs ls → Refined ls mss → Shuffle xs (joined_lists mss)
  refine [] ls mss s r = empty_refined ls mss s r
  refine (x ∷ xs) ls mss s r = let one = takes_refined x ls s.0 mss s.1 r in (joined_lists one.0, one.1, refine xs s.0 one.0 s.2 one.2)

  -- a list is the shuffle of itself
  pub shuffle_one : (xs : List A) → Shuffle xs (xs ∷ [])
  shuffle_one [] = (refl, tt)
  shuffle_one (x ∷ xs) = (xs ∷ [], inl (record { rest = xs; front = refl; left = refl }), shuffle_one xs)

module _ {O R : Type 0} where
  -- the entries with this number
  abbrev pub own_from : ℕ → List ℕ → List (MadeEntry O R) → List (Entry O R)
  own_from k number log = map (λ (p : ℕ × Entry O R). p.1) (placed_from k number log)

  own_hit : (k : ℕ) (number : List ℕ) (m : MadeEntry O R) (log : List (MadeEntry O R)) → m.by ≡ number → own_from k number (m ∷ log) ≡ entry_in m ∷ own_from (k + 1) number log
  own_hit k number m log is = ap (λ b. map (λ (p : ℕ × Entry O R). p.1) (cond b ((k, entry_in m) ∷ placed_from (k + 1) number log) (placed_from (k + 1) number log))) (ap (λ by. bytes_eq by number) is ∙ same_refl number)

  own_miss : (k : ℕ) (number : List ℕ) (m : MadeEntry O R) (log : List (MadeEntry O R)) → m.by ≢ number → own_from k number (m ∷ log) ≡ own_from (k + 1) number log
  own_miss k number m log ne = ap (λ b. map (λ (p : ℕ × Entry O R). p.1) (cond b ((k, entry_in m) ∷ placed_from (k + 1) number log) (placed_from (k + 1) number log))) (not_same m.by number ne)

  -- the entries of each pass
  abbrev pub owns : ℕ → List (MadeEntry O R) → List KnownPass → List (List (Entry O R))
  owns k log [] = []
  owns k log (p ∷ ps) = own_from k p.number log ∷ owns k log ps

  owns_miss : (k : ℕ) (m : MadeEntry O R) (log : List (MadeEntry O R)) (ps : List KnownPass) → Each (λ (q : KnownPass). q.number ≢ m.by) ps → owns k (m ∷ log) ps ≡ owns (k + 1) log ps
  owns_miss k m log [] ne = refl
  owns_miss k m log (p ∷ ps) ne = let one = own_miss k p.number m log (λ e. ne.0 (sym e)) in let more = owns_miss k m log ps ne.1 in (λ i. one i ∷ more i)

  takes_own : (k : ℕ) (m : MadeEntry O R) (log : List (MadeEntry O R)) (ps : List KnownPass) → HasNumber m.by ps → NumbersDiffer ps → Takes (entry_in m) (owns k (m ∷ log) ps) (owns (k + 1) log ps)
  takes_own k m log [] has differ = absurd has
  takes_own k m log (p ∷ ps) (inl is) differ = let same = owns_miss k m log ps (subst (λ (n : List ℕ). Each (λ (q : KnownPass). q.number ≢ n) ps) is differ.0) in
      inl (record { rest = own_from (k + 1) p.number log; front = own_hit k p.number m log (sym is); left = (λ i. own_from (k + 1) p.number log ∷ sym same i) })
  takes_own k m log (p ∷ ps) (inr has) differ = inr (owns (k + 1) log ps, takes_own k m log ps has differ.1, (λ i. sym (own_miss k p.number m log (other ps has differ.0)) i ∷ owns (k + 1) log ps))
    where
      other : (ps : List KnownPass) → HasNumber m.by ps → Each (λ (q : KnownPass). q.number ≢ p.number) ps → m.by ≢ p.number
      other [] has ne e = absurd has
      other (q ∷ qs) (inl is) ne e = ne.0 (is ∙ e)
      other (q ∷ qs) (inr has) ne e = other qs has ne.1 e

owns_none : (O R : Type 0) (k : ℕ) (ps : List KnownPass) → Each (λ (l : List (Entry O R)). l ≡ []) (owns {O = O} {R = R} k [] ps)
owns_none O R k [] = tt
owns_none O R k (p ∷ ps) = (refl, owns_none O R k ps)

module _ {O R : Type 0} where
  -- where each entry is of one of these passes, the history is the shuffle of their entries
  pub shuffle_own : (k : ℕ) (log : List (MadeEntry O R)) (ps : List KnownPass) → Each (λ (m : MadeEntry O R). HasNumber m.by ps) log → NumbersDiffer ps → Shuffle (entries_of log) (owns k log ps)
  shuffle_own k [] ps has differ = owns_none O R k ps
  shuffle_own k (m ∷ log) ps has differ = (owns (k + 1) log ps, takes_own k m log ps has.0 differ, shuffle_own (k + 1) log ps has.1 differ)
