-- Passes that were seated and joined again are whole.
use Rattle.std.proofs.Common.{◌≡◌, ◌≤◌, ◌<◌, ◌++◌, ◌∷◌, ◌∙◌, inl, inr, ⊎_elim, [], List, ap, append-nil, append_assoc, arith, refl, subst, suc, sym, zero, ℕ}
use Rattle.std.proofs.lemmas.Bool.{cases_eq}
use mathlib.Core.Option.{some, some-injective}
use lib.ListN.{get_elem?}
use Rattle.turnstile.proofs.ListLemmas.{each_append, each_at, each_map}
use Rattle.turnstile.specs.Joinings.{HasJoinedAll, HasNumber, HasSeated}
use Rattle.turnstile.specs.Numbers.{AreWhole, Each}
use Rattle.turnstile.specs.Rules.{Settled, first_view, joined, known_self, new_seat, passes_known, with_new_seat}
use Rattle.turnstile.specs.declared.view.KnownPass.{KnownPass}
use Rattle.turnstile.specs.declared.view.PassView.{PassView}

-- among more passes

has_left : (number : List ℕ) (ps qs : List KnownPass) → HasNumber number ps → HasNumber number (ps ++ qs)
has_left number [] qs has = absurd has
has_left number (p ∷ ps) qs (inl is) = inl is
has_left number (p ∷ ps) qs (inr has) = inr (has_left number ps qs has)

has_right : (number : List ℕ) (ps qs : List KnownPass) → HasNumber number qs → HasNumber number (ps ++ qs)
has_right number [] qs has = has
has_right number (p ∷ ps) qs has = inr (has_right number ps qs has)

-- all that the first pass seated

has_index : (number : List ℕ) (ps : List KnownPass) → HasNumber number ps → (j : ℕ) × (q : KnownPass) × (get_elem? ps j ≡ some q) × (q.number ≡ number)
has_index number [] has = absurd has
has_index number (p ∷ ps) (inl is) = (0, p, refl, is)
has_index number (p ∷ ps) (inr has) = let found = has_index number ps has in (suc found.0, found.1, found.2, found.3)

whole_of : (p : KnownPass) (ps more : List KnownPass) → p.number ≡ [] → ps ≡ more → HasSeated p 0 more → Each (λ pass. HasSeated pass 0 more) more → AreWhole (p ∷ ps)
whole_of p ps more first is own theirs = record {
  first = (0, p, refl, first);
  all = all;
}
  where
    in_more : (number : List ℕ) → HasNumber number more → (j : ℕ) × (q : KnownPass) × (get_elem? (p ∷ ps) j ≡ some q) × (q.number ≡ number)
    in_more number has = let found = has_index number more has in (suc found.0, found.1, ap (λ (l : List KnownPass). get_elem? l found.0) is ∙ found.2, found.3)

    all : (i : ℕ) (x : KnownPass) (rank : ℕ) → get_elem? (p ∷ ps) i ≡ some x → rank < x.seated → (j : ℕ) × (q : KnownPass) × (get_elem? (p ∷ ps) j ≡ some q) × (q.number ≡ x.number ++ rank ∷ [])
    all zero x rank at below = let same : p ≡ x = some-injective p x at in subst (λ (y : KnownPass). rank < y.seated → (j : ℕ) × (q : KnownPass) × (get_elem? (p ∷ ps) j ≡ some q) × (q.number ≡ y.number ++ rank ∷ [])) same (λ l. in_more (p.number ++ rank ∷ []) (own rank (omega arith) l)) below
    all (suc i) x rank at below = in_more (x.number ++ rank ∷ []) (each_at (λ pass. HasSeated pass 0 more) more i x theirs (ap (λ (l : List KnownPass). get_elem? l i) (sym is) ∙ at) rank (omega arith) below)

-- no pass was seated

module _ {O R : Type 0} where
  pub joined_all-none : (v w : PassView O R) → w.number ≡ v.number → w.seated ≡ v.seated → w.ended ≡ v.ended → HasJoinedAll v w
  joined_all-none v w number seated ended = record {
    number = number;
    more = [];
    ended = ended ∙ sym (append-nil v.ended);
    own = λ rank from below. absurd (omega (arith, from, below, seated));
    theirs = tt;
  }

  -- a pass was seated and joined again

  joined_fields : (v1 w1 o o1 w v : PassView O R) → v1 ≡ with_new_seat v → o ≡ new_seat v → HasJoinedAll v1 w1 → HasJoinedAll o o1
      → w.number ≡ w1.number → w.seated ≡ w1.seated → w.ended ≡ w1.ended ++ known_self o1 ∷ o1.ended → HasJoinedAll v w
  joined_fields v1 w1 o o1 w v is1 iso g go number seated ended =
      let more : List KnownPass = g.more ++ known_self o1 ∷ go.more in
      let o_more : o1.ended ≡ go.more = go.ended ∙ ap (λ (y : PassView O R). y.ended ++ go.more) iso in
      let o_number : o1.number ≡ v.number ++ v.seated ∷ [] = go.number ∙ ap (λ (y : PassView O R). y.number) iso in
      let w_number : w.number ≡ v.number = number ∙ g.number ∙ ap (λ (y : PassView O R). y.number) is1 in
      let o_seated : HasSeated (known_self o1) 0 more = λ rank from below.
      has_right (o1.number ++ rank ∷ []) g.more (known_self o1 ∷ go.more) (inr (go.own rank (subst (λ (y : PassView O R). y.seated ≤ rank) (sym iso) (omega arith)) below)) in
      record {
        number = w_number;
        more = more;
        ended = ended ∙ ap (λ (l : List KnownPass). l ++ known_self o1 ∷ o1.ended) (g.ended ∙ ap (λ (y : PassView O R). y.ended ++ g.more) is1)
            ∙ ap (λ (l : List KnownPass). (v.ended ++ g.more) ++ known_self o1 ∷ l) o_more ∙ append_assoc v.ended g.more (known_self o1 ∷ go.more);
        own = λ rank from below. ⊎_elim
            (λ (same : rank ≡ v.seated). has_right (w.number ++ rank ∷ []) g.more (known_self o1 ∷ go.more)
            (inl (o_number ∙ ap (λ (l : List ℕ). l ++ v.seated ∷ []) (sym w_number) ∙ ap (λ (n : ℕ). w.number ++ n ∷ []) (sym same))))
            (λ (other : rank ≡ v.seated → ⊥). has_left (w.number ++ rank ∷ []) g.more (known_self o1 ∷ go.more)
            (subst (λ (l : List ℕ). HasNumber (l ++ rank ∷ []) g.more) (sym number)
            (g.own rank (subst (λ (y : PassView O R). y.seated ≤ rank) (sym is1) (omega (arith, from, other))) (subst (λ (n : ℕ). rank < n) seated below))))
            (cases_eq rank v.seated);
        theirs = each_append (λ pass. HasSeated pass 0 more) g.more (known_self o1 ∷ go.more)
            (each_map (λ pass. HasSeated pass 0 g.more) (λ pass. HasSeated pass 0 more) g.more (λ p has rank from below. has_left (p.number ++ rank ∷ []) g.more (known_self o1 ∷ go.more) (has rank from below)) g.theirs)
            (o_seated, each_map (λ pass. HasSeated pass 0 go.more) (λ pass. HasSeated pass 0 more) go.more (λ p has rank from below. has_right (p.number ++ rank ∷ []) g.more (known_self o1 ∷ go.more) (inr (has rank from below))) go.theirs);
      }

  pub joined_all-joined : (v v1 w1 o o1 w : PassView O R) → v1 ≡ with_new_seat v → o ≡ new_seat v → HasJoinedAll v1 w1 → HasJoinedAll o o1 → Settled (joined w1 o1) w → HasJoinedAll v w
  joined_all-joined v v1 w1 o o1 w is1 iso g go settled = joined_fields v1 w1 o o1 w v is1 iso g go
      (ap (λ (y : PassView O R). y.number) settled.0) (ap (λ (y : PassView O R). y.seated) settled.0) (ap (λ (y : PassView O R). y.ended) settled.0)

  pub joined_all-whole : (origin : List ℕ) (v w : PassView O R) → v ≡ first_view origin → HasJoinedAll v w → AreWhole (passes_known w)
  joined_all-whole origin v w first g = whole_of (known_self w) w.ended g.more
      (g.number ∙ ap (λ (y : PassView O R). y.number) first) (g.ended ∙ ap (λ (y : PassView O R). y.ended ++ g.more) first)
      (subst (λ (y : PassView O R). HasSeated (known_self w) y.seated g.more) first g.own) g.theirs
