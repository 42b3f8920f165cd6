-- The entries of one pass in a history.
use Rattle.std.proofs.Common.{ap, append_assoc, append-nil, add-zero, arith, cond, length, length-append, refl, subst, suc, sym, zero, true, false, Bool, List, [], ◌++◌, ◌+◌, ◌∙◌, ◌∷◌, ◌≡◌, ◌≢◌, ℕ}
use mathlib.Core.Path.{Path}
use Rattle.std.specs.Prelude.{bytes_eq}
use Rattle.turnstile.proofs.ListLemmas.{by_same, not_same, same_refl}
use Rattle.turnstile.proofs.NumberLemmas.{places_own}
use Rattle.turnstile.specs.Entries.{entry}
use Rattle.turnstile.specs.Numbers.{Each, places_from}
use Rattle.turnstile.specs.Rules.{entry_in, made_by, known_self}
use Rattle.turnstile.specs.Turns.{Enters}
use Rattle.turnstile.specs.declared.machine.Entry.{Entry}
use Rattle.turnstile.specs.declared.view.MadeEntry.{MadeEntry}
use Rattle.turnstile.specs.declared.view.PassView.{PassView}
use Rattle.pad_live_core.specs.LaneEvents.{placed_from}

module _ {A : Type 0} where
  pub no_length : (l : List A) → length l ≡ 0 → l ≡ []
  no_length [] e = refl
  no_length (x ∷ xs) e = absurd (omega arith)

  pub snoc_front : (xs ys : List A) (a b : A) → xs ++ a ∷ [] ≡ ys ++ b ∷ [] → xs ≡ ys
  snoc_front [] [] a b e = refl
  snoc_front [] (y ∷ ys) a b e = let long = ap length e in absurd (omega (arith, long, length-append ys (b ∷ [])))
  snoc_front (x ∷ xs) [] a b e = let long = ap length e in absurd (omega (arith, long, length-append xs (a ∷ [])))
  snoc_front (x ∷ xs) (y ∷ ys) a b e = let e' : x ∷ (xs ++ a ∷ []) ≡ y ∷ (ys ++ b ∷ []) = e in let h : x ≡ y = cc in let t = snoc_front xs ys a b (cc) in (λ i. h i ∷ t i)

module _ {O R : Type 0} where
  pub placed_append : (k : ℕ) (number : List ℕ) (xs ys : List (MadeEntry O R)) → placed_from k number (xs ++ ys) ≡ placed_from k number xs ++ placed_from (k + length xs) number ys
  placed_append k number [] ys = ap (λ (z : ℕ). placed_from z number ys) (sym (add-zero k))
  placed_append k number (x ∷ xs) ys = go (placed_append (k + 1) number xs ys ∙ ap (λ (z : ℕ). placed_from (k + 1) number xs ++ placed_from z number ys) up) (bytes_eq x.by number)
    where
      up : k + 1 + length xs ≡ k + suc (length xs)
      up = omega arith

      go : placed_from (k + 1) number (xs ++ ys) ≡ placed_from (k + 1) number xs ++ placed_from (k + suc (length xs)) number ys → (b : Bool) → Path (List (ℕ × Entry O R)) (cond b ((k, entry_in x) ∷ placed_from (k + 1) number (xs ++ ys)) (placed_from (k + 1) number (xs ++ ys))) (cond b ((k, entry_in x) ∷ placed_from (k + 1) number xs) (placed_from (k + 1) number xs) ++ placed_from (k + suc (length xs)) number ys)
      go rest true = λ i. (k, entry_in x) ∷ rest i
      go rest false = rest

  pub placed_length : (k : ℕ) (number : List ℕ) (log : List (MadeEntry O R)) → length (placed_from k number log) ≡ length (places_from k number log)
  placed_length k number [] = refl
  placed_length k number (m ∷ ms) = go (placed_length (k + 1) number ms) (bytes_eq m.by number)
    where
      go : length (placed_from (k + 1) number ms) ≡ length (places_from (k + 1) number ms) → (b : Bool) → length (cond b ((k, entry_in m) ∷ placed_from (k + 1) number ms) (placed_from (k + 1) number ms)) ≡ length (cond b (k ∷ places_from (k + 1) number ms) (places_from (k + 1) number ms))
      go h true = ap suc h
      go h false = h

  pub placed_one : (k : ℕ) (number : List ℕ) (m : MadeEntry O R) → m.by ≡ number → placed_from k number (m ∷ []) ≡ (k, entry_in m) ∷ []
  placed_one k number m is = ap (λ b. cond b ((k, entry_in m) ∷ []) []) (ap (λ by. bytes_eq by number) is ∙ same_refl number)

  -- where nothing is placed, no entry has the number
  pub placed_none : (k : ℕ) (number : List ℕ) (log : List (MadeEntry O R)) → placed_from k number log ≡ [] → Each (λ (m : MadeEntry O R). m.by ≢ number) log
  placed_none k number [] e = tt
  placed_none k number (m ∷ ms) e = by_same m.by number (λ b. cond b ((k, entry_in m) ∷ placed_from (k + 1) number ms) (placed_from (k + 1) number ms) ≡ [] → Each (λ (x : MadeEntry O R). x.by ≢ number) (m ∷ ms))
      (λ _ e'. let long = ap length e' in absurd (omega arith)) (λ ne e'. (ne, placed_none (k + 1) number ms e')) e

  -- a history that goes on without entries of the number
  pub placed_same : (number : List ℕ) (seen more : List (MadeEntry O R)) → places_from 0 number (seen ++ more) ≡ places_from 0 number seen → placed_from (0 + length seen) number more ≡ []
  placed_same number seen more e =
      let whole = ap length (placed_append 0 number seen more) in
      let a = placed_length 0 number (seen ++ more) in let b = placed_length 0 number seen in let c = ap length e in
      no_length (placed_from (0 + length seen) number more) (omega (arith, whole, a, b, c, length-append (placed_from 0 number seen) (placed_from (0 + length seen) number more)))

  pub placed_on : (number : List ℕ) (seen more : List (MadeEntry O R)) → places_from 0 number (seen ++ more) ≡ places_from 0 number seen → placed_from 0 number (seen ++ more) ≡ placed_from 0 number seen
  placed_on number seen more e = placed_append 0 number seen more ∙ ap (λ l. placed_from 0 number seen ++ l) (placed_same number seen more e) ∙ append-nil (placed_from 0 number seen)

  -- an entry of one's own: nothing between was
  pub record EntersOwn (v w : PassView O R) (between : List (MadeEntry O R)) (place : ℕ) (e : Entry O R) : Type 0 where
    pub placed : placed_from 0 w.number w.seen ≡ placed_from 0 v.number v.seen ++ (place, e) ∷ []
    pub mine : places_from 0 w.number w.seen ≡ w.mine
    pub apart : Each (λ (m : MadeEntry O R). m.by ≢ v.number) between
    pub at : place ≡ length (v.seen ++ between)

  pub enters_own : (legal : List (Entry O R) → Type 0) (status : List (Entry O R) → ℕ) (v w : PassView O R) (place : ℕ) (op : O) (outcome : R) → (e : Enters legal status v place op outcome w) → places_from 0 v.number v.seen ≡ v.mine → EntersOwn v w e.between place (entry op outcome)
  enters_own legal status v w place op outcome e mine =
      let m : MadeEntry O R = made_by v.number (entry op outcome) in
      let before : List (MadeEntry O R) = v.seen ++ e.between in
      let long : length w.seen ≡ length before + 1 = ap length e.seen ∙ length-append before (m ∷ []) in
      let at : place ≡ length before = (let a = e.at in omega arith) in
      let number : w.number ≡ v.number = ap (λ (y : PassView O R). y.number) e.kept in
      let w_mine : w.mine ≡ v.mine ++ place ∷ [] = ap (λ (y : PassView O R). y.mine) e.kept in
      let here : places_from 0 w.number w.seen ≡ w.mine = e.known.each.0.mine in
      let moved : places_from 0 v.number (before ++ m ∷ []) ≡ v.mine ++ place ∷ [] = (λ i. places_from 0 (sym number i) (sym e.seen i)) ∙ here ∙ w_mine in
      let fronts : places_from 0 v.number before ≡ v.mine = snoc_front (places_from 0 v.number before) v.mine (length before) place (sym (places_own v.number before m refl) ∙ moved) in
      let none : places_from 0 v.number (v.seen ++ e.between) ≡ places_from 0 v.number v.seen = fronts ∙ sym mine in
      let step : placed_from 0 v.number (before ++ m ∷ []) ≡ placed_from 0 v.number v.seen ++ (place, entry op outcome) ∷ [] =
      placed_append 0 v.number before (m ∷ []) ∙ (λ i. placed_on v.number v.seen e.between none i ++ placed_one (0 + length before) v.number m refl i)
      ∙ ap (λ (z : ℕ). placed_from 0 v.number v.seen ++ (z, entry op outcome) ∷ []) (omega (arith, at)) in record {
        placed = (λ i. placed_from 0 (number i) (e.seen i)) ∙ step;
        mine = here;
        apart = placed_none (0 + length v.seen) v.number e.between (placed_same v.number v.seen e.between none);
        at = at;
      }
