-- Facts of each element of a list, and lists of numbers.
use Rattle.std.proofs.Common.{◌≡◌, ◌≢◌, ℕ, zero, suc, ◌⊎◌, Bool, true, false, List, [], ◌∷◌, ◌++◌, length, sym, refl, ap, ◌∙◌, subst, inl, inr, ⊎_elim, arith, length-append}
use mathlib.Core.Option.{some, some-injective, some-ne-none}
use lib.ListN.{get_elem?}
use Rattle.std.proofs.lemmas.Slice.Eq.{bytes_eq-Decides}
use Rattle.std.specs.Prelude.{bytes_eq}
use Rattle.turnstile.specs.Numbers.{Each}

module _ {A : Type 0} where
  pub each_map : (P Q : A → Type 0) (l : List A) → ((x : A) → P x → Q x) → Each P l → Each Q l
  each_map P Q [] f a = tt
  each_map P Q (x ∷ xs) f a = (f x a.0, each_map P Q xs f a.1)

  pub each_two : (P R Q : A → Type 0) (l : List A) → ((x : A) → P x → R x → Q x) → Each P l → Each R l → Each Q l
  each_two P R Q [] f a b = tt
  each_two P R Q (x ∷ xs) f a b = (f x a.0 b.0, each_two P R Q xs f a.1 b.1)

  pub each_append : (P : A → Type 0) (l m : List A) → Each P l → Each P m → Each P (l ++ m)
  each_append P [] m a b = b
  each_append P (x ∷ xs) m a b = (a.0, each_append P xs m a.1 b)

  pub each_at : (P : A → Type 0) (l : List A) (i : ℕ) (x : A) → Each P l → get_elem? l i ≡ some x → P x
  each_at P [] i x a e = absurd (some-ne-none x (sym e))
  each_at P (y ∷ ys) zero x a e = subst P (some-injective y x e) a.0
  each_at P (y ∷ ys) (suc i) x a e = each_at P ys i x a.1 e

  -- an element of a list with one more at its end
  pub at_end : (l : List A) (a b : A) (j : ℕ) → get_elem? (l ++ a ∷ []) j ≡ some b → (get_elem? l j ≡ some b) ⊎ ((j ≡ length l) × (a ≡ b))
  at_end [] a b zero e = inr (refl, some-injective a b e)
  at_end [] a b (suc j) e = absurd (some-ne-none b (sym e))
  at_end (x ∷ xs) a b zero e = inl e
  at_end (x ∷ xs) a b (suc j) e = ⊎_elim (λ h. inl h) (λ h. inr (ap suc h.0, h.1)) (at_end xs a b j e)

-- a number is the same as itself
pub same_refl : (n : List ℕ) → bytes_eq n n ≡ true
same_refl n = (bytes_eq-Decides n n).1 refl

-- two numbers are the same or not
pub by_same : (a b : List ℕ) (F : Bool → Type 0) → (a ≡ b → F true) → (a ≢ b → F false) → F (bytes_eq a b)
by_same a b F hit miss = go (bytes_eq a b) refl
  where
    go : (c : Bool) → bytes_eq a b ≡ c → F c
    go true is = hit ((bytes_eq-Decides a b).0 is)
    go false is = miss (λ e. let no : true ≡ false = sym (same_refl a) ∙ ap (bytes_eq a) e ∙ is in cc)

pub not_same : (a b : List ℕ) → a ≢ b → bytes_eq a b ≡ false
not_same a b ne = by_same a b (λ c. c ≡ false) (λ e. absurd (ne e)) (λ _. refl)

-- what a list is, that begins with front and then r, where it ends with a
pub snoc_split : (l front rest : List ℕ) (a r : ℕ) → l ++ a ∷ [] ≡ front ++ r ∷ rest → ((front ≡ l) × (r ≡ a)) ⊎ ((rest' : List ℕ) × (l ≡ front ++ r ∷ rest'))
snoc_split [] [] rest a r e = inl (refl, (cc))
snoc_split [] (x ∷ xs) rest a r e = let long = ap length e in absurd (omega (arith, long, length-append xs (r ∷ rest)))
snoc_split (y ∷ ys) [] rest a r e = let e' : y ∷ (ys ++ a ∷ []) ≡ r ∷ rest = e in let h : y ≡ r = cc in inr (ys, λ i. h i ∷ ys)
snoc_split (y ∷ ys) (x ∷ xs) rest a r e = let e' : y ∷ (ys ++ a ∷ []) ≡ x ∷ (xs ++ r ∷ rest) = e in let h : y ≡ x = cc in
    ⊎_elim (λ (t : (xs ≡ ys) × (r ≡ a)). inl ((λ i. sym h i ∷ t.0 i), t.1)) (λ (t : (rest' : List ℕ) × (ys ≡ xs ++ r ∷ rest')). inr (t.0, λ i. h i ∷ t.1 i))
    (snoc_split ys xs rest a r (cc))
