-- What a crash leaves in each step of a replacement.
use Rattle.std.proofs.Common.{◌≡◌, inr, ℕ, Bool, true, false, List, [], ◌∷◌, length, Option, Some, None, IfSome, is_some, Result, Ok, Err, OnErr, refl, sym, ◌∙◌, ap, subst, arith, if◌then◌else◌}
use Rattle.std.specs.Option.{option_map}
use Rattle.disk_core.specs.DiskStates.{DiskState, EachImage, IsOnlyImage, TearsWithin, splice}
use Rattle.nv_store.specs.Cells.{IsTorn, place_of, spare, staged}
use Rattle.nv_store.specs.Stores.{HasStable, IsInStep}

-- what is told

if_some : {X : Type 0} (o : Option X) (P : X → Type 0) → ((x : X) → o ≡ Some x → P x) → IfSome o P
if_some None P f = tt
if_some (Some x) P f = f x refl

from_some : {X : Type 0} (o : Option X) (P : X → Type 0) (x : X) → o ≡ Some x → IfSome o P → P x
from_some o P x is holds = let Q : Option _ → Type 0 = λ v. IfSome v P in subst Q is holds

-- what is told now was told before
told_before : {X : Type 0} (o p : Option X) (y : X) → is_some p ≡ is_some o → p ≡ Some y → (x : X) × (o ≡ Some x)
told_before {X} None p y same is = absurd (let no : true ≡ false = ap (λ (v : Option X). is_some v) (sym is) ∙ same in cc)
told_before (Some x) p y same is = (x, refl)

-- the steps of a replacement

pub on_err : {T E : Type 0} (r : Result T E) (P : Type 0) → P → OnErr r P
on_err (Ok x) P p = tt
on_err (Err e) P p = p

-- the value of a settled store is its bytes
kept_is : (s : DiskState) (settled : Bool) (items : List ℕ) (kept : Option (List ℕ)) → (if settled then Some items else None) ≡ kept → IsInStep s kept → kept ≡ Some items
kept_is s true items kept view in_step = sym view
kept_is s false items kept view in_step = absurd (let P : Option (List ℕ) → Type 0 = IsInStep s in subst P (sym view) in_step)

pub one_byte : (xs : List ℕ) → length xs ≡ 1 → (x : ℕ) × (xs ≡ x ∷ [])
one_byte [] is = absurd (omega arith)
one_byte (x ∷ []) is = (x, refl)
one_byte (x ∷ y ∷ xs) is = absurd (omega (arith, is))

mapped : (o : Option (List ℕ)) (f : List ℕ → List ℕ) (P : List ℕ → Type 0) (b c : List ℕ) → IfSome o (λ x. (x ≡ b) × P x) → option_map f o ≡ Some c → c ≡ f b
mapped None f P b c is all = absurd (cc)
mapped (Some x) f P b c is all = let same : f x ≡ c = cc in sym same ∙ ap f is.0

module _ (settled : Bool) (items : List ℕ) (kept : Option (List ℕ)) (view : (if settled then Some items else None) ≡ kept) (slot at half : ℕ) (cell bytes : List ℕ) (bytes_is : bytes ≡ items) (half_is : half ≡ spare bytes slot) (at_is : at ≡ place_of slot half) (s0 s1 s2 : DiskState) (in_step : IsInStep s0 kept) (written : s1.content ≡ option_map (λ c. splice c at cell) s0.content) (durable : IfSome s1.content (λ c. IsOnlyImage c s1)) where
  are : kept ≡ Some items
  are = kept_is s0 settled items kept view in_step

  place_is : at ≡ place_of slot (spare items slot)
  place_is = at_is ∙ ap (λ (n : ℕ). place_of slot n) (half_is ∙ ap (λ (l : List ℕ). spare l slot) bytes_is)

  -- after the first part
  first : (c : List ℕ) → s1.content ≡ Some c → c ≡ splice items at cell
  first c told = let P : Option (List ℕ) → Type 0 = IsInStep s0 in mapped s0.content (λ x. splice x at cell) (λ x. IsOnlyImage items s0) items c (subst P are in_step) (sym written ∙ told)

  pub torn : TearsWithin slot 1 s1 s2 → is_some s2.content ≡ is_some s1.content → IfSome kept (λ b. EachImage s2 (IsTorn b slot cell))
  torn tears tells = let P : Option (List ℕ) → Type 0 = λ o. IfSome o (λ b. EachImage s2 (IsTorn b slot cell)) in subst P (sym are) (if_some s2.content _ (λ c told d left.
      let before = told_before s1.content s2.content c tells told in
      let from = tears d left in
      let was : from.0 ≡ staged items slot cell =
      from_some s1.content (λ x. IsOnlyImage x s1) before.0 before.1 durable from.0 from.1 ∙ first before.0 before.1 ∙ ap (λ (n : ℕ). splice items n cell) place_is in
      let byte = one_byte from.2.part from.2.size in
      inr (byte.0, from.2.whole ∙ ap (λ (x : List ℕ). splice x slot from.2.part) was ∙ ap (λ (x : List ℕ). splice (staged items slot cell) slot x) byte.1)))

  pub done : (new : List ℕ) → s2.content ≡ option_map (λ c. splice c slot (half ∷ [])) s1.content → IfSome s2.content (λ c. IsOnlyImage c s2) → new ≡ splice (splice bytes at cell) slot (half ∷ []) → HasStable s2 new
  done new second only new_is = if_some s2.content _ (λ c told.
      let tells : is_some s2.content ≡ is_some s1.content = ap (λ (o : Option (List ℕ)). is_some o) second ∙ kept_some s1.content in
      let before = told_before s1.content s2.content c tells told in
      let is : c ≡ new =
      mapped s1.content (λ x. splice x slot (half ∷ [])) (λ x. s1.content ≡ Some x) before.0 c (if_some s1.content _ (λ x e. (let same : Some x ≡ Some before.0 = sym e ∙ before.1 in cc, e))) (sym second ∙ told)
      ∙ ap (λ (x : List ℕ). splice x slot (half ∷ [])) (first before.0 before.1 ∙ ap (λ (x : List ℕ). splice x at cell) (sym bytes_is))
      ∙ sym new_is in
      (is, λ d left. from_some s2.content (λ x. IsOnlyImage x s2) c told only d left ∙ is))
    where
      kept_some : (o : Option (List ℕ)) → is_some (option_map (λ c. splice c slot (half ∷ [])) o) ≡ is_some o
      kept_some None = refl
      kept_some (Some x) = refl
