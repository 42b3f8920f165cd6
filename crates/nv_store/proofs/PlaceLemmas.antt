-- Parts of a store's bytes that are read and written.
use Rattle.std.proofs.Common.{◌≡◌, ℕ, suc, ◌+◌, ◌-◌, ◌≤◌, ◌<◌, List, [], ◌∷◌, ◌++◌, length, take, drop, set, Option, Some, MatchOption, sym, ◌∙◌, ap, subst, arith, append_assoc}
use Rattle.std.proofs.lemmas.List.{set_split, drop-drop, length-take-le, length-append, length-drop, take_rest}
use Rattle.std.specs.Prelude.{slice_range}
use borrow.Rule.Slice.PartMut.{put_mid}
use Rattle.disk_core.specs.DiskStates.{splice}

pub put_mid-splice : (at k : ℕ) (xs ys : List ℕ) → k ≡ length ys → put_mid at k xs ys ≡ splice xs at ys
put_mid-splice at k xs ys is =
    ap (λ (n : ℕ). take at xs ++ (ys ++ drop n (drop at xs))) is
    ∙ ap (λ (l : List ℕ). take at xs ++ (ys ++ l)) (drop-drop (length ys) at xs)
    ∙ sym (append_assoc (take at xs) ys (drop (at + length ys) xs))

pub set-splice : (xs : List ℕ) (i v : ℕ) → i < length xs → set xs i v ≡ splice xs i (v ∷ [])
set-splice xs i v lt =
    set_split xs i v lt ∙ (let e : suc i ≡ i + 1 = omega arith in ap (λ (n : ℕ). take i xs ++ v ∷ drop n xs) e) ∙ sym (append_assoc (take i xs) (v ∷ []) (drop (i + 1) xs))

pub length-splice : (xs : List ℕ) (at : ℕ) (ys : List ℕ) → at + length ys ≤ length xs → length (splice xs at ys) ≡ length xs
length-splice xs at ys fits = omega (arith, length-append (take at xs ++ ys) (drop (at + length ys) xs), length-append (take at xs) ys, length-drop (at + length ys) xs, length-take-le at xs (omega arith))

pub from_match : {X : Type 0} (o : Option X) (P : Type 0) (Q : X → Type 0) (x : X) → o ≡ Some x → MatchOption o P Q → Q x
from_match o P Q x is holds = let R : Option _ → Type 0 = λ v. MatchOption v P Q in subst R is holds

pub first_is : (xs ys : List ℕ) (at : ℕ) → ys ≡ take 96 (take (length xs - at) (drop at xs)) → ys ≡ slice_range xs at (at + 96)
first_is xs ys at is = is ∙ ap (λ (l : List ℕ). take 96 l) (take_rest xs at) ∙ (let e : 96 ≡ at + 96 - at = omega arith in ap (λ (n : ℕ). take n (drop at xs)) e)
