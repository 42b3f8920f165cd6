-- What is so where a disk tells its bytes.
use Rattle.std.specs.Prelude.{IfSome, List, None, Option, Some, is_some, ℕ, ◌≡◌}

pub told_always : (o : Option (List ℕ)) (X : Type 0) → X → IfSome o (λ _. X)
told_always None X x = tt
told_always (Some c) X x = x

-- what is told of one is told of the other
pub told_to : (o p : Option (List ℕ)) (X : Type 0) → is_some p ≡ is_some o → IfSome o (λ _. X) → IfSome p (λ _. X)
told_to o None X same x = tt
told_to None (Some c) X same x = cc
told_to (Some b) (Some c) X same x = x

pub both_told : (o p : Option (List ℕ)) (X Y Z : Type 0) → is_some p ≡ is_some o → (X → Y → Z) → IfSome o (λ _. X) → IfSome p (λ _. Y) → IfSome p (λ _. Z)
both_told o None X Y Z same f x y = tt
both_told None (Some c) X Y Z same f x y = cc
both_told (Some b) (Some c) X Y Z same f x y = f x y

-- with what is so of the bytes themselves
pub with_told : (o p : Option (List ℕ)) (P : List ℕ → Type 0) (X Z : Type 0) → is_some p ≡ is_some o → ((c : List ℕ) → P c → X → Z) → IfSome o P → IfSome p (λ _. X) → IfSome p (λ _. Z)
with_told o None P X Z same f x y = tt
with_told None (Some c) P X Z same f x y = cc
with_told (Some b) (Some c) P X Z same f x y = f b x y

pub told_both : (o : Option (List ℕ)) (P Q : List ℕ → Type 0) → IfSome o P → IfSome o Q → IfSome o (λ c. P c × Q c)
told_both None P Q p q = tt
told_both (Some c) P Q p q = (p, q)

pub told_three : (o : Option (List ℕ)) (X Y Z : Type 0) → IfSome o (λ _. X) → IfSome o (λ _. Y) → IfSome o (λ _. Z) → IfSome o (λ _. X × (Y × Z))
told_three None X Y Z x y z = tt
told_three (Some c) X Y Z x y z = (x, (y, z))

pub each_where : (o : Option (List ℕ)) (P Q : List ℕ → Type 0) (images : List ℕ → Type 0) → ((d : List ℕ) → P d → Q d) → IfSome o (λ _. (d : List ℕ) → images d → P d) → IfSome o (λ _. (d : List ℕ) → images d → Q d)
each_where None P Q images f each = tt
each_where (Some c) P Q images f each = λ d left. f d (each d left)
