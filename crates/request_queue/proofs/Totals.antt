-- Counts of rows as sums.
use Rattle.std.proofs.Common.{arith, ap, refl, set, suc, sym, zero, ◌∙◌}
use Rattle.std.proofs.lemmas.Option.{same_Some}
use Rattle.std.specs.List.{slice_get}
use Rattle.std.specs.Prelude.{Bool, List, None, Option, Some, [], false, if◌then◌else◌, length, true, ℕ, ◌++◌, ◌+◌, ◌==◌, ◌∷◌, ◌≡◌, ◌≤◌}
use Rattle.slab.specs.Slab.{Slab, get}
use Rattle.pad_words.specs.declared.numbers.Session.{Session}
use Rattle.request_queue.specs.Nodes.{row_before, row_of, rows_of}
use Rattle.pad_words.specs.Numbers.{same_session}
use Rattle.request_queue.specs.Requests.{gone_count, pending_count, pending_where}
use Rattle.request_queue.specs.declared.nodes.Node.{Node}
use Rattle.request_queue.specs.declared.nodes.Place.{Place}
use Rattle.request_queue.specs.declared.nodes.Place.TheVariants.{Ended, Linked}
use Rattle.request_queue.specs.declared.requests.Request.{Request}
use Rattle.request_queue.specs.declared.requests.RequestRow.{RequestRow}
use Rattle.request_queue.specs.declared.requests.RequestRow.TheVariants.{Gone, InWork, Waiting}

abbrev pub total : {A : Type 0} → (A → ℕ) → List A → ℕ
total f [] = 0
total f (x ∷ xs) = f x + total f xs

pub total-set : {A : Type 0} (f : A → ℕ) (xs : List A) (i : ℕ) (x y : A) → slice_get xs i ≡ Some x → total f (set xs i y) + f x ≡ total f xs + f y
total-set f [] i x y at = cc
total-set f (first ∷ xs) zero x y at =
    let is : f first ≡ f x = ap f (same_Some first x at) in
    omega (arith, is)
total-set f (first ∷ xs) (suc i) x y at = omega (arith, total-set f xs i x y at)

pub total-last : {A : Type 0} (f : A → ℕ) (xs : List A) (y : A) → total f (xs ++ y ∷ []) ≡ total f xs + f y
total-last f [] y = omega arith
total-last f (x ∷ xs) y = omega (arith, total-last f xs y)

-- what a row counts
abbrev pub one_if : Bool → ℕ
one_if true = 1
one_if false = 0

abbrev pub weight : {C R : Type 0} → Session → RequestRow C R → ℕ
weight session (Waiting q) = one_if (same_session q.session session)
weight session (InWork q) = one_if (same_session q.session session)
weight session (Gone id owner reply) = 0

abbrev pub gone_weight : {C R : Type 0} → RequestRow C R → ℕ
gone_weight (Waiting q) = 0
gone_weight (InWork q) = 0
gone_weight (Gone id owner reply) = 1

count-one : {A : Type 0} (b : Bool) (x : A) (xs : List A) (n : ℕ) → length xs ≡ n → length (if b then x ∷ xs else xs) ≡ one_if b + n
count-one true x xs n e = omega (arith, e)
count-one false x xs n e = omega (arith, e)

module _ {C R : Type 0} where
  pub pending_count-total : (session : Session) (rows : List (RequestRow C R)) → pending_count session rows ≡ total (weight session) rows
  pending_count-total session [] = refl
  pending_count-total session (Waiting q ∷ rows) = count-one (same_session q.session session) q (pending_where (λ p. same_session p.session session) rows) (total (weight session) rows) (pending_count-total session rows)
  pending_count-total session (InWork q ∷ rows) = count-one (same_session q.session session) q (pending_where (λ p. same_session p.session session) rows) (total (weight session) rows) (pending_count-total session rows)
  pending_count-total session (Gone id owner reply ∷ rows) = let e : pending_count session rows ≡ total (weight session) rows = pending_count-total session rows in omega (arith, e)

  pub pending-or-gone : (rows : List (RequestRow C R)) → length (pending_where (λ request. true) rows) + gone_count rows ≡ length rows
  pending-or-gone [] = refl
  pending-or-gone (Waiting q ∷ rows) = omega (arith, pending-or-gone rows)
  pending-or-gone (InWork q ∷ rows) = omega (arith, pending-or-gone rows)
  pending-or-gone (Gone id owner reply ∷ rows) = omega (arith, pending-or-gone rows)

  pub gone_count-total : (rows : List (RequestRow C R)) → gone_count rows ≡ total gone_weight rows
  gone_count-total [] = refl
  gone_count-total (Waiting q ∷ rows) = let e : gone_count rows ≡ total gone_weight rows = gone_count-total rows in omega (arith, e)
  gone_count-total (InWork q ∷ rows) = let e : gone_count rows ≡ total gone_weight rows = gone_count-total rows in omega (arith, e)
  gone_count-total (Gone id owner reply ∷ rows) = let e : gone_count rows ≡ total gone_weight rows = gone_count-total rows in omega (arith, e)

  pub gone_count-le : (rows : List (RequestRow C R)) → gone_count rows ≤ length rows
  gone_count-le [] = omega arith
  gone_count-le (Waiting q ∷ rows) = let e : gone_count rows ≤ length rows = gone_count-le rows in omega (arith, e)
  gone_count-le (InWork q ∷ rows) = let e : gone_count rows ≤ length rows = gone_count-le rows in omega (arith, e)
  gone_count-le (Gone id owner reply ∷ rows) = let e : gone_count rows ≤ length rows = gone_count-le rows in omega (arith, e)

-- a request counts alike while it waits and in work
weight-by : {C : Type 0} (R : Type 0) (b : Bool) (session : Session) (a : Request C) → weight {C = C} {R = R} session (if b then InWork a else Waiting a) ≡ one_if (same_session a.session session)
weight-by R true session a = refl
weight-by R false session a = refl

pub weight-row : {C : Type 0} (R : Type 0) (running : ℕ) (session : Session) (a : Request C) → weight {C = C} {R = R} session (row_of running a) ≡ one_if (same_session a.session session)
weight-row R running session a = weight-by R (a.id == running) session a

gone-by : {C : Type 0} (R : Type 0) (b : Bool) (a : Request C) → gone_weight {C = C} {R = R} (if b then InWork a else Waiting a) ≡ 0
gone-by R true a = refl
gone-by R false a = refl

pub gone-row : {C : Type 0} (R : Type 0) (running : ℕ) (a : Request C) → gone_weight {C = C} {R = R} (row_of running a) ≡ 0
gone-row R running a = gone-by R (a.id == running) a

module _ {C R : Type 0} (f : RequestRow C R → ℕ) (even : (r s : ℕ) (a : Request C) → f (row_of r a) ≡ f (row_of s a)) where
  before-same : (r s : ℕ) (o : Option (Node C)) (xs ys : List (RequestRow C R)) → total f xs ≡ total f ys → total f (row_before r o xs) ≡ total f (row_before s o ys)
  before-same r s None xs ys same = same
  before-same r s (Some n) xs ys same = let e : f (row_of r n.request) ≡ f (row_of s n.request) = even r s n.request in omega (arith, e, same)

  pub total-running : (r s : ℕ) (nodes : Slab (Node C)) (places : List (Place R)) → total f (rows_of r nodes places) ≡ total f (rows_of s nodes places)
  total-running r s nodes [] = refl
  total-running r s nodes (Ended id session reply ∷ places) = let e : total f (rows_of r nodes places) ≡ total f (rows_of s nodes places) = total-running r s nodes places in omega (arith, e)
  total-running r s nodes (Linked key ∷ places) = before-same r s (get nodes key) (rows_of r nodes places) (rows_of s nodes places) (total-running r s nodes places)

module _ {C R : Type 0} where
  pub pending_count-running : (session : Session) (r s : ℕ) (nodes : Slab (Node C)) (places : List (Place R)) → pending_count session (rows_of {C = C} {R = R} r nodes places) ≡ pending_count session (rows_of {C = C} {R = R} s nodes places)
  pending_count-running session r s nodes places =
      pending_count-total session (rows_of r nodes places)
      ∙ total-running (weight session) (λ p q a. weight-row R p session a ∙ sym (weight-row R q session a)) r s nodes places
      ∙ sym (pending_count-total session (rows_of s nodes places))

  pub gone_count-running : (r s : ℕ) (nodes : Slab (Node C)) (places : List (Place R)) → gone_count (rows_of {C = C} {R = R} r nodes places) ≡ gone_count (rows_of {C = C} {R = R} s nodes places)
  gone_count-running r s nodes places =
      gone_count-total (rows_of r nodes places)
      ∙ total-running gone_weight (λ p q a. gone-row R p a ∙ sym (gone-row R q a)) r s nodes places
      ∙ sym (gone_count-total (rows_of s nodes places))
