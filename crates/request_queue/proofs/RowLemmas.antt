-- The list of rows by its places.
use Rattle.std.proofs.Common.{arith, ap, inl, inr, refl, set, suc, sym, zero, ◌∙◌, ◌⊎◌}
use Rattle.std.proofs.lemmas.Option.{same_Some, slice_get_within}
use Rattle.std.specs.List.{slice_get}
use Rattle.std.specs.Prelude.{List, None, Option, Some, [], length, ℕ, ◌++◌, ◌<◌, ◌∷◌, ◌≡◌, ◌≢◌, ◌≤◌}
use Rattle.slab.specs.Slab.{Slab, get}
use Rattle.pad_words.specs.declared.numbers.Session.{Session}
use Rattle.request_queue.specs.Nodes.{Tied, request_in, got, key_at, key_in, node_at, row_before, row_of, rows_of}
use Rattle.request_queue.specs.declared.nodes.Node.{Node}
use Rattle.request_queue.specs.declared.nodes.Place.{Place}
use Rattle.request_queue.specs.declared.nodes.Place.TheVariants.{Ended, Linked}
use Rattle.request_queue.specs.declared.requests.Request.{Request}
use Rattle.request_queue.specs.declared.requests.RequestRow.{RequestRow}
use Rattle.request_queue.specs.declared.requests.RequestRow.TheVariants.{Gone}

-- lists with the same at each place
pub same_lists : {A : Type 0} (xs ys : List A) → ((i : ℕ) → slice_get xs i ≡ slice_get ys i) → xs ≡ ys
same_lists [] [] same = refl
same_lists [] (y ∷ ys) same = let e : None ≡ Some y = same zero in cc
same_lists (x ∷ xs) [] same = let e : Some x ≡ None = same zero in cc
same_lists (x ∷ xs) (y ∷ ys) same =
    let first : x ≡ y = same_Some x y (same zero) in
    let rest : xs ≡ ys = same_lists xs ys (λ i. same (suc i)) in
    cc

pub slice_get-set_same : {A : Type 0} (xs : List A) (i : ℕ) (y : A) → i < length xs → slice_get (set xs i y) i ≡ Some y
slice_get-set_same [] i y h = absurd (omega arith)
slice_get-set_same (x ∷ xs) zero y h = refl
slice_get-set_same (x ∷ xs) (suc i) y h = slice_get-set_same xs i y (omega arith)

pub slice_get-set_other : {A : Type 0} (xs : List A) (i k : ℕ) (y : A) → k ≢ i → slice_get (set xs i y) k ≡ slice_get xs k
slice_get-set_other [] i k y h = refl
slice_get-set_other (x ∷ xs) zero zero y h = absurd (h refl)
slice_get-set_other (x ∷ xs) zero (suc k) y h = refl
slice_get-set_other (x ∷ xs) (suc i) zero y h = refl
slice_get-set_other (x ∷ xs) (suc i) (suc k) y h = slice_get-set_other xs i k y (λ e. h (ap (λ (n : ℕ). suc n) e))

pub slice_get-last : {A : Type 0} (xs : List A) (y : A) → slice_get (xs ++ y ∷ []) (length xs) ≡ Some y
slice_get-last [] y = refl
slice_get-last (x ∷ xs) y = slice_get-last xs y

pub slice_get-before_last : {A : Type 0} (xs : List A) (y : A) (k : ℕ) → k ≢ length xs → slice_get (xs ++ y ∷ []) k ≡ slice_get xs k
slice_get-before_last [] y zero h = absurd (h refl)
slice_get-before_last [] y (suc k) h = refl
slice_get-before_last (x ∷ xs) y zero h = refl
slice_get-before_last (x ∷ xs) y (suc k) h = slice_get-before_last xs y k (λ e. h (ap (λ (n : ℕ). suc n) e))

-- the row at a place with this request
abbrev pub row_by : {C R : Type 0} → ℕ → Option (Place R) → Option (Request C) → Option (RequestRow C R)
row_by running None request = None
row_by running (Some (Ended id session reply)) request = Some (Gone id session reply)
row_by running (Some (Linked key)) None = None
row_by running (Some (Linked key)) (Some request) = Some (row_of running request)

-- the key of a place
key-within : {R : Type 0} (at : Option (Place R)) (key : ℕ) → key_in at ≡ Some key → at ≡ Some (Linked key)
key-within None key e = cc
key-within (Some (Linked other)) key e = cc
key-within (Some (Ended id session reply)) key e = cc

got-key : {C : Type 0} (nodes : Slab (Node C)) (at : Option ℕ) (n : Node C) → got nodes at ≡ Some n → (key : ℕ) × (at ≡ Some key)
got-key nodes None n e = cc
got-key nodes (Some key) n e = (key, refl)

module _ {C R : Type 0} where
  put-first : (running key : ℕ) (o : Option (Node C)) (n : Node C) (rest : List (RequestRow C R)) → o ≡ Some n → slice_get (row_before running o rest) zero ≡ row_by running (Some (Linked key)) (request_in o)
  put-first running key None n rest is = cc
  put-first running key (Some m) n rest is = refl

  put-later : (running i : ℕ) (o : Option (Node C)) (n : Node C) (rest : List (RequestRow C R)) → o ≡ Some n → slice_get (row_before running o rest) (suc i) ≡ slice_get rest i
  put-later running i None n rest is = cc
  put-later running i (Some m) n rest is = refl

  put-length : (running : ℕ) (o : Option (Node C)) (n : Node C) (rest : List (RequestRow C R)) → o ≡ Some n → length (row_before running o rest) ≡ suc (length rest)
  put-length running None n rest is = cc
  put-length running (Some m) n rest is = refl

  rows-at : (running : ℕ) (nodes : Slab (Node C)) (places : List (Place R)) (i : ℕ) → ((k key : ℕ) → slice_get places k ≡ Some (Linked key) → (n : Node C) × (get nodes key ≡ Some n)) → slice_get (rows_of running nodes places) i ≡ row_by running (slice_get places i) (request_in (node_at nodes places (suc i)))
  rows-at running nodes [] i found = refl
  rows-at running nodes (Ended id session reply ∷ places) zero found = refl
  rows-at running nodes (Ended id session reply ∷ places) (suc i) found = rows-at running nodes places i (λ k key e. found (suc k) key e)
  rows-at running nodes (Linked key ∷ places) zero found = let n = found zero key refl in put-first running key (get nodes key) n.0 (rows_of running nodes places) n.1
  rows-at running nodes (Linked key ∷ places) (suc i) found = let n = found zero key refl in put-later running i (get nodes key) n.0 (rows_of running nodes places) n.1 ∙ rows-at running nodes places i (λ k other e. found (suc k) other e)

  rows-length : (running : ℕ) (nodes : Slab (Node C)) (places : List (Place R)) → ((k key : ℕ) → slice_get places k ≡ Some (Linked key) → (n : Node C) × (get nodes key ≡ Some n)) → length (rows_of running nodes places) ≡ length places
  rows-length running nodes [] found = refl
  rows-length running nodes (Ended id session reply ∷ places) found = ap (λ (n : ℕ). suc n) (rows-length running nodes places (λ k key e. found (suc k) key e))
  rows-length running nodes (Linked key ∷ places) found = let n = found zero key refl in put-length running (get nodes key) n.0 (rows_of running nodes places) n.1 ∙ ap (λ (n : ℕ). suc n) (rows-length running nodes places (λ k other e. found (suc k) other e))

  found-tied : (nodes : Slab (Node C)) (places : List (Place R)) → Tied nodes places → (k key : ℕ) → slice_get places k ≡ Some (Linked key) → (n : Node C) × (get nodes key ≡ Some n)
  found-tied nodes places tied k key e = let n = tied.at (suc k) key (ap key_in e) in (n.0, n.1)

  pub slice_get-rows : (running : ℕ) (nodes : Slab (Node C)) (places : List (Place R)) (i : ℕ) → Tied nodes places → slice_get (rows_of running nodes places) i ≡ row_by running (slice_get places i) (request_in (node_at nodes places (suc i)))
  slice_get-rows running nodes places i tied = rows-at running nodes places i (found-tied nodes places tied)

  pub length-rows : (running : ℕ) (nodes : Slab (Node C)) (places : List (Place R)) → Tied nodes places → length (rows_of {C = C} {R = R} running nodes places) ≡ length places
  length-rows running nodes places tied = rows-length running nodes places (found-tied nodes places tied)

  pub node-key : (nodes : Slab (Node C)) (places : List (Place R)) (k : ℕ) (n : Node C) → node_at nodes places k ≡ Some n → (key : ℕ) × (key_at places k ≡ Some key)
  node-key nodes places k n e = got-key nodes (key_at places k) n e

  pub node-place : (nodes : Slab (Node C)) (places : List (Place R)) (i : ℕ) (n : Node C) → node_at nodes places (suc i) ≡ Some n → (key : ℕ) × (slice_get places i ≡ Some (Linked key))
  node-place nodes places i n e =
      let key = node-key nodes places (suc i) n e in
      (key.0, key-within (slice_get places i) key.0 key.1)

  pub node-below : (nodes : Slab (Node C)) (places : List (Place R)) (k : ℕ) (n : Node C) → node_at nodes places k ≡ Some n → (0 < k) × (k ≤ length places)
  node-below nodes places zero n e = cc
  node-below nodes places (suc i) n e =
      let key : (key : ℕ) × (slice_get places i ≡ Some (Linked key)) = node-place nodes places i n e in
      let within : i < length places = slice_get_within places i (Linked key.0) key.1 in
      (omega arith, omega (arith, within))

  pub node-id : (nodes : Slab (Node C)) (places : List (Place R)) (k : ℕ) (n : Node C) → Tied nodes places → node_at nodes places k ≡ Some n → n.request.id ≡ k
  node-id nodes places k n tied e =
      let key : (key : ℕ) × (key_at places k ≡ Some key) = node-key nodes places k n e in
      let has : (m : Node C) × (get nodes key.0 ≡ Some m) × (m.request.id ≡ k) = tied.at k key.0 key.1 in
      let same : n ≡ has.0 = same_Some _ _ (sym e ∙ ap (got nodes) key.1 ∙ has.1) in
      ap (λ (m : Node C). m.request.id) same ∙ has.2

  -- a pending request's row
  pub row-pending : (running : ℕ) (nodes : Slab (Node C)) (places : List (Place R)) (i : ℕ) (n : Node C) → Tied nodes places → node_at nodes places (suc i) ≡ Some n → slice_get (rows_of {C = C} {R = R} running nodes places) i ≡ Some (row_of running n.request)
  row-pending running nodes places i n tied e =
      let key : (key : ℕ) × (slice_get places i ≡ Some (Linked key)) = node-place nodes places i n e in
      slice_get-rows running nodes places i tied
      ∙ ap (λ (p : Option (Place R)). row_by running p (request_in (node_at nodes places (suc i)))) key.1
      ∙ ap (λ (o : Option (Node C)). row_by {C = C} {R = R} running (Some (Linked key.0)) (request_in o)) e

  -- each row is a pending request's, or one that is gone
  by-cases : (running : ℕ) (at : Option (Place R)) (o : Option (Node C)) (row : RequestRow C R) → row_by running at (request_in o) ≡ Some row → ((n : Node C) × (o ≡ Some n) × (row ≡ row_of running n.request)) ⊎ ((id : ℕ) × (session : Session) × (reply : R) × (at ≡ Some (Ended id session reply)) × (row ≡ Gone id session reply))
  by-cases running None o row e = cc
  by-cases running (Some (Ended id session reply)) o row e = inr (id, session, reply, refl, sym (same_Some _ _ e))
  by-cases running (Some (Linked key)) None row e = cc
  by-cases running (Some (Linked key)) (Some n) row e = inl (n, refl, sym (same_Some _ _ e))

  pub row-cases : (running : ℕ) (nodes : Slab (Node C)) (places : List (Place R)) (i : ℕ) (row : RequestRow C R) → Tied nodes places → slice_get (rows_of running nodes places) i ≡ Some row → ((n : Node C) × (node_at nodes places (suc i) ≡ Some n) × (row ≡ row_of running n.request)) ⊎ ((id : ℕ) × (session : Session) × (reply : R) × (slice_get places i ≡ Some (Ended id session reply)) × (row ≡ Gone id session reply))
  row-cases running nodes places i row tied e = by-cases running (slice_get places i) (node_at nodes places (suc i)) row (sym (slice_get-rows running nodes places i tied) ∙ e)
