-- The first row that passes a test, and the words that find it.
use Rattle.std.proofs.Common.{arith, ap, inl, inr, refl, suc, sym, zero, ◌∙◌}
use Rattle.std.proofs.lemmas.Bool.{cases_eq, eq-eqb, ne_eqb}
use Rattle.std.proofs.lemmas.Option.{same_Some}
use Rattle.std.specs.List.{slice_get}
use Rattle.std.specs.Option.{option_map}
use Rattle.std.specs.Prelude.{Bool, List, None, Option, Some, [], false, if◌then◌else◌, true, ℕ, ◌<◌, ◌==◌, ◌∷◌, ◌≡◌}
use Rattle.slab.specs.Slab.{Slab}
use Rattle.pad_words.specs.declared.numbers.Session.{Session}
use Rattle.request_queue.specs.Nodes.{Tied, request_in, id_option, node_at, row_of, rows_of}
use Rattle.request_queue.specs.Requests.{request_id, eligible, first_of, may_begin, pending_by_id, pending_where, request_in_work}
use Rattle.request_queue.specs.declared.nodes.Node.{Node}
use Rattle.request_queue.specs.declared.nodes.Place.{Place}
use Rattle.request_queue.specs.declared.requests.Request.{Request}
use Rattle.request_queue.specs.declared.requests.RequestRow.{RequestRow}
use Rattle.request_queue.specs.declared.requests.RequestRow.TheVariants.{Gone, InWork, Waiting}
use Rattle.request_queue.proofs.RowLemmas.{node-id, row-cases, row-pending}

abbrev pub first_row : {C R : Type 0} → (RequestRow C R → Bool) → List (RequestRow C R) → Option (RequestRow C R)
first_row test [] = None
first_row test (row ∷ rows) = if test row then Some row else first_row test rows

abbrev pub row_request : {C R : Type 0} → Option (RequestRow C R) → Option (Request C)
row_request None = None
row_request (Some (Waiting q)) = Some q
row_request (Some (InWork q)) = Some q
row_request (Some (Gone id session reply)) = None

-- tests of rows by a test of their requests
abbrev pub waits : {C R : Type 0} → (Request C → Bool) → RequestRow C R → Bool
waits test (Waiting q) = test q
waits test (InWork q) = false
waits test (Gone id session reply) = false

abbrev pub pends : {C R : Type 0} → (Request C → Bool) → RequestRow C R → Bool
pends test (Waiting q) = test q
pends test (InWork q) = test q
pends test (Gone id session reply) = false

abbrev pub works : {C R : Type 0} → RequestRow C R → Bool
works (Waiting q) = false
works (InWork q) = true
works (Gone id session reply) = false

-- rows of each kind, with their types
abbrev pub waiting : {C R : Type 0} → Request C → RequestRow C R
waiting q = Waiting q

abbrev pub working_row : {C R : Type 0} → Request C → RequestRow C R
working_row q = InWork q

abbrev pub gone_row : {C R : Type 0} → Request C → R → RequestRow C R
gone_row q reply = Gone q.id q.session reply

pub if-true : {A : Type 0} (b : Bool) (x y : A) → b ≡ true → (if b then x else y) ≡ x
if-true true x y e = refl
if-true false x y e = cc

pub if-false : {A : Type 0} (b : Bool) (x y : A) → b ≡ false → (if b then x else y) ≡ y
if-false true x y e = cc
if-false false x y e = refl

-- the request of a row
request-back : {C : Type 0} (R : Type 0) (b : Bool) (a : Request C) → row_request {C = C} {R = R} (Some (if b then InWork a else Waiting a)) ≡ Some a
request-back R true a = refl
request-back R false a = refl

-- its id
id-some : {C : Type 0} (h : ℕ) (o : Option (Node C)) → (0 < h → (n : Node C) × (o ≡ Some n)) → ((n : Node C) → o ≡ Some n → (n.request.id ≡ h) × (0 < h)) → id_option h ≡ option_map request_id (request_in o)
id-some h None has is = elim (cases_eq h 0) [
  | inl zero_h ↦ if-true (h == 0) None (Some h) (eq-eqb h 0 zero_h)
  | inr pos ↦ let n = has (omega (arith, pos)) in let e : None ≡ Some n.0 = n.1 in cc
]
id-some h (Some n) has is =
    let both : (n.request.id ≡ h) × (0 < h) = is n refl in
    if-false (h == 0) None (Some h) (ne_eqb h 0 (λ e. omega (arith, e, both.1))) ∙ ap (λ (x : ℕ). Some x) (sym both.0)

module _ {C R : Type 0} where
  pub first-hit : (test : RequestRow C R → Bool) (rows : List (RequestRow C R)) (i : ℕ) (row : RequestRow C R) → slice_get rows i ≡ Some row → test row ≡ true → ((k : ℕ) (other : RequestRow C R) → k < i → slice_get rows k ≡ Some other → test other ≡ false) → first_row test rows ≡ Some row
  first-hit test [] i row at hit miss = cc
  first-hit test (first ∷ rows) zero row at hit miss =
      let is : first ≡ row = same_Some first row at in
      if-true (test first) (Some first) (first_row test rows) (ap test is ∙ hit) ∙ ap (λ (r : RequestRow C R). Some r) is
  first-hit test (first ∷ rows) (suc i) row at hit miss =
      if-false (test first) (Some first) (first_row test rows) (miss zero first (omega arith) refl)
      ∙ first-hit test rows i row at hit (λ k other lt e. miss (suc k) other (omega arith) e)

  pub first-none : (test : RequestRow C R → Bool) (rows : List (RequestRow C R)) → ((k : ℕ) (other : RequestRow C R) → slice_get rows k ≡ Some other → test other ≡ false) → first_row test rows ≡ None
  first-none test [] miss = refl
  first-none test (first ∷ rows) miss =
      if-false (test first) (Some first) (first_row test rows) (miss zero first refl)
      ∙ first-none test rows (λ k other e. miss (suc k) other e)

  -- the words by the first row
  choose : (b : Bool) (q : Request C) (row : RequestRow C R) (e : Option (Request C)) (f : Option (RequestRow C R)) → row_request (Some row) ≡ Some q → e ≡ row_request f → (if b then Some q else e) ≡ row_request (if b then Some row else f)
  choose true q row e f is same = sym is
  choose false q row e f is same = same

  pub eligible-first : (holder : Option Session) (rows : List (RequestRow C R)) → eligible holder rows ≡ row_request (first_row (waits (may_begin holder)) rows)
  eligible-first holder [] = refl
  eligible-first holder (Waiting q ∷ rows) = choose (may_begin holder q) q (Waiting q) (eligible holder rows) (first_row (waits (may_begin holder)) rows) refl (eligible-first holder rows)
  eligible-first holder (InWork q ∷ rows) = eligible-first holder rows
  eligible-first holder (Gone id session reply ∷ rows) = eligible-first holder rows

  pub request_in_work-first : (rows : List (RequestRow C R)) → request_in_work rows ≡ row_request (first_row works rows)
  request_in_work-first [] = refl
  request_in_work-first (Waiting q ∷ rows) = request_in_work-first rows
  request_in_work-first (InWork q ∷ rows) = refl
  request_in_work-first (Gone id session reply ∷ rows) = request_in_work-first rows

  pub pending_by_id-first : (id : ℕ) (rows : List (RequestRow C R)) → pending_by_id id rows ≡ row_request (first_row (pends (λ q. q.id == id)) rows)
  pending_by_id-first id [] = refl
  pending_by_id-first id (Waiting q ∷ rows) = choose (q.id == id) q (Waiting q) (pending_by_id id rows) (first_row (pends (λ p. p.id == id)) rows) refl (pending_by_id-first id rows)
  pending_by_id-first id (InWork q ∷ rows) = choose (q.id == id) q (InWork q) (pending_by_id id rows) (first_row (pends (λ p. p.id == id)) rows) refl (pending_by_id-first id rows)
  pending_by_id-first id (Gone gone session reply ∷ rows) = pending_by_id-first id rows

  choose-first : (b : Bool) (q : Request C) (row : RequestRow C R) (e : List (Request C)) (f : Option (RequestRow C R)) → row_request (Some row) ≡ Some q → first_of e ≡ row_request f → first_of (if b then q ∷ e else e) ≡ row_request (if b then Some row else f)
  choose-first true q row e f is same = sym is
  choose-first false q row e f is same = same

  pub pending_where-first : (test : Request C → Bool) (rows : List (RequestRow C R)) → first_of (pending_where test rows) ≡ row_request (first_row (pends test) rows)
  pending_where-first test [] = refl
  pending_where-first test (Waiting q ∷ rows) = choose-first (test q) q (Waiting q) (pending_where test rows) (first_row (pends test) rows) refl (pending_where-first test rows)
  pending_where-first test (InWork q ∷ rows) = choose-first (test q) q (InWork q) (pending_where test rows) (first_row (pends test) rows) refl (pending_where-first test rows)
  pending_where-first test (Gone id session reply ∷ rows) = pending_where-first test rows

  -- the request that a test finds is the one with this id

  pub request-first : (test : RequestRow C R → Bool) (running : ℕ) (nodes : Slab (Node C)) (places : List (Place R)) (h : ℕ) → Tied nodes places
      → ((id : ℕ) (session : Session) (reply : R) → test (Gone id session reply) ≡ false)
      → ((n : Node C) → node_at nodes places h ≡ Some n → test (row_of running n.request) ≡ true)
      → ((k : ℕ) (n : Node C) → node_at nodes places k ≡ Some n → ((m : Node C) → node_at nodes places h ≡ Some m → k < h) → test (row_of running n.request) ≡ false)
      → row_request (first_row test (rows_of running nodes places)) ≡ request_in (node_at nodes places h)
  request-first test running nodes places zero tied gone hit miss =
      ap row_request (first-none test (rows_of running nodes places) (λ k other e. elim (row-cases running nodes places k other tied e) [
        | inl found ↦ ap test found.2 ∙ miss (suc k) found.0 found.1 (λ m none. cc)
        | inr ended ↦ ap test ended.4 ∙ gone ended.0 ended.1 ended.2
      ]))
  request-first test running nodes places (suc i) tied gone hit miss = by_node (node_at nodes places (suc i)) refl
    where
      by_node : (o : Option (Node C)) → node_at nodes places (suc i) ≡ o → row_request (first_row test (rows_of running nodes places)) ≡ request_in o
      by_node None is =
          ap row_request (first-none test (rows_of running nodes places) (λ k other e. elim (row-cases running nodes places k other tied e) [
            | inl found ↦ ap test found.2 ∙ miss (suc k) found.0 found.1 (λ m some. let no : None ≡ Some m = sym is ∙ some in cc)
            | inr ended ↦ ap test ended.4 ∙ gone ended.0 ended.1 ended.2
          ]))
      by_node (Some n) is =
          ap row_request (first-hit test (rows_of running nodes places) i (row_of running n.request) (row-pending running nodes places i n tied is) (hit n is) (λ k other lt e. elim (row-cases running nodes places k other tied e) [
            | inl found ↦ ap test found.2 ∙ miss (suc k) found.0 found.1 (λ m some. omega arith)
            | inr ended ↦ ap test ended.4 ∙ gone ended.0 ended.1 ended.2
          ]))
          ∙ request-back R (n.request.id == running) n.request

  pub id-pos : (nodes : Slab (Node C)) (places : List (Place R)) (h : ℕ) (n : Node C) → node_at nodes places h ≡ Some n → 0 < h
  id-pos nodes places zero n e = cc
  id-pos nodes places (suc h) n e = omega arith

  pub id-request : (nodes : Slab (Node C)) (places : List (Place R)) (h : ℕ) → Tied nodes places → (0 < h → (n : Node C) × (node_at nodes places h ≡ Some n)) → id_option h ≡ option_map request_id (request_in (node_at nodes places h))
  id-request nodes places h tied has = id-some h (node_at nodes places h) has (λ n e. (node-id nodes places h n tied e, id-pos nodes places h n e))
