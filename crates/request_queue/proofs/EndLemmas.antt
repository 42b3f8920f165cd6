-- Requests that end one after another.
use Rattle.std.proofs.Common.{ap, inl, inr, refl, subst, suc, sym, ◌∙◌}
use Rattle.std.proofs.lemmas.Bool.{eq-eqb, ne_eqb}
use Rattle.std.proofs.lemmas.Option.{same_Some, slice_get-map}
use Rattle.std.specs.List.{slice_get}
use Rattle.std.specs.Option.{option_map}
use Rattle.std.specs.Prelude.{Bool, List, None, Option, Some, [], drop, false, if◌then◌else◌, map, true, ℕ, ◌==◌, ◌∷◌, ◌≡◌, ◌≢◌}
use Rattle.request_queue.specs.Laws.{IsFirst}
use Rattle.request_queue.specs.Requests.{HasIds, begun_by_id, begun_row, ended_where, first_of, has_id, pending_where, request_id, row_id}
use Rattle.request_queue.specs.declared.requests.Request.{Request}
use Rattle.request_queue.specs.declared.requests.RequestRow.{RequestRow}
use Rattle.request_queue.specs.declared.requests.RequestRow.TheVariants.{Gone, InWork, Waiting}
use Rattle.request_queue.proofs.FinishLemmas.{ended_row, ended_where-map}
use Rattle.request_queue.proofs.LawLemmas.{Distinct, apart, distinct-ids, distinct-tail, ended-none, first-at, with-id}
use Rattle.request_queue.proofs.FindLemmas.{gone_row, if-false, if-true}

-- a mapped row has the id of the row that it came from
mapped-id : {C R : Type 0} (f : RequestRow C R → RequestRow C R) (o : Option (RequestRow C R)) (row : RequestRow C R) (n : ℕ) → ((r : RequestRow C R) → row_id (f r) ≡ row_id r) → option_map f o ≡ Some row → ((r : RequestRow C R) → o ≡ Some r → row_id r ≡ n) → row_id row ≡ n
mapped-id f None row n same e ids = cc
mapped-id f (Some r) row n same e ids = ap row_id (sym (same_Some (f r) row e)) ∙ same r ∙ ids r refl

mapped-ids : {C R : Type 0} (f : RequestRow C R → RequestRow C R) (rows : List (RequestRow C R)) → ((r : RequestRow C R) → row_id (f r) ≡ row_id r) → HasIds rows → HasIds (map f rows)
mapped-ids f rows same ids = record { at = λ i row e. mapped-id f (slice_get rows i) row (suc i) same (sym (slice_get-map f rows i) ∙ e) (λ r at. ids.at i r at) }

id-by : {C R : Type 0} (b : Bool) (x y : RequestRow C R) (n : ℕ) → row_id x ≡ n → row_id y ≡ n → row_id (if b then x else y) ≡ n
id-by true x y n first second = first
id-by false x y n first second = second

none-found : {C : Type 0} (o : Option (Request C)) → option_map request_id o ≡ None → o ≡ None
none-found None e = refl
none-found (Some a) e = cc

module _ {C R : Type 0} where
  begun-id : (id : ℕ) (row : RequestRow C R) → row_id (begun_row id row) ≡ row_id row
  begun-id id (Waiting q) = id-by {C = C} {R = R} (q.id == id) (InWork q) (Waiting q) q.id refl refl
  begun-id id (InWork q) = refl
  begun-id id (Gone gone session reply) = refl

  pub begun-ids : (id : ℕ) (rows : List (RequestRow C R)) → HasIds rows → HasIds (begun_by_id id rows)
  begun-ids id rows ids = mapped-ids (begun_row id) rows (begun-id id) ids

module _ {C R : Type 0} (test : Request C → Bool) (reply : R) where
  ended-id : (row : RequestRow C R) → row_id (ended_row test reply row) ≡ row_id row
  ended-id (Waiting q) = id-by (test q) (gone_row q reply) (Waiting q) q.id refl refl
  ended-id (InWork q) = id-by (test q) (gone_row q reply) (InWork q) q.id refl refl
  ended-id (Gone id session was) = refl

  pub ended-ids : (rows : List (RequestRow C R)) → HasIds rows → HasIds (ended_where test reply rows)
  ended-ids rows ids = subst HasIds (sym (ended_where-map test reply rows)) (mapped-ids (ended_row test reply) rows ended-id ids)

  -- where a row of another request stands, the first that passes is another one
  first-apart : (row : RequestRow C R) (rows : List (RequestRow C R)) (a : Request C) → Distinct (row ∷ rows) → first_of (pending_where test rows) ≡ Some a → a.id ≢ row_id row
  first-apart row rows a d found = let later = first-at test rows a found in elim later.1 [
    | inl waits ↦ apart row rows d later.0 (Waiting a) waits
    | inr works ↦ apart row rows d later.0 (InWork a) works
  ]

  -- a pending row in front, that waits or is in work
  module _ (row : RequestRow C R) (q a : Request C) (rows : List (RequestRow C R)) (id_is : row_id row ≡ q.id) (d : Distinct (row ∷ rows)) where
    -- the row is the first that passes, and ends
    front-ends : q ≡ a → ((if q.id == a.id then gone_row q reply else row) ≡ gone_row q reply) × (ended_where (has_id a.id) reply rows ≡ rows)
    front-ends is =
        let same : q.id ≡ a.id = ap (λ (x : Request C). x.id) is in
        (if-true (q.id == a.id) (gone_row q reply) row (eq-eqb q.id a.id same), ended-none a.id reply rows (λ j s at near. apart row rows d j s at (near ∙ sym same ∙ sym id_is)))

    -- the first that passes is a later one
    front-stays : first_of (pending_where test rows) ≡ Some a → (if q.id == a.id then gone_row q reply else row) ≡ row
    front-stays found = if-false (q.id == a.id) (gone_row q reply) row (ne_eqb q.id a.id (λ same. first-apart row rows a d found (sym same ∙ sym id_is)))

    front-all : (b : Bool) → test q ≡ b
        → ((later : List (RequestRow C R)) → ended_where test reply (row ∷ later) ≡ (if test q then gone_row q reply else row) ∷ ended_where test reply later)
        → (first_of (pending_where test rows) ≡ Some a → ended_where test reply (ended_where (has_id a.id) reply rows) ≡ ended_where test reply rows)
        → first_of (if b then q ∷ pending_where test rows else pending_where test rows) ≡ Some a
        → ended_where test reply ((if q.id == a.id then gone_row q reply else row) ∷ ended_where (has_id a.id) reply rows) ≡ (if test q then gone_row q reply else row) ∷ ended_where test reply rows
    front-all true passes step further found =
        let ends = front-ends (same_Some q a found) in
        ap (λ (first : RequestRow C R). ended_where test reply (first ∷ ended_where (has_id a.id) reply rows)) ends.0
        ∙ ap (λ (later : List (RequestRow C R)). gone_row q reply ∷ ended_where test reply later) ends.1
        ∙ ap (λ (first : RequestRow C R). first ∷ ended_where test reply rows) (sym (if-true (test q) (gone_row q reply) row passes))
    front-all false passes step further found =
        ap (λ (first : RequestRow C R). ended_where test reply (first ∷ ended_where (has_id a.id) reply rows)) (front-stays found)
        ∙ step (ended_where (has_id a.id) reply rows)
        ∙ ap (λ (later : List (RequestRow C R)). (if test q then gone_row q reply else row) ∷ later) (further found)

    front-left : (b : Bool) → test q ≡ b
        → ((later : List (RequestRow C R)) → pending_where test (row ∷ later) ≡ (if test q then q ∷ pending_where test later else pending_where test later))
        → (first_of (pending_where test rows) ≡ Some a → pending_where test (ended_where (has_id a.id) reply rows) ≡ drop 1 (pending_where test rows))
        → first_of (if b then q ∷ pending_where test rows else pending_where test rows) ≡ Some a
        → pending_where test ((if q.id == a.id then gone_row q reply else row) ∷ ended_where (has_id a.id) reply rows) ≡ drop 1 (if test q then q ∷ pending_where test rows else pending_where test rows)
    front-left true passes step further found =
        let ends = front-ends (same_Some q a found) in
        ap (λ (first : RequestRow C R). pending_where test (first ∷ ended_where (has_id a.id) reply rows)) ends.0
        ∙ ap (pending_where test) ends.1
        ∙ ap (drop 1) (sym (if-true (test q) (q ∷ pending_where test rows) (pending_where test rows) passes))
    front-left false passes step further found =
        ap (λ (first : RequestRow C R). pending_where test (first ∷ ended_where (has_id a.id) reply rows)) (front-stays found)
        ∙ step (ended_where (has_id a.id) reply rows)
        ∙ if-false (test q) (q ∷ pending_where test (ended_where (has_id a.id) reply rows)) (pending_where test (ended_where (has_id a.id) reply rows)) passes
        ∙ further found
        ∙ ap (drop 1) (sym (if-false (test q) (q ∷ pending_where test rows) (pending_where test rows) passes))

  -- the first that passes ended, and then all that pass
  ended-first : (rows : List (RequestRow C R)) (a : Request C) → Distinct rows → first_of (pending_where test rows) ≡ Some a → ended_where test reply (ended_where (has_id a.id) reply rows) ≡ ended_where test reply rows
  ended-first [] a d e = refl
  ended-first (Waiting q ∷ rows) a d e = front-all (Waiting q) q a rows refl d (test q) refl (λ later. refl) (λ found. ended-first rows a (distinct-tail (Waiting q) rows d) found) e
  ended-first (InWork q ∷ rows) a d e = front-all (InWork q) q a rows refl d (test q) refl (λ later. refl) (λ found. ended-first rows a (distinct-tail (InWork q) rows d) found) e
  ended-first (Gone id session was ∷ rows) a d e = ap (λ (rest : List (RequestRow C R)). Gone id session was ∷ rest) (ended-first rows a (distinct-tail (Gone id session was) rows d) e)

  -- the others are left
  left-first : (rows : List (RequestRow C R)) (a : Request C) → Distinct rows → first_of (pending_where test rows) ≡ Some a → pending_where test (ended_where (has_id a.id) reply rows) ≡ drop 1 (pending_where test rows)
  left-first [] a d e = refl
  left-first (Waiting q ∷ rows) a d e = front-left (Waiting q) q a rows refl d (test q) refl (λ later. refl) (λ found. left-first rows a (distinct-tail (Waiting q) rows d) found) e
  left-first (InWork q ∷ rows) a d e = front-left (InWork q) q a rows refl d (test q) refl (λ later. refl) (λ found. left-first rows a (distinct-tail (InWork q) rows d) found) e
  left-first (Gone id session was ∷ rows) a d e = left-first rows a (distinct-tail (Gone id session was) rows d) e

  -- none passes
  front-none : (row : RequestRow C R) (q : Request C) (rows : List (RequestRow C R)) (b : Bool) → test q ≡ b → (first_of (pending_where test rows) ≡ None → ended_where test reply rows ≡ rows)
      → first_of (if b then q ∷ pending_where test rows else pending_where test rows) ≡ None → (if test q then gone_row q reply else row) ∷ ended_where test reply rows ≡ row ∷ rows
  front-none row q rows true passes further none = cc
  front-none row q rows false passes further none =
      ap (λ (first : RequestRow C R). first ∷ ended_where test reply rows) (if-false (test q) (gone_row q reply) row passes)
      ∙ ap (λ (rest : List (RequestRow C R)). row ∷ rest) (further none)

  none-ends : (rows : List (RequestRow C R)) → first_of (pending_where test rows) ≡ None → ended_where test reply rows ≡ rows
  none-ends [] e = refl
  none-ends (Waiting q ∷ rows) e = front-none (Waiting q) q rows (test q) refl (λ none. none-ends rows none) e
  none-ends (InWork q ∷ rows) e = front-none (InWork q) q rows (test q) refl (λ none. none-ends rows none) e
  none-ends (Gone id session was ∷ rows) e = ap (λ (rest : List (RequestRow C R)). Gone id session was ∷ rest) (none-ends rows e)

  pub first-ends : (rows : List (RequestRow C R)) (id : ℕ) → HasIds rows → IsFirst test rows id → ended_where test reply (ended_where (has_id id) reply rows) ≡ ended_where test reply rows
  first-ends rows id ids e =
      let a = with-id (first_of (pending_where test rows)) id e in
      subst (λ (i : ℕ). ended_where test reply (ended_where (has_id i) reply rows) ≡ ended_where test reply rows) a.2 (ended-first rows a.0 (distinct-ids rows ids) a.1)

  pub one-less-left : (rows : List (RequestRow C R)) (id : ℕ) → HasIds rows → IsFirst test rows id → pending_where test (ended_where (has_id id) reply rows) ≡ drop 1 (pending_where test rows)
  one-less-left rows id ids e =
      let a = with-id (first_of (pending_where test rows)) id e in
      subst (λ (i : ℕ). pending_where test (ended_where (has_id i) reply rows) ≡ drop 1 (pending_where test rows)) a.2 (left-first rows a.0 (distinct-ids rows ids) a.1)

  pub none-left : (rows : List (RequestRow C R)) → option_map request_id (first_of (pending_where test rows)) ≡ None → ended_where test reply rows ≡ rows
  none-left rows e = none-ends rows (none-found (first_of (pending_where test rows)) e)
