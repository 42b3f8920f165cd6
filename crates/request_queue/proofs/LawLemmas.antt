-- Calls by id are the steps of the definition.
use Rattle.std.proofs.Common.{arith, ap, inl, inr, refl, subst, suc, sym, zero, ◌⊎◌, ◌∙◌}
use Rattle.std.proofs.lemmas.Bool.{eq-eqb, ne_eqb}
use Rattle.std.proofs.lemmas.Option.{same_Some}
use Rattle.std.specs.List.{slice_get}
use Rattle.std.specs.Option.{option_map}
use Rattle.std.specs.Prelude.{Bool, IfSome, IsSome, None, List, Option, Some, [], false, if◌then◌else◌, map, true, ℕ, ◌==◌, ◌∷◌, ◌≡◌, ◌≢◌}
use Rattle.pad_words.specs.declared.numbers.Session.{Session}
use Rattle.request_queue.specs.Laws.{IsEligible, IsInWork}
use Rattle.request_queue.specs.Requests.{HasIds, begun, begun_by_id, begun_row, eligible, ended_where, finished, first_of, has_id, may_begin, pending_by_id, pending_where, refused_at_begin, request_id, row_id, request_in_work}
use Rattle.request_queue.proofs.FindLemmas.{first-hit, gone_row, if-false, if-true, pending_by_id-first, pends, row_request, waiting, working_row}
use Rattle.request_queue.specs.declared.requests.Request.{Request}
use Rattle.request_queue.specs.declared.requests.RequestRow.{RequestRow}
use Rattle.request_queue.specs.declared.requests.RequestRow.TheVariants.{Gone, InWork, Waiting}

-- the request whose id was found
pub with-id : {C : Type 0} (o : Option (Request C)) (id : ℕ) → option_map request_id o ≡ Some id → (a : Request C) × (o ≡ Some a) × (a.id ≡ id)
with-id None id e = cc
with-id (Some a) id e = (a, refl, same_Some a.id id e)

-- no two rows have one id
pub record Distinct {C R : Type 0} (rows : List (RequestRow C R)) : Type 0 where
  pub at : (i j : ℕ) (r s : RequestRow C R) → slice_get rows i ≡ Some r → slice_get rows j ≡ Some s → row_id r ≡ row_id s → i ≡ j

module _ {C R : Type 0} where
  pub distinct-ids : (rows : List (RequestRow C R)) → HasIds rows → Distinct rows
  distinct-ids rows ids = record { at = λ i j r s at_i at_j same. omega (arith, ids.at i r at_i, ids.at j s at_j, same) }

  pub distinct-tail : (row : RequestRow C R) (rows : List (RequestRow C R)) → Distinct (row ∷ rows) → Distinct rows
  distinct-tail row rows d = record { at = λ i j r s at_i at_j same. omega (arith, d.at (suc i) (suc j) r s at_i at_j same) }

  pub apart : (row : RequestRow C R) (rows : List (RequestRow C R)) → Distinct (row ∷ rows) → (j : ℕ) (s : RequestRow C R) → slice_get rows j ≡ Some s → row_id s ≢ row_id row
  apart row rows d j s at same = omega (arith, d.at zero (suc j) row s refl at (sym same))

  -- rows of other ids stay
  begun-none : (id : ℕ) (rows : List (RequestRow C R)) → ((j : ℕ) (s : RequestRow C R) → slice_get rows j ≡ Some s → row_id s ≢ id) → map (begun_row id) rows ≡ rows
  begun-none id [] far = refl
  begun-none id (Waiting q ∷ rows) far =
      let rest : map (begun_row id) rows ≡ rows = begun-none id rows (λ j s e. far (suc j) s e) in
      let here : begun_row {C = C} {R = R} id (Waiting q) ≡ Waiting q = if-false (q.id == id) (InWork q) (Waiting q) (ne_eqb q.id id (far zero (Waiting q) refl)) in
      cc
  begun-none id (InWork q ∷ rows) far = let rest : map (begun_row id) rows ≡ rows = begun-none id rows (λ j s e. far (suc j) s e) in cc
  begun-none id (Gone gone session reply ∷ rows) far = let rest : map (begun_row id) rows ≡ rows = begun-none id rows (λ j s e. far (suc j) s e) in cc

  eligible-at : (holder : Option Session) (rows : List (RequestRow C R)) (a : Request C) → eligible holder rows ≡ Some a → (j : ℕ) × (slice_get rows j ≡ Some (Waiting a))
  eligible-at holder [] a e = cc
  eligible-at holder (Waiting q ∷ rows) a e = by (may_begin holder q) (λ found. eligible-at holder rows a found) e
    where
      by : (b : Bool) → (eligible holder rows ≡ Some a → (j : ℕ) × (slice_get rows j ≡ Some (Waiting a))) → (if b then Some q else eligible holder rows) ≡ Some a → (j : ℕ) × (slice_get (waiting q ∷ rows) j ≡ Some (Waiting a))
      by true further found = let is : q ≡ a = same_Some q a found in (zero, cc)
      by false further found = let later = further found in (suc later.0, later.1)
  eligible-at holder (InWork q ∷ rows) a e = let later = eligible-at holder rows a e in (suc later.0, later.1)
  eligible-at holder (Gone id session reply ∷ rows) a e = let later = eligible-at holder rows a e in (suc later.0, later.1)

  begun-distinct : (holder : Option Session) (rows : List (RequestRow C R)) (a : Request C) → Distinct rows → eligible holder rows ≡ Some a → map (begun_row a.id) rows ≡ begun holder rows
  begun-distinct holder [] a d e = refl
  begun-distinct holder (Waiting q ∷ rows) a d e = by (may_begin holder q) (λ found. begun-distinct holder rows a (distinct-tail (Waiting q) rows d) found) e
    where
      by : (b : Bool) → (eligible holder rows ≡ Some a → map (begun_row a.id) rows ≡ begun holder rows) → (if b then Some q else eligible holder rows) ≡ Some a → map (begun_row a.id) (waiting q ∷ rows) ≡ (if b then working_row q ∷ rows else waiting q ∷ begun holder rows)
      by true further found =
          let is : q ≡ a = same_Some q a found in
          let same : q.id ≡ a.id = ap (λ (x : Request C). x.id) is in
          let rest : map (begun_row a.id) rows ≡ rows = begun-none a.id rows (λ j s at near. apart (Waiting q) rows d j s at (near ∙ sym same)) in
          let here : begun_row {C = C} {R = R} a.id (Waiting q) ≡ InWork q = if-true (q.id == a.id) (InWork q) (Waiting q) (eq-eqb q.id a.id same) in
          cc
      by false further found =
          let later = eligible-at holder rows a found in
          let differs : a.id ≢ q.id = apart (Waiting q) rows d later.0 (Waiting a) later.1 in
          let rest : map (begun_row a.id) rows ≡ begun holder rows = further found in
          let here : begun_row {C = C} {R = R} a.id (Waiting q) ≡ Waiting q = if-false (q.id == a.id) (InWork q) (Waiting q) (ne_eqb q.id a.id (λ same. differs (sym same))) in
          cc
  begun-distinct holder (InWork q ∷ rows) a d e = let rest : map (begun_row a.id) rows ≡ begun holder rows = begun-distinct holder rows a (distinct-tail (InWork q) rows d) e in cc
  begun-distinct holder (Gone id session reply ∷ rows) a d e = let rest : map (begun_row a.id) rows ≡ begun holder rows = begun-distinct holder rows a (distinct-tail (Gone id session reply) rows d) e in cc

  pub ended-none : (id : ℕ) (reply : R) (rows : List (RequestRow C R)) → ((j : ℕ) (s : RequestRow C R) → slice_get rows j ≡ Some s → row_id s ≢ id) → ended_where (λ q. q.id == id) reply rows ≡ rows
  ended-none id reply [] far = refl
  ended-none id reply (Waiting q ∷ rows) far =
      let rest : ended_where (λ p. p.id == id) reply rows ≡ rows = ended-none id reply rows (λ j s e. far (suc j) s e) in
      let here : (if q.id == id then Gone q.id q.session reply else waiting q) ≡ waiting q = if-false (q.id == id) (Gone q.id q.session reply) (waiting q) (ne_eqb q.id id (far zero (Waiting q) refl)) in
      cc
  ended-none id reply (InWork q ∷ rows) far =
      let rest : ended_where (λ p. p.id == id) reply rows ≡ rows = ended-none id reply rows (λ j s e. far (suc j) s e) in
      let here : (if q.id == id then Gone q.id q.session reply else working_row q) ≡ working_row q = if-false (q.id == id) (Gone q.id q.session reply) (working_row q) (ne_eqb q.id id (far zero (InWork q) refl)) in
      cc
  ended-none id reply (Gone gone session was ∷ rows) far = let rest : ended_where (λ p. p.id == id) reply rows ≡ rows = ended-none id reply rows (λ j s e. far (suc j) s e) in cc

  request_in_work-at : (rows : List (RequestRow C R)) (a : Request C) → request_in_work rows ≡ Some a → (j : ℕ) × (slice_get rows j ≡ Some (InWork a))
  request_in_work-at [] a e = cc
  request_in_work-at (Waiting q ∷ rows) a e = let later = request_in_work-at rows a e in (suc later.0, later.1)
  request_in_work-at (InWork q ∷ rows) a e = let is : q ≡ a = same_Some q a e in (zero, cc)
  request_in_work-at (Gone id session reply ∷ rows) a e = let later = request_in_work-at rows a e in (suc later.0, later.1)

  finished-distinct : (reply : R) (rows : List (RequestRow C R)) (a : Request C) → Distinct rows → request_in_work rows ≡ Some a → ended_where (λ q. q.id == a.id) reply rows ≡ finished reply rows
  finished-distinct reply [] a d e = refl
  finished-distinct reply (Waiting q ∷ rows) a d e =
      let later = request_in_work-at rows a e in
      let differs : a.id ≢ q.id = apart (Waiting q) rows d later.0 (InWork a) later.1 in
      let rest : ended_where (λ p. p.id == a.id) reply rows ≡ finished reply rows = finished-distinct reply rows a (distinct-tail (Waiting q) rows d) e in
      let here : (if q.id == a.id then Gone q.id q.session reply else waiting q) ≡ waiting q = if-false (q.id == a.id) (Gone q.id q.session reply) (waiting q) (ne_eqb q.id a.id (λ same. differs (sym same))) in
      cc
  finished-distinct reply (InWork q ∷ rows) a d e =
      let is : q ≡ a = same_Some q a e in
      let same : q.id ≡ a.id = ap (λ (x : Request C). x.id) is in
      let rest : ended_where (λ p. p.id == a.id) reply rows ≡ rows = ended-none a.id reply rows (λ j s at near. apart (InWork q) rows d j s at (near ∙ sym same)) in
      let here : (if q.id == a.id then Gone q.id q.session reply else working_row q) ≡ Gone q.id q.session reply = if-true (q.id == a.id) (Gone q.id q.session reply) (working_row q) (eq-eqb q.id a.id same) in
      cc
  finished-distinct reply (Gone id session was ∷ rows) a d e = let rest : ended_where (λ p. p.id == a.id) reply rows ≡ finished reply rows = finished-distinct reply rows a (distinct-tail (Gone id session was) rows d) e in cc

  -- the rows that end as they are taken
  refused-distinct : (reply : R) (holder : Option Session) (rows : List (RequestRow C R)) (a : Request C) → Distinct rows → eligible holder rows ≡ Some a → ended_where (has_id a.id) reply rows ≡ refused_at_begin reply holder rows
  refused-distinct reply holder [] a d e = refl
  refused-distinct reply holder (Waiting q ∷ rows) a d e = by (may_begin holder q) (λ found. refused-distinct reply holder rows a (distinct-tail (Waiting q) rows d) found) e
    where
      by : (b : Bool) → (eligible holder rows ≡ Some a → ended_where (has_id a.id) reply rows ≡ refused_at_begin reply holder rows) → (if b then Some q else eligible holder rows) ≡ Some a → ended_where (has_id a.id) reply (waiting q ∷ rows) ≡ (if b then gone_row q reply ∷ rows else waiting q ∷ refused_at_begin reply holder rows)
      by true further found =
          let is : q ≡ a = same_Some q a found in
          let same : q.id ≡ a.id = ap (λ (x : Request C). x.id) is in
          let rest : ended_where (has_id a.id) reply rows ≡ rows = ended-none a.id reply rows (λ j s at near. apart (Waiting q) rows d j s at (near ∙ sym same)) in
          let here : (if q.id == a.id then gone_row q reply else waiting q) ≡ gone_row q reply = if-true (q.id == a.id) (gone_row q reply) (waiting q) (eq-eqb q.id a.id same) in
          cc
      by false further found =
          let later = eligible-at holder rows a found in
          let differs : a.id ≢ q.id = apart (Waiting q) rows d later.0 (Waiting a) later.1 in
          let rest : ended_where (has_id a.id) reply rows ≡ refused_at_begin reply holder rows = further found in
          let here : (if q.id == a.id then gone_row q reply else waiting q) ≡ waiting q = if-false (q.id == a.id) (gone_row q reply) (waiting q) (ne_eqb q.id a.id (λ same. differs (sym same))) in
          cc
  refused-distinct reply holder (InWork q ∷ rows) a d e =
      let later = eligible-at holder rows a e in
      let differs : a.id ≢ q.id = apart (InWork q) rows d later.0 (Waiting a) later.1 in
      let rest : ended_where (has_id a.id) reply rows ≡ refused_at_begin reply holder rows = refused-distinct reply holder rows a (distinct-tail (InWork q) rows d) e in
      let here : (if q.id == a.id then gone_row q reply else working_row q) ≡ working_row q = if-false (q.id == a.id) (gone_row q reply) (working_row q) (ne_eqb q.id a.id (λ same. differs (sym same))) in
      cc
  refused-distinct reply holder (Gone id session was ∷ rows) a d e = let rest : ended_where (has_id a.id) reply rows ≡ refused_at_begin reply holder rows = refused-distinct reply holder rows a (distinct-tail (Gone id session was) rows d) e in cc

  -- a pending request is found by its id
  other-pends : (id : ℕ) (row : RequestRow C R) → row_id row ≢ id → pends (λ q. q.id == id) row ≡ false
  other-pends id (Waiting q) differs = ne_eqb q.id id differs
  other-pends id (InWork q) differs = ne_eqb q.id id differs
  other-pends id (Gone gone session reply) differs = refl

  pending-at : (rows : List (RequestRow C R)) (a : Request C) (j : ℕ) (row : RequestRow C R) → HasIds rows → slice_get rows j ≡ Some row → row_id row ≡ a.id → row_request (Some row) ≡ Some a → pends (λ q. q.id == a.id) row ≡ true → pending_by_id a.id rows ≡ Some a
  pending-at rows a j row ids at id is hit =
      pending_by_id-first a.id rows
      ∙ ap row_request (first-hit (pends (λ q. q.id == a.id)) rows j row at hit (λ k other lt e. other-pends a.id other (λ same.
      let mine : row_id row ≡ suc j = ids.at j row at in
      let its : row_id other ≡ suc k = ids.at k other e in
      omega (arith, mine, its, same, id, lt))))
      ∙ is

  pending-waiting : (rows : List (RequestRow C R)) (a : Request C) (j : ℕ) → HasIds rows → slice_get rows j ≡ Some (Waiting a) → pending_by_id a.id rows ≡ Some a
  pending-waiting rows a j ids at = pending-at rows a j (Waiting a) ids at refl refl (eq-eqb a.id a.id refl)

  pending-request_in_work : (rows : List (RequestRow C R)) (a : Request C) (j : ℕ) → HasIds rows → slice_get rows j ≡ Some (InWork a) → pending_by_id a.id rows ≡ Some a
  pending-request_in_work rows a j ids at = pending-at rows a j (InWork a) ids at refl refl (eq-eqb a.id a.id refl)

  pub eligible-pending : (holder : Option Session) (rows : List (RequestRow C R)) (a : Request C) → HasIds rows → eligible holder rows ≡ Some a → pending_by_id a.id rows ≡ Some a
  eligible-pending holder rows a ids e = let there = eligible-at holder rows a e in pending-waiting rows a there.0 ids there.1

  pub request_in_work-pending : (rows : List (RequestRow C R)) (a : Request C) → HasIds rows → request_in_work rows ≡ Some a → pending_by_id a.id rows ≡ Some a
  request_in_work-pending rows a ids e = let there = request_in_work-at rows a e in pending-request_in_work rows a there.0 ids there.1

  -- where the first that passes a test stands
  pub first-at : (test : Request C → Bool) (rows : List (RequestRow C R)) (a : Request C) → first_of (pending_where test rows) ≡ Some a → (j : ℕ) × ((slice_get rows j ≡ Some (Waiting a)) ⊎ (slice_get rows j ≡ Some (InWork a)))
  first-at test [] a e = cc
  first-at test (Waiting q ∷ rows) a e = by (test q) (λ found. first-at test rows a found) e
    where
      by : (b : Bool) → (first_of (pending_where test rows) ≡ Some a → (j : ℕ) × ((slice_get rows j ≡ Some (Waiting a)) ⊎ (slice_get rows j ≡ Some (InWork a)))) → first_of (if b then q ∷ pending_where test rows else pending_where test rows) ≡ Some a → (j : ℕ) × ((slice_get (waiting q ∷ rows) j ≡ Some (Waiting a)) ⊎ (slice_get (waiting q ∷ rows) j ≡ Some (InWork a)))
      by true further found = let is : q ≡ a = same_Some q a found in (zero, inl (ap (λ (x : Request C). Some (waiting x)) is))
      by false further found = let later = further found in (suc later.0, later.1)
  first-at test (InWork q ∷ rows) a e = by (test q) (λ found. first-at test rows a found) e
    where
      by : (b : Bool) → (first_of (pending_where test rows) ≡ Some a → (j : ℕ) × ((slice_get rows j ≡ Some (Waiting a)) ⊎ (slice_get rows j ≡ Some (InWork a)))) → first_of (if b then q ∷ pending_where test rows else pending_where test rows) ≡ Some a → (j : ℕ) × ((slice_get (working_row q ∷ rows) j ≡ Some (Waiting a)) ⊎ (slice_get (working_row q ∷ rows) j ≡ Some (InWork a)))
      by true further found = let is : q ≡ a = same_Some q a found in (zero, inr (ap (λ (x : Request C). Some (working_row x)) is))
      by false further found = let later = further found in (suc later.0, later.1)
  first-at test (Gone id session reply ∷ rows) a e = let later = first-at test rows a e in (suc later.0, later.1)

  pub first-pending : (test : Request C → Bool) (rows : List (RequestRow C R)) (a : Request C) → HasIds rows → first_of (pending_where test rows) ≡ Some a → pending_by_id a.id rows ≡ Some a
  first-pending test rows a ids e =
      let there = first-at test rows a e in
      elim there.1 [
        | inl waits ↦ pending-waiting rows a there.0 ids waits
        | inr works ↦ pending-request_in_work rows a there.0 ids works
      ]

  found-by : (rows : List (RequestRow C R)) (o : Option (Request C)) → ((a : Request C) → o ≡ Some a → pending_by_id a.id rows ≡ Some a) → IfSome (option_map request_id o) (λ id. IsSome (pending_by_id id rows))
  found-by rows None pends = tt
  found-by rows (Some a) pends = let e : pending_by_id a.id rows ≡ Some a = pends a refl in cc

  -- an id that was found is that of a pending request
  pub found-pending : (rows : List (RequestRow C R)) (o : Option (Request C)) (id : Option ℕ) → id ≡ option_map request_id o → ((a : Request C) → o ≡ Some a → pending_by_id a.id rows ≡ Some a) → IfSome id (λ id. IsSome (pending_by_id id rows))
  found-pending rows o id is pends = subst (λ (found : Option ℕ). IfSome found (λ id. IsSome (pending_by_id id rows))) (sym is) (found-by rows o pends)

  found-is : (rows : List (RequestRow C R)) (o : Option (Request C)) → ((a : Request C) → o ≡ Some a → pending_by_id a.id rows ≡ Some a) → IfSome (option_map request_id o) (λ id. pending_by_id id rows ≡ o)
  found-is rows None pends = tt
  found-is rows (Some a) pends = pends a refl

  -- and the pending request with this id is the one that was found
  pub found-same : (rows : List (RequestRow C R)) (o : Option (Request C)) (id : Option ℕ) → id ≡ option_map request_id o → ((a : Request C) → o ≡ Some a → pending_by_id a.id rows ≡ Some a) → IfSome id (λ id. pending_by_id id rows ≡ o)
  found-same rows o id is pends = subst (λ (found : Option ℕ). IfSome found (λ id. pending_by_id id rows ≡ o)) (sym is) (found-is rows o pends)

  pub eligible-begun : (holder : Option Session) (rows : List (RequestRow C R)) (id : ℕ) → HasIds rows → IsEligible holder rows id → begun_by_id id rows ≡ begun holder rows
  eligible-begun holder rows id ids e =
      let a = with-id (eligible holder rows) id e in
      subst (λ (i : ℕ). begun_by_id i rows ≡ begun holder rows) a.2 (begun-distinct holder rows a.0 (distinct-ids rows ids) a.1)

  pub eligible-refused : (reply : R) (holder : Option Session) (rows : List (RequestRow C R)) (id : ℕ) → HasIds rows → IsEligible holder rows id → ended_where (has_id id) reply rows ≡ refused_at_begin reply holder rows
  eligible-refused reply holder rows id ids e =
      let a = with-id (eligible holder rows) id e in
      subst (λ (i : ℕ). ended_where (has_id i) reply rows ≡ refused_at_begin reply holder rows) a.2 (refused-distinct reply holder rows a.0 (distinct-ids rows ids) a.1)

  pub request_in_work-finished : (reply : R) (rows : List (RequestRow C R)) (id : ℕ) → HasIds rows → IsInWork rows id → ended_where (has_id id) reply rows ≡ finished reply rows
  request_in_work-finished reply rows id ids e =
      let a = with-id (request_in_work rows) id e in
      subst (λ (i : ℕ). ended_where (has_id i) reply rows ≡ finished reply rows) a.2 (finished-distinct reply rows a.0 (distinct-ids rows ids) a.1)
