-- What a session finds of an id.
use Rattle.std.proofs.Common.{arith, ap, lt-ltb, inl, inr, refl, suc, sym, ◌∙◌}
use Rattle.std.proofs.lemmas.Bool.{cases_eq, eq-eqb, le-ltb, ne_eqb}
use Rattle.std.specs.List.{slice_get}
use Rattle.std.specs.Prelude.{Bool, List, None, Option, Some, [], false, if◌then◌else◌, nat_lt, true, ℕ, ◌&&◌, ◌<◌, ◌==◌, ◌∷◌, ◌≡◌, ◌≢◌, ◌≤◌}
use Rattle.slab.specs.Slab.{Slab, get}
use Rattle.pad_words.specs.declared.numbers.Session.{Session}
use Rattle.request_queue.specs.Nodes.{Tied, request_in, got, key_in, rows_of, found_at, found_pending}
use Rattle.pad_words.specs.Numbers.{same_session}
use Rattle.request_queue.specs.Requests.{Found, HasIds, Nowhere, Replied, StillPending, look, row_id}
use Rattle.request_queue.specs.declared.nodes.Node.{Node}
use Rattle.request_queue.specs.declared.nodes.Place.{Place}
use Rattle.request_queue.specs.declared.nodes.Place.TheVariants.{Ended, Linked}
use Rattle.request_queue.specs.declared.requests.Request.{Request}
use Rattle.request_queue.specs.declared.requests.RequestRow.{RequestRow}
use Rattle.request_queue.specs.declared.requests.RequestRow.TheVariants.{Gone, InWork, Waiting}
use Rattle.request_queue.proofs.FindLemmas.{first-hit, first-none, first_row, if-false, if-true}
use Rattle.request_queue.proofs.RowLemmas.{row_by, slice_get-rows}

abbrev row_seen : {C R : Type 0} → Option (RequestRow C R) → Found R
row_seen None = Nowhere
row_seen (Some (Waiting q)) = StillPending
row_seen (Some (InWork q)) = StillPending
row_seen (Some (Gone id session reply)) = Replied reply

abbrev row_owner : {C R : Type 0} → RequestRow C R → Session
row_owner (Waiting q) = q.session
row_owner (InWork q) = q.session
row_owner (Gone id session reply) = session

abbrev looks : {C R : Type 0} → Session → ℕ → ℕ → RequestRow C R → Bool
looks session floor id row = same_session (row_owner row) session && nat_lt floor (row_id row) && (row_id row == id)

-- what is found at the row of the id
abbrev pub look_row : {C R : Type 0} → Session → Option (RequestRow C R) → Found R
look_row session None = Nowhere
look_row session (Some (Waiting q)) = if same_session q.session session then StillPending else Nowhere
look_row session (Some (InWork q)) = if same_session q.session session then StillPending else Nowhere
look_row session (Some (Gone id owner reply)) = if same_session owner session then Replied reply else Nowhere

and-last : (a b c : Bool) → c ≡ false → (a && b && c) ≡ false
and-last true true c e = e
and-last true false c e = refl
and-last false b c e = refl

and-middle : (a b c : Bool) → b ≡ false → (a && b && c) ≡ false
and-middle true true c e = cc
and-middle true false c e = refl
and-middle false b c e = refl

and-first : (a b c : Bool) → b ≡ true → c ≡ true → (a && b && c) ≡ a
and-first true true true e f = refl
and-first true true false e f = cc
and-first true false c e f = cc
and-first false b c e f = refl

module _ {C R : Type 0} where
  choose-seen : (b : Bool) (row : RequestRow C R) (e : Found R) (f : Option (RequestRow C R)) → e ≡ row_seen f → (if b then row_seen (Some row) else e) ≡ row_seen (if b then Some row else f)
  choose-seen true row e f same = refl
  choose-seen false row e f same = same

  look-first : (session : Session) (floor id : ℕ) (rows : List (RequestRow C R)) → look session floor id rows ≡ row_seen (first_row (looks session floor id) rows)
  look-first session floor id [] = refl
  look-first session floor id (Waiting q ∷ rows) = choose-seen (looks {C = C} {R = R} session floor id (Waiting q)) (Waiting q) (look session floor id rows) (first_row (looks session floor id) rows) (look-first session floor id rows)
  look-first session floor id (InWork q ∷ rows) = choose-seen (looks {C = C} {R = R} session floor id (InWork q)) (InWork q) (look session floor id rows) (first_row (looks session floor id) rows) (look-first session floor id rows)
  look-first session floor id (Gone gone owner reply ∷ rows) = choose-seen (looks {C = C} {R = R} session floor id (Gone gone owner reply)) (Gone gone owner reply) (look session floor id rows) (first_row (looks session floor id) rows) (look-first session floor id rows)

  pub look-under : (session : Session) (floor id : ℕ) (rows : List (RequestRow C R)) → id ≤ floor → look session floor id rows ≡ Nowhere
  look-under session floor id rows under =
      look-first session floor id rows
      ∙ ap row_seen (first-none (looks session floor id) rows (λ k row e. elim (cases_eq (row_id row) id) [
        | inl same ↦ and-middle (same_session (row_owner row) session) (nat_lt floor (row_id row)) (row_id row == id) (le-ltb floor (row_id row) (omega (arith, same, under)))
        | inr differs ↦ and-last (same_session (row_owner row) session) (nat_lt floor (row_id row)) (row_id row == id) (ne_eqb (row_id row) id differs)
      ]))

  seen-owner : (session : Session) (row : RequestRow C R) → (if same_session (row_owner row) session then row_seen (Some row) else Nowhere) ≡ look_row session (Some row)
  seen-owner session (Waiting q) = refl
  seen-owner session (InWork q) = refl
  seen-owner session (Gone id owner reply) = refl

  pub look-row : (session : Session) (floor i : ℕ) (rows : List (RequestRow C R)) → HasIds rows → floor < suc i → look session floor (suc i) rows ≡ look_row session (slice_get rows i)
  look-row session floor i rows ids above = look-first session floor (suc i) rows ∙ by_row (slice_get rows i) refl
    where
      far : (k : ℕ) (row : RequestRow C R) → k ≢ i → slice_get rows k ≡ Some row → looks session floor (suc i) row ≡ false
      far k row differs e = and-last (same_session (row_owner row) session) (nat_lt floor (row_id row)) (row_id row == suc i) (ne_eqb (row_id row) (suc i) (λ same. differs (omega (arith, same, ids.at k row e))))

      by_row : (o : Option (RequestRow C R)) → slice_get rows i ≡ o → row_seen (first_row (looks session floor (suc i)) rows) ≡ look_row session o
      by_row None is = ap row_seen (first-none (looks session floor (suc i)) rows (λ k row e. elim (cases_eq k i) [
        | inl same ↦ let no : None ≡ Some row = sym is ∙ ap (slice_get rows) (sym same) ∙ e in cc
        | inr differs ↦ far k row differs e
      ]))
      by_row (Some row) is = by_owner (same_session (row_owner row) session) refl
        where
          id_is : row_id row ≡ suc i
          id_is = ids.at i row is

          here : looks session floor (suc i) row ≡ same_session (row_owner row) session
          here = and-first (same_session (row_owner row) session) (nat_lt floor (row_id row)) (row_id row == suc i) (lt-ltb floor (row_id row) (omega (arith, id_is, above))) (eq-eqb (row_id row) (suc i) id_is)

          by_owner : (b : Bool) → same_session (row_owner row) session ≡ b → row_seen (first_row (looks session floor (suc i)) rows) ≡ look_row session (Some row)
          by_owner true own =
              ap row_seen (first-hit (looks session floor (suc i)) rows i row is (here ∙ own) (λ k other lt e. far k other (omega (arith, lt)) e))
              ∙ sym (if-true (same_session (row_owner row) session) (row_seen (Some row)) Nowhere own) ∙ seen-owner session row
          by_owner false own =
              ap row_seen (first-none (looks session floor (suc i)) rows (λ k other e. elim (cases_eq k i) [
                | inl same ↦
                    let one : Some other ≡ Some row = sym e ∙ ap (slice_get rows) same ∙ is in
                    let two : other ≡ row = cc in
                    ap (looks session floor (suc i)) two ∙ here ∙ own
                | inr differs ↦ far k other differs e
              ]))
              ∙ sym (if-false (same_session (row_owner row) session) (row_seen (Some row)) Nowhere own) ∙ seen-owner session row

pending-seen : {C : Type 0} (R : Type 0) (b : Bool) (session : Session) (a : Request C) → look_row {C = C} {R = R} session (Some (if b then InWork a else Waiting a)) ≡ found_pending R session (Some a)
pending-seen R true session a = refl
pending-seen R false session a = refl

module _ {C R : Type 0} (running : ℕ) (nodes : Slab (Node C)) (places : List (Place R)) (tied : Tied nodes places) where
  seen-by : (session : Session) (key : ℕ) (o : Option (Request C)) → look_row session (row_by {C = C} {R = R} running (Some (Linked key)) o) ≡ found_pending R session o
  seen-by session key None = refl
  seen-by session key (Some a) = pending-seen R (a.id == running) session a

  at-place : (session : Session) (place : Place R) → look_row session (row_by running (Some place) (request_in (got nodes (key_in (Some place))))) ≡ found_at nodes session place
  at-place session (Ended id owner reply) = refl
  at-place session (Linked key) = seen-by session key (request_in (get nodes key))

  pub look-place : (session : Session) (i : ℕ) (o : Option (Place R)) → slice_get places i ≡ o → look_row session (slice_get (rows_of {C = C} {R = R} running nodes places) i) ≡ look_row session (row_by running o (request_in (got nodes (key_in o))))
  look-place session i o is =
      ap (look_row session) (slice_get-rows running nodes places i tied)
      ∙ ap (λ (p : Option (Place R)). look_row session (row_by running p (request_in (got nodes (key_in p))))) is

  pub look-some : (session : Session) (floor i : ℕ) (place : Place R) → HasIds (rows_of {C = C} {R = R} running nodes places) → floor < suc i → slice_get places i ≡ Some place → found_at nodes session place ≡ look session floor (suc i) (rows_of {C = C} {R = R} running nodes places)
  look-some session floor i place ids above is = sym (look-row session floor i (rows_of running nodes places) ids above ∙ look-place session i (Some place) is ∙ at-place session place)

  pub look-none : (session : Session) (floor i : ℕ) → HasIds (rows_of {C = C} {R = R} running nodes places) → floor < suc i → slice_get places i ≡ None → Nowhere ≡ look session floor (suc i) (rows_of {C = C} {R = R} running nodes places)
  look-none session floor i ids above is = sym (look-row session floor i (rows_of running nodes places) ids above ∙ look-place session i None is)
