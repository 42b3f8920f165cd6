-- The request that a session names by its id: at most one is.
use Rattle.pad_machine.specs.Endings.{is_meant, meant_in}
use Rattle.pad_machine.specs.declared.endings.Ending.TheVariants.{Named, Of}
use Rattle.pad_steps.specs.declared.answers.Refusal.TheVariants as refusals
use Rattle.pad_steps.specs.declared.answers.Reply.TheVariants as replied
use Rattle.pad_steps.specs.declared.answers.Reply.{Reply}
use Rattle.pad_steps.specs.declared.commands.Command.{Command}
use Rattle.pad_words.specs.Numbers.{same_session}
use Rattle.pad_words.specs.declared.numbers.Session.{Session}
use Rattle.request_queue.specs.Laws.{OneLessIsLeft}
use Rattle.request_queue.specs.Requests.{HasIds, ended_where, first_of, first_where, has_id, pending_by_id, pending_where, request_id, request_session}
use Rattle.request_queue.specs.declared.requests.Request.{Request}
use Rattle.request_queue.specs.declared.requests.RequestRow.TheVariants.{Gone, InWork, Waiting}
use Rattle.request_queue.specs.declared.requests.RequestRow.{RequestRow}
use Rattle.std.proofs.Common.{ap, arith, refl, sym, ◌∙◌}
use Rattle.std.proofs.lemmas.Bool.{eq-eqb, eqb-true, ne_eqb}
use Rattle.std.proofs.lemmas.Option.{same_Some}
use Rattle.std.specs.Option.{option_map}
use Rattle.std.specs.Prelude.{Bool, List, None, Option, Some, [], drop, false, filter, if◌then◌else◌, length, nat_lt, option_to_list, true, ℕ, ◌&&◌, ◌==◌, ◌||◌, ◌∷◌, ◌≡◌, ◌≢◌, ◌≤◌}

abbrev canceled : Reply
canceled = replied.No refusals.Canceled

-- a pending request with the id stands in a list of its own
module _ (id : ℕ) where
  first_with_id : (rows : List (RequestRow Command Reply)) → first_of (pending_where (has_id id) rows) ≡ pending_by_id id rows
  first_with_id [] = refl
  first_with_id (Waiting q ∷ rows) = by (q.id == id) q (pending_where (has_id id) rows) (pending_by_id id rows) (first_with_id rows)
    where
      by : (b : Bool) (q : Request Command) (later : List (Request Command)) (found : Option (Request Command)) → first_of later ≡ found → first_of (if b then q ∷ later else later) ≡ (if b then Some q else found)
      by true q later found is = refl
      by false q later found is = is
  first_with_id (InWork q ∷ rows) = by (q.id == id) q (pending_where (has_id id) rows) (pending_by_id id rows) (first_with_id rows)
    where
      by : (b : Bool) (q : Request Command) (later : List (Request Command)) (found : Option (Request Command)) → first_of later ≡ found → first_of (if b then q ∷ later else later) ≡ (if b then Some q else found)
      by true q later found is = refl
      by false q later found is = is
  first_with_id (Gone gone session reply ∷ rows) = first_with_id rows

  -- it has that id
  pub has_its_id : (rows : List (RequestRow Command Reply)) (request : Request Command) → pending_by_id id rows ≡ Some request → request.id ≡ id
  has_its_id [] request is = cc
  has_its_id (Waiting q ∷ rows) request is = by (q.id == id) refl (λ later. has_its_id rows request later) is
    where
      by : (b : Bool) → (q.id == id) ≡ b → (pending_by_id id rows ≡ Some request → request.id ≡ id) → (if b then Some q else pending_by_id id rows) ≡ Some request → request.id ≡ id
      by true same later is = ap (λ (r : Request Command). r.id) (sym (same_Some q request is)) ∙ eqb-true q.id id same
      by false same later is = later is
  has_its_id (InWork q ∷ rows) request is = by (q.id == id) refl (λ later. has_its_id rows request later) is
    where
      by : (b : Bool) → (q.id == id) ≡ b → (pending_by_id id rows ≡ Some request → request.id ≡ id) → (if b then Some q else pending_by_id id rows) ≡ Some request → request.id ≡ id
      by true same later is = ap (λ (r : Request Command). r.id) (sym (same_Some q request is)) ∙ eqb-true q.id id same
      by false same later is = later is
  has_its_id (Gone gone session reply ∷ rows) request is = has_its_id rows request is

  -- once all with the id ended, none is left
  left_waiting : (reply : Reply) (b : Bool) (q : Request Command) (later : List (RequestRow Command Reply)) → (q.id == id) ≡ b → pending_where (has_id id) later ≡ [] → pending_where (has_id id) ((if b then Gone q.id q.session reply else Waiting q) ∷ later) ≡ []
  left_waiting reply true q later same none = none
  left_waiting reply false q later same none = ap (λ (b : Bool). if b then q ∷ pending_where (has_id id) later else pending_where (has_id id) later) same ∙ none

  left_working : (reply : Reply) (b : Bool) (q : Request Command) (later : List (RequestRow Command Reply)) → (q.id == id) ≡ b → pending_where (has_id id) later ≡ [] → pending_where (has_id id) ((if b then Gone q.id q.session reply else InWork q) ∷ later) ≡ []
  left_working reply true q later same none = none
  left_working reply false q later same none = ap (λ (b : Bool). if b then q ∷ pending_where (has_id id) later else pending_where (has_id id) later) same ∙ none

  none_left : (reply : Reply) (rows : List (RequestRow Command Reply)) → pending_where (has_id id) (ended_where (has_id id) reply rows) ≡ []
  none_left reply [] = refl
  none_left reply (Waiting q ∷ rows) = left_waiting reply (q.id == id) q (ended_where (has_id id) reply rows) refl (none_left reply rows)
  none_left reply (InWork q ∷ rows) = left_working reply (q.id == id) q (ended_where (has_id id) reply rows) refl (none_left reply rows)
  none_left reply (Gone gone session was ∷ rows) = none_left reply rows

  one_at_most : (requests : List (Request Command)) → drop 1 requests ≡ [] → requests ≡ option_to_list (first_of requests)
  one_at_most [] none = refl
  one_at_most (request ∷ requests) none = ap (λ (later : List (Request Command)). request ∷ later) none

  with_id_is : (law : OneLessIsLeft Command Reply) (reply : Reply) (rows : List (RequestRow Command Reply)) (found : Option (Request Command)) → HasIds rows → pending_by_id id rows ≡ found → drop 1 (pending_where (has_id id) rows) ≡ []
  with_id_is law reply rows None ids is = none_first (pending_where (has_id id) rows) (first_with_id rows ∙ is)
    where
      none_first : (requests : List (Request Command)) → first_of requests ≡ None → drop 1 requests ≡ []
      none_first [] none = refl
      none_first (request ∷ requests) none = cc
  with_id_is law reply rows (Some request) ids is =
      let first : option_map request_id (first_of (pending_where (has_id id) rows)) ≡ Some id =
      ap (λ (o : Option (Request Command)). option_map request_id o) (first_with_id rows ∙ is) ∙ ap (λ (n : ℕ). Some n) (has_its_id rows request is) in
      sym (law (has_id id) reply rows id ids first) ∙ none_left reply rows

  pub one_with_id : (law : OneLessIsLeft Command Reply) (reply : Reply) (rows : List (RequestRow Command Reply)) → HasIds rows → pending_where (has_id id) rows ≡ option_to_list (pending_by_id id rows)
  one_with_id law reply rows ids =
      one_at_most (pending_where (has_id id) rows) (with_id_is law reply rows (pending_by_id id rows) ids refl) ∙ ap (λ (o : Option (Request Command)). option_to_list o) (first_with_id rows)

-- what a session names by an id that is not 0
module _ (session : Session) (floor id : ℕ) (some : id ≢ 0) where
  shape : (s z i f : Bool) → z ≡ false → (s && (z || (i && f))) ≡ (if i then s && f else false)
  shape s true i f e = cc
  shape true false true f e = refl
  shape true false false f e = refl
  shape false false true f e = refl
  shape false false false f e = refl

  pub named_is : (request : Request Command) → is_meant (Named session floor id) request ≡ (if request.id == id then same_session request.session session && nat_lt floor request.id else false)
  named_is request = shape (same_session request.session session) (id == 0) (request.id == id) (nat_lt floor request.id) (ne_eqb id 0 some)

  other_id : (request : Request Command) → (request.id == id) ≡ false → is_meant (Named session floor id) request ≡ false
  other_id request apart = named_is request ∙ ap (λ (b : Bool). if b then same_session request.session session && nat_lt floor request.id else false) apart

  named_first : (b : Bool) (request : Request Command) (named with_id : List (Request Command)) → (request.id == id) ≡ b → named ≡ filter (is_meant (Named session floor id)) with_id
      → (if is_meant (Named session floor id) request then request ∷ named else named) ≡ filter (is_meant (Named session floor id)) (if b then request ∷ with_id else with_id)
  named_first true request named with_id same is = ap (λ (later : List (Request Command)). if is_meant (Named session floor id) request then request ∷ later else later) is
  named_first false request named with_id same is = ap (λ (b : Bool). if b then request ∷ named else named) (other_id request same) ∙ is

  named_among : (rows : List (RequestRow Command Reply)) → meant_in (Named session floor id) rows ≡ filter (is_meant (Named session floor id)) (pending_where (has_id id) rows)
  named_among [] = refl
  named_among (Waiting q ∷ rows) = named_first (q.id == id) q (meant_in (Named session floor id) rows) (pending_where (has_id id) rows) refl (named_among rows)
  named_among (InWork q ∷ rows) = named_first (q.id == id) q (meant_in (Named session floor id) rows) (pending_where (has_id id) rows) refl (named_among rows)
  named_among (Gone gone owner reply ∷ rows) = named_among rows

  module _ (law : OneLessIsLeft Command Reply) (rows : List (RequestRow Command Reply)) (ids : HasIds rows) where
    meant_is : meant_in (Named session floor id) rows ≡ filter (is_meant (Named session floor id)) (option_to_list (pending_by_id id rows))
    meant_is = named_among rows ∙ ap (λ (requests : List (Request Command)). filter (is_meant (Named session floor id)) requests) (one_with_id id law canceled rows ids)

    few_of : (found : Option (Request Command)) → length (filter (is_meant (Named session floor id)) (option_to_list found)) ≤ 1
    few_of None = omega arith
    few_of (Some request) = by (is_meant (Named session floor id) request)
      where
        by : (b : Bool) → length (if b then request ∷ [] else []) ≤ 1
        by true = omega arith
        by false = omega arith

    pub few_named : length (meant_in (Named session floor id) rows) ≤ 1
    few_named = omega (arith, ap (λ (requests : List (Request Command)). length requests) meant_is, few_of (pending_by_id id rows))

    -- the pending request with the id is named, or none is
    first_if : (found : Option (Request Command)) (b : Bool) → ((request : Request Command) → found ≡ Some request → is_meant (Named session floor id) request ≡ b)
        → first_of (filter (is_meant (Named session floor id)) (option_to_list found)) ≡ (if b then found else None)
    first_if None true each = refl
    first_if None false each = refl
    first_if (Some request) b each = ap (λ (c : Bool). first_of (if c then request ∷ [] else [])) (each request refl) ∙ by b
      where
        by : (c : Bool) → first_of (if c then request ∷ [] else []) ≡ (if c then Some request else None)
        by true = refl
        by false = refl

    first_named : (b : Bool) → ((request : Request Command) → pending_by_id id rows ≡ Some request → is_meant (Named session floor id) request ≡ b) → first_where (is_meant (Named session floor id)) rows ≡ (if b then pending_by_id id rows else None)
    first_named b each = ap (λ (requests : List (Request Command)). first_of requests) meant_is ∙ first_if (pending_by_id id rows) b each

    -- its owner and the floor decide it
    by_owner : (owner : Session) (request : Request Command) → option_map request_session (pending_by_id id rows) ≡ Some owner → pending_by_id id rows ≡ Some request → is_meant (Named session floor id) request ≡ (same_session owner session && nat_lt floor id)
    by_owner owner request of is =
        let same_id : request.id ≡ id = has_its_id id rows request is in
        let same_owner : request.session ≡ owner = same_Some request.session owner (ap (λ (o : Option (Request Command)). option_map request_session o) (sym is) ∙ of) in
        named_is request
        ∙ ap (λ (b : Bool). if b then same_session request.session session && nat_lt floor request.id else false) (eq-eqb request.id id same_id)
        ∙ ap (λ (n : ℕ). same_session request.session session && nat_lt floor n) same_id
        ∙ ap (λ (s : Session). same_session s session && nat_lt floor id) same_owner

    pub found_named : (owner : Session) → option_map request_session (pending_by_id id rows) ≡ Some owner → (same_session owner session && nat_lt floor id) ≡ true → first_where (is_meant (Named session floor id)) rows ≡ pending_by_id id rows
    found_named owner of is = first_named true (λ request found. by_owner owner request of found ∙ is)

    pub id_of_found : (owner : Session) → option_map request_session (pending_by_id id rows) ≡ Some owner → (same_session owner session && nat_lt floor id) ≡ true → Some id ≡ option_map request_id (first_where (is_meant (Named session floor id)) rows)
    id_of_found owner of is = sym (ap (λ (o : Option (Request Command)). option_map request_id o) (found_named owner of is) ∙ its_id (pending_by_id id rows) refl of)
      where
        its_id : (found : Option (Request Command)) → pending_by_id id rows ≡ found → option_map request_session found ≡ Some owner → option_map request_id found ≡ Some id
        its_id None at of = cc
        its_id (Some request) at of = ap (λ (n : ℕ). Some n) (has_its_id id rows request at)

    pub other_owner : (owner : Session) → option_map request_session (pending_by_id id rows) ≡ Some owner → (same_session owner session && nat_lt floor id) ≡ false → None ≡ option_map request_id (first_where (is_meant (Named session floor id)) rows)
    other_owner owner of is = sym (ap (λ (o : Option (Request Command)). option_map request_id o) (first_named false (λ request found. by_owner owner request of found ∙ is)))

    pub no_owner : option_map request_session (pending_by_id id rows) ≡ None → None ≡ option_map request_id (first_where (is_meant (Named session floor id)) rows)
    no_owner of = sym (ap (λ (o : Option (Request Command)). option_map request_id o) (first_named false (λ request found. absurd (unowned request (ap (λ (o : Option (Request Command)). option_map request_session o) (sym found) ∙ of)))))
      where
        unowned : (request : Request Command) → option_map request_session (Some request) ≡ None → ⊥
        unowned request e = cc

-- the id 0 names all of the session
all_shape : (s f : Bool) → (s && (true || f)) ≡ s
all_shape true f = refl
all_shape false f = refl

module _ (one other : Request Command → Bool) (same : (request : Request Command) → one request ≡ other request) where
  pub same_pending : (rows : List (RequestRow Command Reply)) → pending_where one rows ≡ pending_where other rows
  same_pending [] = refl
  same_pending (Waiting q ∷ rows) =
      ap (λ (b : Bool). if b then q ∷ pending_where one rows else pending_where one rows) (same q) ∙ ap (λ (later : List (Request Command)). if other q then q ∷ later else later) (same_pending rows)
  same_pending (InWork q ∷ rows) =
      ap (λ (b : Bool). if b then q ∷ pending_where one rows else pending_where one rows) (same q) ∙ ap (λ (later : List (Request Command)). if other q then q ∷ later else later) (same_pending rows)
  same_pending (Gone id session reply ∷ rows) = same_pending rows

pub zero_names_all : (session : Session) (floor : ℕ) (rows : List (RequestRow Command Reply)) → meant_in (Named session floor 0) rows ≡ meant_in (Of session) rows
zero_names_all session floor rows =
    same_pending (is_meant (Named session floor 0)) (is_meant (Of session)) (λ request. all_shape (same_session request.session session) ((request.id == 0) && nat_lt floor request.id)) rows
