-- What the calls by id come to, in the words of the rows: for callers that follow the definition.
use Rattle.request_queue.specs.Requests.{HasIds, begun, begun_by_id, eligible, ended_where, finished, first_where, gone_count, has_id, pending_where, refused_at_begin, request_id, request_in_work}
use Rattle.request_queue.specs.declared.requests.Request.{Request}
use Rattle.request_queue.specs.declared.requests.RequestRow.{RequestRow}
use Rattle.pad_words.specs.declared.numbers.Session.{Session}
use Rattle.std.specs.Option.{option_map}
use Rattle.std.specs.Prelude.{Bool, List, None, Option, Some, drop, length, true, ℕ, ◌+◌, ◌≡◌}

-- this is the id of the request that Begin takes
abbrev pub IsEligible : {C R : Type 0} → Option Session → List (RequestRow C R) → ℕ → Type 0
IsEligible holder rows id = option_map request_id (eligible holder rows) ≡ Some id

-- this is the id of the request in work
abbrev pub IsInWork : {C R : Type 0} → List (RequestRow C R) → ℕ → Type 0
IsInWork rows id = option_map request_id (request_in_work rows) ≡ Some id

-- this is the id of the first pending request that passes the test
abbrev pub IsFirst : {C R : Type 0} → (Request C → Bool) → List (RequestRow C R) → ℕ → Type 0
IsFirst test rows id = option_map request_id (first_where test rows) ≡ Some id

-- the eligible request, begun by its id, is begun
abbrev pub EligibleIsBegun : Type 0 → Type 0 → Type 0
EligibleIsBegun C R =
    (holder : Option Session) (rows : List (RequestRow C R)) (id : ℕ) → HasIds rows → IsEligible holder rows id
    → begun_by_id id rows ≡ begun holder rows

-- the eligible request, ended by its id, is refused as it is taken
abbrev pub EligibleIsRefused : Type 0 → Type 0 → Type 0
EligibleIsRefused C R =
    (reply : R) (holder : Option Session) (rows : List (RequestRow C R)) (id : ℕ) → HasIds rows → IsEligible holder rows id
    → ended_where (has_id id) reply rows ≡ refused_at_begin reply holder rows

-- the request in work, ended by its id, is finished
abbrev pub WorkIsFinished : Type 0 → Type 0 → Type 0
WorkIsFinished C R =
    (reply : R) (rows : List (RequestRow C R)) (id : ℕ) → HasIds rows → IsInWork rows id
    → ended_where (has_id id) reply rows ≡ finished reply rows

-- once the first that passes the test ended by its id, ending all that pass comes to the same as before
abbrev pub FirstEnds : Type 0 → Type 0 → Type 0
FirstEnds C R =
    (test : Request C → Bool) (reply : R) (rows : List (RequestRow C R)) (id : ℕ) → HasIds rows → IsFirst test rows id
    → ended_where test reply (ended_where (has_id id) reply rows) ≡ ended_where test reply rows

-- and one less is left, in the same order
abbrev pub OneLessIsLeft : Type 0 → Type 0 → Type 0
OneLessIsLeft C R =
    (test : Request C → Bool) (reply : R) (rows : List (RequestRow C R)) (id : ℕ) → HasIds rows → IsFirst test rows id
    → pending_where test (ended_where (has_id id) reply rows) ≡ drop 1 (pending_where test rows)

-- where none passes the test, all that pass have ended
abbrev pub NoneIsLeft : Type 0 → Type 0 → Type 0
NoneIsLeft C R =
    (test : Request C → Bool) (reply : R) (rows : List (RequestRow C R))
    → option_map request_id (first_where test rows) ≡ None → ended_where test reply rows ≡ rows

-- ids stay 1, 2, and so on where requests end, and where one comes into work
abbrev pub IdsStayAtEnd : Type 0 → Type 0 → Type 0
IdsStayAtEnd C R =
    (test : Request C → Bool) (reply : R) (rows : List (RequestRow C R)) → HasIds rows
    → HasIds (ended_where test reply rows)

abbrev pub IdsStayAtBegin : Type 0 → Type 0 → Type 0
IdsStayAtBegin C R = (id : ℕ) (rows : List (RequestRow C R)) → HasIds rows → HasIds (begun_by_id id rows)

-- each request is pending, or it ended
abbrev pub PendsOrEnded : Type 0 → Type 0 → Type 0
PendsOrEnded C R = (rows : List (RequestRow C R)) → length (pending_where (λ request. true) rows) + gone_count rows ≡ length rows
