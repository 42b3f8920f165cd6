-- The requests of a run (WFSExecute): a list of rows that rises by id and is never shortened. A row waits, is in work, or is gone with a reply; pending means waiting or in work. These rules are this project's own; they follow the XFS manager's queue in outline.
use Rattle.request_queue.specs.declared.requests.Request.{Request}
use Rattle.request_queue.specs.declared.requests.RequestRow.{RequestRow}
use Rattle.request_queue.specs.declared.requests.RequestRow.TheVariants.{Gone, InWork, Waiting}
use Rattle.pad_words.specs.Numbers.{same_session}
use Rattle.pad_words.specs.declared.numbers.Session.{Session}
use Rattle.std.specs.Prelude.{Bool, List, None, Option, Some, [], if◌then◌else◌, length, map, nat_le, nat_lt, not, suc, true, ℕ, ◌&&◌, ◌++◌, ◌+◌, ◌-◌, ◌==◌, ◌∷◌, ◌≡◌}
use Rattle.std.specs.List.{slice_get}

-- the request in work, if there is one
abbrev pub request_in_work : {C R : Type 0} → List (RequestRow C R) → Option (Request C)
request_in_work [] = None
request_in_work (Waiting request ∷ rows) = request_in_work rows
request_in_work (InWork request ∷ rows) = Some request
request_in_work (Gone id session reply ∷ rows) = request_in_work rows

-- Begin may take the request: it is of the session that holds the lock, if one does
abbrev pub may_begin : {C : Type 0} → Option Session → Request C → Bool
may_begin None request = true
may_begin (Some holder) request = same_session request.session holder

-- the request that Begin takes: the first that waits, among the lock holder's if there is a holder
abbrev pub eligible : {C R : Type 0} → Option Session → List (RequestRow C R) → Option (Request C)
eligible holder [] = None
eligible holder (Waiting request ∷ rows) = if may_begin holder request then Some request else eligible holder rows
eligible holder (InWork request ∷ rows) = eligible holder rows
eligible holder (Gone id session reply ∷ rows) = eligible holder rows

-- that request's row becomes another one
abbrev pub begun_as : {C R : Type 0} → (Request C → RequestRow C R) → Option Session → List (RequestRow C R) → List (RequestRow C R)
begun_as become holder [] = []
begun_as become holder (Waiting request ∷ rows) = if may_begin holder request then become request ∷ rows else Waiting request ∷ begun_as become holder rows
begun_as become holder (InWork request ∷ rows) = InWork request ∷ begun_as become holder rows
begun_as become holder (Gone id session reply ∷ rows) = Gone id session reply ∷ begun_as become holder rows

-- that request comes into work
abbrev pub begun : {C R : Type 0} → Option Session → List (RequestRow C R) → List (RequestRow C R)
begun holder rows = begun_as (λ request. InWork request) holder rows

-- that request ends with this reply as it is taken
abbrev pub refused_at_begin : {C R : Type 0} → R → Option Session → List (RequestRow C R) → List (RequestRow C R)
refused_at_begin reply holder rows = begun_as (λ request. Gone request.id request.session reply) holder rows

-- the request in work ends with this reply
abbrev pub finished : {C R : Type 0} → R → List (RequestRow C R) → List (RequestRow C R)
finished reply [] = []
finished reply (Waiting request ∷ rows) = Waiting request ∷ finished reply rows
finished reply (InWork request ∷ rows) = Gone request.id request.session reply ∷ rows
finished reply (Gone id session earlier ∷ rows) = Gone id session earlier ∷ finished reply rows

-- the pending requests that pass a test, in order of their ids
abbrev pub pending_where : {C R : Type 0} → (Request C → Bool) → List (RequestRow C R) → List (Request C)
pending_where test [] = []
pending_where test (Waiting request ∷ rows) = if test request then request ∷ pending_where test rows else pending_where test rows
pending_where test (InWork request ∷ rows) = if test request then request ∷ pending_where test rows else pending_where test rows
pending_where test (Gone id session reply ∷ rows) = pending_where test rows

-- the pending requests that pass a test end with this reply
abbrev pub ended_where : {C R : Type 0} → (Request C → Bool) → R → List (RequestRow C R) → List (RequestRow C R)
ended_where test reply [] = []
ended_where test reply (Waiting request ∷ rows) = (if test request then Gone request.id request.session reply else Waiting request) ∷ ended_where test reply rows
ended_where test reply (InWork request ∷ rows) = (if test request then Gone request.id request.session reply else InWork request) ∷ ended_where test reply rows
ended_where test reply (Gone id session earlier ∷ rows) = Gone id session earlier ∷ ended_where test reply rows

-- how many requests of the session are pending
abbrev pub pending_count : {C R : Type 0} → Session → List (RequestRow C R) → ℕ
pending_count session rows = length (pending_where (λ request. same_session request.session session) rows)

-- how many requests ended
abbrev pub gone_count : {C R : Type 0} → List (RequestRow C R) → ℕ
gone_count [] = 0
gone_count (Waiting request ∷ rows) = gone_count rows
gone_count (InWork request ∷ rows) = gone_count rows
gone_count (Gone id session reply ∷ rows) = suc (gone_count rows)

-- what a session finds of an id: no request of its own above its floor, one that is pending, or one that ended with this reply
pub data Found (R : Type 0) : Type 0 where
  Nowhere : Found R
  StillPending : Found R
  Replied : R → Found R

-- what the session finds of this id among its requests above the floor
abbrev pub look : {C R : Type 0} → Session → ℕ → ℕ → List (RequestRow C R) → Found R
look session floor id [] = Nowhere
look session floor id (Waiting request ∷ rows) = if same_session request.session session && nat_lt floor request.id && (request.id == id) then StillPending else look session floor id rows
look session floor id (InWork request ∷ rows) = if same_session request.session session && nat_lt floor request.id && (request.id == id) then StillPending else look session floor id rows
look session floor id (Gone gone owner reply ∷ rows) = if same_session owner session && nat_lt floor gone && (gone == id) then Replied reply else look session floor id rows

-- the request has a limit, and was submitted at least that many ticks ago
abbrev pub is_due : {C : Type 0} → ℕ → Request C → Bool
is_due clock request = not (request.limit == 0) && nat_le request.limit (clock - request.submitted)

-- the first of a list
abbrev pub first_of : {A : Type 0} → List A → Option A
first_of [] = None
first_of (first ∷ rest) = Some first

-- the first pending request that passes a test
abbrev pub first_where : {C R : Type 0} → (Request C → Bool) → List (RequestRow C R) → Option (Request C)
first_where test rows = first_of (pending_where test rows)

-- what a request says of itself
abbrev pub request_id : {C : Type 0} → Request C → ℕ
request_id request = request.id

abbrev pub request_session : {C : Type 0} → Request C → Session
request_session request = request.session

abbrev pub request_command : {C : Type 0} → Request C → C
request_command request = request.command

-- the request has this id
abbrev pub has_id : {C : Type 0} → ℕ → Request C → Bool
has_id id request = request.id == id

-- the id of a row
abbrev pub row_id : {C R : Type 0} → RequestRow C R → ℕ
row_id (Waiting request) = request.id
row_id (InWork request) = request.id
row_id (Gone id session reply) = id

-- the pending request with this id
abbrev pub pending_by_id : {C R : Type 0} → ℕ → List (RequestRow C R) → Option (Request C)
pending_by_id id [] = None
pending_by_id id (Waiting request ∷ rows) = if request.id == id then Some request else pending_by_id id rows
pending_by_id id (InWork request ∷ rows) = if request.id == id then Some request else pending_by_id id rows
pending_by_id id (Gone gone session reply ∷ rows) = pending_by_id id rows

-- the waiting request with this id comes into work
abbrev pub begun_row : {C R : Type 0} → ℕ → RequestRow C R → RequestRow C R
begun_row id (Waiting request) = if request.id == id then InWork request else Waiting request
begun_row id (InWork request) = InWork request
begun_row id (Gone gone session reply) = Gone gone session reply

abbrev pub begun_by_id : {C R : Type 0} → ℕ → List (RequestRow C R) → List (RequestRow C R)
begun_by_id id rows = map (begun_row id) rows

-- a request that waits is put last, with the next id
abbrev pub submitted : {C R : Type 0} → Session → ℕ → ℕ → C → List (RequestRow C R) → List (RequestRow C R)
submitted session clock limit command rows = rows ++ Waiting (record { id = length rows + 1; session = session; submitted = clock; limit = limit; command = command }) ∷ []

-- the row with id i stands at place i - 1: ids are 1, 2, and so on
pub record HasIds {C R : Type 0} (rows : List (RequestRow C R)) : Type 0 where
  pub at : (i : ℕ) (row : RequestRow C R) → slice_get rows i ≡ Some row → row_id row ≡ suc i

-- at most one request is in work
pub record HasAtMostOneInWork {C R : Type 0} (rows : List (RequestRow C R)) : Type 0 where
  pub at : (i j : ℕ) (first second : Request C) → slice_get rows i ≡ Some (InWork first) → slice_get rows j ≡ Some (InWork second) → i ≡ j
