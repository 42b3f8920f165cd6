-- What the calls of the queue answer.
use Rattle.pad_words.specs.declared.numbers.Session.{Session}
use Rattle.std.specs.Prelude.{IfSome, IsSome, List, Option, ◌<◌, ◌≡◌, ℕ}
use Rattle.request_queue.specs.Requests.{Found, Nowhere, Replied, StillPending, pending_by_id, pending_count}
use Rattle.request_queue.specs.declared.requests.Request.{Request}
use Rattle.request_queue.specs.declared.requests.RequestRow.{RequestRow}
use Rattle.request_queue.specs.declared.queue.Found.{Found as Seen}
use Rattle.request_queue.specs.declared.queue.Found.TheVariants.{Ended, InvalidReqId, Pending}
use Rattle.request_queue.specs.declared.queue.QueueFault.{QueueFault}
use Rattle.request_queue.specs.declared.queue.QueueFault.TheVariants.{NoMemory, QueueFull}

-- an id that was found is that of a pending request
abbrev pub IsPending : {C R : Type 0} → Option ℕ → List (RequestRow C R) → Type 0
IsPending found rows = IfSome found (λ id. IsSome (pending_by_id id rows))

-- and the pending request with that id is this one
abbrev pub IsIdOf : {C R : Type 0} → Option ℕ → Option (Request C) → List (RequestRow C R) → Type 0
IsIdOf found request rows = IfSome found (λ id. pending_by_id id rows ≡ request)

-- 16 requests of the session are pending, or memory was wanting where fewer are; the command is handed back
abbrev pub IsRefusal : {C R : Type 0} → Session → C → List (RequestRow C R) → QueueFault C → Type 0
IsRefusal session command rows (QueueFull number back) = (number ≡ 16) × (pending_count session rows ≡ 16) × (back ≡ command)
IsRefusal session command rows (NoMemory back) = (pending_count session rows < 16) × (back ≡ command)

-- what a session finds, by the definition
abbrev pub found_of : {R : Type 0} → Seen R → Found R
found_of Pending = StillPending
found_of (Ended reply) = Replied reply.now
found_of InvalidReqId = Nowhere
