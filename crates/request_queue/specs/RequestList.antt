-- What callers see of a queue: the rows of its requests, and how many more requests it takes without memory.
use Rattle.request_queue.specs.declared.requests.RequestRow.{RequestRow}
use Rattle.std.specs.Prelude.{List, ℕ}

-- the queue's contract value; the number of spare places is a lower bound
pub record RequestList (C R : Type 0) : Type 0 where
  pub rows : List (RequestRow C R)
  pub spare : ℕ
