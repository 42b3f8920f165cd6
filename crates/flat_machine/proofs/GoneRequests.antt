-- No request that is gone comes back.
use Rattle.pad_steps.specs.declared.answers.Reply.{Reply}
use Rattle.pad_steps.specs.declared.commands.Command.{Command}
use Rattle.pad_words.specs.declared.numbers.Session.{Session}
use Rattle.request_queue.specs.Requests.{begun, begun_as, ended_where, finished, gone_count, may_begin, refused_at_begin, request_in_work}
use Rattle.request_queue.specs.declared.requests.Request.{Request}
use Rattle.request_queue.specs.declared.requests.RequestRow.TheVariants.{Gone, InWork, Waiting}
use Rattle.request_queue.specs.declared.requests.RequestRow.{RequestRow}
use Rattle.std.proofs.Common.{arith}
use Rattle.std.specs.Prelude.{Bool, List, Option, Some, [], false, if◌then◌else◌, true, ℕ, ◌++◌, ◌+◌, ◌∷◌, ◌≡◌, ◌≤◌}

abbrev Rows : Type 0
Rows = List (RequestRow Command Reply)

waits_if : (b : Bool) (a : Request Command) (id n : ℕ) (s : Session) (r : Reply) (rows : Rows) → n ≤ gone_count rows → n ≤ gone_count ((if b then Gone id s r else Waiting a) ∷ rows)
waits_if true a id n s r rows le = omega (arith, le)
waits_if false a id n s r rows le = le

works_if : (b : Bool) (a : Request Command) (id n : ℕ) (s : Session) (r : Reply) (rows : Rows) → n ≤ gone_count rows → n ≤ gone_count ((if b then Gone id s r else InWork a) ∷ rows)
works_if true a id n s r rows le = omega (arith, le)
works_if false a id n s r rows le = le

pub gone-ended_where : (test : Request Command → Bool) (r : Reply) (rows : Rows) → gone_count rows ≤ gone_count (ended_where test r rows)
gone-ended_where test r [] = omega arith
gone-ended_where test r (Waiting a ∷ rows) = waits_if (test a) a a.id (gone_count rows) a.session r (ended_where test r rows) (gone-ended_where test r rows)
gone-ended_where test r (InWork a ∷ rows) = works_if (test a) a a.id (gone_count rows) a.session r (ended_where test r rows) (gone-ended_where test r rows)
gone-ended_where test r (Gone id s q ∷ rows) = omega (arith, gone-ended_where test r rows)

pub gone-finished : (r : Reply) (rows : Rows) → gone_count rows ≤ gone_count (finished r rows)
gone-finished r [] = omega arith
gone-finished r (Waiting a ∷ rows) = gone-finished r rows
gone-finished r (InWork a ∷ rows) = omega arith
gone-finished r (Gone id s q ∷ rows) = omega (arith, gone-finished r rows)

-- the request in work is gone, and no other
pub gone-one : (r : Reply) (rows : Rows) (a : Request Command) → request_in_work rows ≡ Some a → gone_count (finished r rows) ≡ gone_count rows + 1
gone-one r [] a is = cc
gone-one r (Waiting b ∷ rows) a is = gone-one r rows a is
gone-one r (InWork b ∷ rows) a is = omega arith
gone-one r (Gone id s q ∷ rows) a is = omega (arith, gone-one r rows a is)

gone-before : (x : RequestRow Command Reply) (rows : Rows) → gone_count rows ≤ gone_count (x ∷ rows)
gone-before (Waiting a) rows = omega arith
gone-before (InWork a) rows = omega arith
gone-before (Gone id s r) rows = omega arith

begins_if : (b : Bool) (x : RequestRow Command Reply) (a : Request Command) (rows others : Rows) → gone_count rows ≤ gone_count others → gone_count rows ≤ gone_count (if b then x ∷ rows else Waiting a ∷ others)
begins_if true x a rows others le = gone-before x rows
begins_if false x a rows others le = le

gone-begun_as : (become : Request Command → RequestRow Command Reply) (holder : Option Session) (rows : Rows) → gone_count rows ≤ gone_count (begun_as become holder rows)
gone-begun_as become holder [] = omega arith
gone-begun_as become holder (Waiting a ∷ rows) = begins_if (may_begin holder a) (become a) a rows (begun_as become holder rows) (gone-begun_as become holder rows)
gone-begun_as become holder (InWork a ∷ rows) = gone-begun_as become holder rows
gone-begun_as become holder (Gone id s r ∷ rows) = omega (arith, gone-begun_as become holder rows)

pub gone-begun : (holder : Option Session) (rows : Rows) → gone_count rows ≤ gone_count (begun holder rows)
gone-begun holder rows = gone-begun_as (λ a. InWork a) holder rows

pub gone-refused_at_begin : (r : Reply) (holder : Option Session) (rows : Rows) → gone_count rows ≤ gone_count (refused_at_begin r holder rows)
gone-refused_at_begin r holder rows = gone-begun_as (λ a. Gone a.id a.session r) holder rows

pub gone-submitted : (rows more : Rows) → gone_count rows ≤ gone_count (rows ++ more)
gone-submitted [] more = omega arith
gone-submitted (Waiting a ∷ rows) more = gone-submitted rows more
gone-submitted (InWork a ∷ rows) more = gone-submitted rows more
gone-submitted (Gone id s r ∷ rows) more = omega (arith, gone-submitted rows more)
