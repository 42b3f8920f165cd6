-- At most 16 requests of a session are pending.
use Rattle.flat_machine.proofs.RequestMoves.{Begun, Drawn, EndedWhere, Finished, Moves, RefusedAtBegin, Rows, Unmoved}
use Rattle.request_queue.specs.Requests.{begun, ended_where, finished, may_begin, pending_count, pending_where, refused_at_begin}
use Rattle.pad_words.specs.Numbers.{same_session}
use Rattle.request_queue.specs.declared.requests.Request.{Request}
use Rattle.request_queue.specs.declared.requests.RequestRow.{RequestRow}
use Rattle.request_queue.specs.declared.requests.RequestRow.TheVariants.{Gone, InWork, Waiting}
use Rattle.pad_steps.specs.declared.answers.Out.{Out}
use Rattle.pad_steps.specs.declared.answers.Reply.{Reply}
use Rattle.pad_steps.specs.declared.commands.Command.{Command}
use Rattle.pad_words.specs.declared.numbers.Session.{Session}
use Rattle.std.proofs.Common.{ap, arith}
use Rattle.std.proofs.lemmas.Bool.{eqb-true, leb-false}
use Rattle.std.specs.Prelude.{Bool, List, Option, [], false, if◌then◌else◌, length, nat_le, refl, true, ℕ, ◌++◌, ◌+◌, ◌==◌, ◌∷◌, ◌≡◌, ◌≤◌}

pending_where-ended : (t : Request Command → Bool) (b c : Bool) (a : Request Command) (row : RequestRow Command Reply) (r : Reply) (before after : List (Request Command)) → length after ≤ length before → length (if b then after else (if c then a ∷ after else after)) ≤ length (if c then a ∷ before else before)
pending_where-ended t true true a row r before after l = omega (arith, l)
pending_where-ended t true false a row r before after l = l
pending_where-ended t false true a row r before after l = omega (arith, l)
pending_where-ended t false false a row r before after l = l

ended_waiting : (t : Request Command → Bool) (b : Bool) (a : Request Command) (r : Reply) (rows after : Rows) → length (pending_where t after) ≤ length (pending_where t rows) → length (pending_where t ((if b then Gone a.id a.session r else Waiting a) ∷ after)) ≤ length (pending_where t (Waiting a ∷ rows))
ended_waiting t true a r rows after l = pending_where-ended t true (t a) a (Waiting a) r (pending_where t rows) (pending_where t after) l
ended_waiting t false a r rows after l = pending_where-ended t false (t a) a (Waiting a) r (pending_where t rows) (pending_where t after) l

ended_work : (t : Request Command → Bool) (b : Bool) (a : Request Command) (r : Reply) (rows after : Rows) → length (pending_where t after) ≤ length (pending_where t rows) → length (pending_where t ((if b then Gone a.id a.session r else InWork a) ∷ after)) ≤ length (pending_where t (InWork a ∷ rows))
ended_work t true a r rows after l = pending_where-ended t true (t a) a (InWork a) r (pending_where t rows) (pending_where t after) l
ended_work t false a r rows after l = pending_where-ended t false (t a) a (InWork a) r (pending_where t rows) (pending_where t after) l

count-ended_where : (t test : Request Command → Bool) (r : Reply) (rows : Rows) → length (pending_where t (ended_where test r rows)) ≤ length (pending_where t rows)
count-ended_where t test r [] = omega arith
count-ended_where t test r (Waiting a ∷ rows) = ended_waiting t (test a) a r rows (ended_where test r rows) (count-ended_where t test r rows)
count-ended_where t test r (InWork a ∷ rows) = ended_work t (test a) a r rows (ended_where test r rows) (count-ended_where t test r rows)
count-ended_where t test r (Gone id s q ∷ rows) = count-ended_where t test r rows

one_more : (c : Bool) (a : Request Command) (before after : List (Request Command)) → length after ≤ length before → length (if c then a ∷ after else after) ≤ length (if c then a ∷ before else before)
one_more true a before after l = omega (arith, l)
one_more false a before after l = l

begun_if : (t : Request Command → Bool) (b : Bool) (a : Request Command) (rows after : Rows) → length (pending_where t after) ≤ length (pending_where t rows) → length (pending_where t (if b then InWork a ∷ rows else Waiting a ∷ after)) ≤ length (pending_where t (Waiting a ∷ rows))
begun_if t true a rows after l = omega arith
begun_if t false a rows after l = one_more (t a) a (pending_where t rows) (pending_where t after) l

count-begun : (t : Request Command → Bool) (holder : Option Session) (rows : Rows) → length (pending_where t (begun holder rows)) ≤ length (pending_where t rows)
count-begun t holder [] = omega arith
count-begun t holder (Waiting a ∷ rows) = begun_if t (may_begin holder a) a rows (begun holder rows) (count-begun t holder rows)
count-begun t holder (InWork a ∷ rows) = one_more (t a) a (pending_where t rows) (pending_where t (begun holder rows)) (count-begun t holder rows)
count-begun t holder (Gone id s q ∷ rows) = count-begun t holder rows

fewer : (c : Bool) (a : Request Command) (xs : List (Request Command)) → length xs ≤ length (if c then a ∷ xs else xs)
fewer true a xs = omega arith
fewer false a xs = omega arith

refused_if : (t : Request Command → Bool) (b : Bool) (a : Request Command) (r : Reply) (rows after : Rows) → length (pending_where t after) ≤ length (pending_where t rows) → length (pending_where t (if b then Gone a.id a.session r ∷ rows else Waiting a ∷ after)) ≤ length (pending_where t (Waiting a ∷ rows))
refused_if t true a r rows after l = fewer (t a) a (pending_where t rows)
refused_if t false a r rows after l = one_more (t a) a (pending_where t rows) (pending_where t after) l

count-refused_at_begin : (t : Request Command → Bool) (r : Reply) (holder : Option Session) (rows : Rows) → length (pending_where t (refused_at_begin r holder rows)) ≤ length (pending_where t rows)
count-refused_at_begin t r holder [] = omega arith
count-refused_at_begin t r holder (Waiting a ∷ rows) = refused_if t (may_begin holder a) a r rows (refused_at_begin r holder rows) (count-refused_at_begin t r holder rows)
count-refused_at_begin t r holder (InWork a ∷ rows) = one_more (t a) a (pending_where t rows) (pending_where t (refused_at_begin r holder rows)) (count-refused_at_begin t r holder rows)
count-refused_at_begin t r holder (Gone id s q ∷ rows) = count-refused_at_begin t r holder rows

count-finished : (t : Request Command → Bool) (r : Reply) (rows : Rows) → length (pending_where t (finished r rows)) ≤ length (pending_where t rows)
count-finished t r [] = omega arith
count-finished t r (Waiting a ∷ rows) = one_more (t a) a (pending_where t rows) (pending_where t (finished r rows)) (count-finished t r rows)
count-finished t r (InWork a ∷ rows) = fewer (t a) a (pending_where t rows)
count-finished t r (Gone id s q ∷ rows) = count-finished t r rows

-- a request that is drawn is one more of its own session

abbrev one_if_own : Bool → ℕ
one_if_own b = if b then 1 else 0

pushed_if : (c d : Bool) (a b : Request Command) (before after : List (Request Command)) → length after ≤ length before + one_if_own d → length (if c then b ∷ after else after) ≤ length (if c then b ∷ before else before) + one_if_own d
pushed_if true d a b before after l = omega (arith, l)
pushed_if false d a b before after l = l

last_one : (c : Bool) (a : Request Command) → length (if c then a ∷ [] else []) ≤ 0 + one_if_own c
last_one true a = omega arith
last_one false a = omega arith

count-push : (t : Request Command → Bool) (rows : Rows) (a : Request Command) → length (pending_where t (rows ++ Waiting a ∷ [])) ≤ length (pending_where t rows) + one_if_own (t a)
count-push t [] a = last_one (t a) a
count-push t (Waiting b ∷ rows) a = pushed_if (t b) (t a) a b (pending_where t rows) (pending_where t (rows ++ Waiting a ∷ [])) (count-push t rows a)
count-push t (InWork b ∷ rows) a = pushed_if (t b) (t a) a b (pending_where t rows) (pending_where t (rows ++ Waiting a ∷ [])) (count-push t rows a)
count-push t (Gone id s q ∷ rows) a = count-push t rows a

count_of_number : (rows : Rows) (s t : Session) → s.number ≡ t.number → pending_count s rows ≡ pending_count t rows
count_of_number rows s t e = ap (λ (n : ℕ). length (pending_where (λ (a : Request Command). a.session.number == n) rows)) e

room_after : (b : Bool) (s : Session) (a : Request Command) (rows : Rows) → same_session a.session s ≡ b → nat_le 16 (pending_count a.session rows) ≡ false → pending_count s rows ≤ 16 → pending_count s rows + one_if_own b ≤ 16
room_after true s a rows own room l =
    let few = leb-false 16 (pending_count a.session rows) room in
    omega (arith, few, count_of_number rows a.session s (eqb-true a.session.number s.number own))
room_after false s a rows own room l = omega (arith, l)

pub moves_count : (s : Session) (rows after : Rows) (outs : List Out) → Moves rows after outs → pending_count s rows ≤ 16 → pending_count s after ≤ 16
moves_count s rows after outs (Unmoved e t) l = rw e l
moves_count s rows after outs (Drawn a i room e t) l =
    let pushed = count-push (λ (b : Request Command). same_session b.session s) rows a in
    let enough = room_after (same_session a.session s) s a rows refl room l in
    rw e (omega (arith, pushed, enough))
moves_count s rows after outs (EndedWhere test r e t) l = rw e (omega (arith, l, count-ended_where (λ (b : Request Command). same_session b.session s) test r rows))
moves_count s rows after outs (Begun holder w e t) l = rw e (omega (arith, l, count-begun (λ (b : Request Command). same_session b.session s) holder rows))
moves_count s rows after outs (RefusedAtBegin holder r a w q e t) l = rw e (omega (arith, l, count-refused_at_begin (λ (b : Request Command). same_session b.session s) r holder rows))
moves_count s rows after outs (Finished r a w e t) l = rw e (omega (arith, l, count-finished (λ (b : Request Command). same_session b.session s) r rows))
