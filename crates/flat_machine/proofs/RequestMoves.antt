-- The six things that a step does to the requests, and what each leaves.
use Rattle.flat_machine.specs.RequestFacts.{Ending, endings, in_work, row_id}
use Rattle.request_queue.specs.Requests.{begun, begun_as, eligible, ended_where, finished, may_begin, pending_count, refused_at_begin, request_in_work}
use Rattle.request_queue.specs.declared.requests.Request.{Request}
use Rattle.request_queue.specs.declared.requests.RequestRow.{RequestRow}
use Rattle.request_queue.specs.declared.requests.RequestRow.TheVariants.{Gone, InWork, Waiting}
use Rattle.pad_steps.specs.declared.answers.Out.{Out}
use Rattle.pad_steps.specs.declared.answers.Reply.{Reply}
use Rattle.pad_steps.specs.declared.commands.Command.{Command}
use Rattle.pad_words.specs.declared.numbers.Session.{Session}
use Rattle.std.proofs.Common.{ap, arith, ◌∙◌}
use Rattle.std.specs.List.{range_with_len}
use Rattle.std.specs.Prelude.{Bool, List, None, Option, Some, [], false, if◌then◌else◌, length, map, nat_le, refl, true, ℕ, ◌++◌, ◌+◌, ◌∷◌, ◌≡◌, ◌≤◌}

abbrev pub Rows : Type 0
Rows = List (RequestRow Command Reply)

-- the end of a request
abbrev pub ending_of : Request Command → Reply → Ending
ending_of a r = record { id = a.id; session = a.session; reply = r }

-- the ends of the pending requests that pass a test
abbrev pub endings_where : (Request Command → Bool) → Reply → Rows → List Ending
endings_where test r [] = []
endings_where test r (Waiting a ∷ rows) = if test a then ending_of a r ∷ endings_where test r rows else endings_where test r rows
endings_where test r (InWork a ∷ rows) = if test a then ending_of a r ∷ endings_where test r rows else endings_where test r rows
endings_where test r (Gone id s q ∷ rows) = endings_where test r rows

-- what a step does to the requests, and which ends it tells of
pub data Moves (rows after : List (RequestRow Command Reply)) (outs : List Out) : Type 0 where
  Unmoved : after ≡ rows → endings outs ≡ [] → Moves rows after outs
  Drawn : (a : Request Command) → a.id ≡ length rows + 1 → nat_le 16 (pending_count a.session rows) ≡ false → after ≡ rows ++ Waiting a ∷ [] → endings outs ≡ [] → Moves rows after outs
  EndedWhere : (test : Request Command → Bool) (r : Reply) → after ≡ ended_where test r rows → endings outs ≡ endings_where test r rows → Moves rows after outs
  Begun : (holder : Option Session) → request_in_work rows ≡ None → after ≡ begun holder rows → endings outs ≡ [] → Moves rows after outs
  RefusedAtBegin : (holder : Option Session) (r : Reply) (a : Request Command) → request_in_work rows ≡ None → eligible holder rows ≡ Some a → after ≡ refused_at_begin r holder rows → endings outs ≡ ending_of a r ∷ [] → Moves rows after outs
  Finished : (r : Reply) (a : Request Command) → request_in_work rows ≡ Some a → after ≡ finished r rows → endings outs ≡ ending_of a r ∷ [] → Moves rows after outs

-- requests in work

work_waiting : (b : Bool) (a : Request Command) (r : Reply) (rows : Rows) → in_work ((if b then Gone a.id a.session r else Waiting a) ∷ rows) ≡ in_work rows
work_waiting true a r rows = refl
work_waiting false a r rows = refl

work_ended : (b : Bool) (a : Request Command) (r : Reply) (rows : Rows) → length (in_work ((if b then Gone a.id a.session r else InWork a) ∷ rows)) ≤ length (in_work rows) + 1
work_ended true a r rows = omega arith
work_ended false a r rows = omega arith

in_work-ended_where : (test : Request Command → Bool) (r : Reply) (rows : Rows) → length (in_work (ended_where test r rows)) ≤ length (in_work rows)
in_work-ended_where test r [] = omega arith
in_work-ended_where test r (Waiting a ∷ rows) = rw (work_waiting (test a) a r (ended_where test r rows)) (in_work-ended_where test r rows)
in_work-ended_where test r (InWork a ∷ rows) = omega (arith, work_ended (test a) a r (ended_where test r rows), in_work-ended_where test r rows)
in_work-ended_where test r (Gone id s q ∷ rows) = in_work-ended_where test r rows

in_work-none : (rows : Rows) → request_in_work rows ≡ None → in_work rows ≡ []
in_work-none [] e = refl
in_work-none (Waiting a ∷ rows) e = in_work-none rows e
in_work-none (InWork a ∷ rows) e = cc
in_work-none (Gone id s q ∷ rows) e = in_work-none rows e

work_begun : (b : Bool) (a : Request Command) (rows others : Rows) → in_work rows ≡ [] → length (in_work others) ≤ 1 → length (in_work (if b then InWork a ∷ rows else Waiting a ∷ others)) ≤ 1
work_begun true a rows others e h = rw e (omega arith)
work_begun false a rows others e h = h

in_work-begun : (holder : Option Session) (rows : Rows) → in_work rows ≡ [] → length (in_work (begun holder rows)) ≤ 1
in_work-begun holder [] e = omega arith
in_work-begun holder (Waiting a ∷ rows) e = work_begun (may_begin holder a) a rows (begun holder rows) e (in_work-begun holder rows e)
in_work-begun holder (InWork a ∷ rows) e = cc
in_work-begun holder (Gone id s q ∷ rows) e = in_work-begun holder rows e

work_refused : (b : Bool) (a : Request Command) (r : Reply) (rows others : Rows) → in_work others ≡ in_work rows → in_work (if b then Gone a.id a.session r ∷ rows else Waiting a ∷ others) ≡ in_work rows
work_refused true a r rows others e = refl
work_refused false a r rows others e = e

in_work-refused_at_begin : (r : Reply) (holder : Option Session) (rows : Rows) → in_work (refused_at_begin r holder rows) ≡ in_work rows
in_work-refused_at_begin r holder [] = refl
in_work-refused_at_begin r holder (Waiting a ∷ rows) = work_refused (may_begin holder a) a r rows (refused_at_begin r holder rows) (in_work-refused_at_begin r holder rows)
in_work-refused_at_begin r holder (InWork a ∷ rows) = ap (λ (xs : List (Request Command)). a ∷ xs) (in_work-refused_at_begin r holder rows)
in_work-refused_at_begin r holder (Gone id s q ∷ rows) = in_work-refused_at_begin r holder rows

in_work-finished : (r : Reply) (rows : Rows) → length (in_work (finished r rows)) ≤ length (in_work rows)
in_work-finished r [] = omega arith
in_work-finished r (Waiting a ∷ rows) = in_work-finished r rows
in_work-finished r (InWork a ∷ rows) = omega arith
in_work-finished r (Gone id s q ∷ rows) = in_work-finished r rows

in_work-push : (rows : Rows) (a : Request Command) → in_work (rows ++ Waiting a ∷ []) ≡ in_work rows
in_work-push [] a = refl
in_work-push (Waiting b ∷ rows) a = in_work-push rows a
in_work-push (InWork b ∷ rows) a = ap (λ (xs : List (Request Command)). b ∷ xs) (in_work-push rows a)
in_work-push (Gone id s q ∷ rows) a = in_work-push rows a

pub moves_in_work : (rows after : Rows) (outs : List Out) → Moves rows after outs → length (in_work rows) ≤ 1 → length (in_work after) ≤ 1
moves_in_work rows after outs (Unmoved e s) h = rw e h
moves_in_work rows after outs (Drawn a i room e s) h = rw (e, in_work-push rows a) h
moves_in_work rows after outs (EndedWhere test r e s) h = rw e (omega (arith, h, in_work-ended_where test r rows))
moves_in_work rows after outs (Begun holder w e s) h = rw e (in_work-begun holder rows (in_work-none rows w))
moves_in_work rows after outs (RefusedAtBegin holder r a w l e s) h = rw (e, in_work-refused_at_begin r holder rows) h
moves_in_work rows after outs (Finished r a w e s) h = rw e (omega (arith, h, in_work-finished r rows))

-- ids

-- rows are numbered one by one, from here on
abbrev pub NumberedFrom : ℕ → Rows → Type 0
NumberedFrom n [] = Unit {0}
NumberedFrom n (row ∷ rows) = (row_id row ≡ n) × NumberedFrom (n + 1) rows

pub ids-numbered : (n : ℕ) (rows : Rows) → NumberedFrom n rows → map row_id rows ≡ range_with_len n (length rows)
ids-numbered n [] h = refl
ids-numbered n (row ∷ rows) h = two_heads (row_id row) n (map row_id rows) (range_with_len (n + 1) (length rows)) h.0 (ids-numbered (n + 1) rows h.1)
  where
    two_heads : (x y : ℕ) (xs ys : List ℕ) → x ≡ y → xs ≡ ys → x ∷ xs ≡ y ∷ ys
    two_heads x y xs ys e f = rw (e, f) refl

id_waiting : (b : Bool) (a : Request Command) (r : Reply) → row_id (if b then Gone a.id a.session r else Waiting a) ≡ a.id
id_waiting true a r = refl
id_waiting false a r = refl

id_work : (b : Bool) (a : Request Command) (r : Reply) → row_id (if b then Gone a.id a.session r else InWork a) ≡ a.id
id_work true a r = refl
id_work false a r = refl

numbered-ended_where : (n : ℕ) (test : Request Command → Bool) (r : Reply) (rows : Rows) → NumberedFrom n rows → NumberedFrom n (ended_where test r rows)
numbered-ended_where n test r [] h = tt
numbered-ended_where n test r (Waiting a ∷ rows) h = (id_waiting (test a) a r ∙ h.0, numbered-ended_where (n + 1) test r rows h.1)
numbered-ended_where n test r (InWork a ∷ rows) h = (id_work (test a) a r ∙ h.0, numbered-ended_where (n + 1) test r rows h.1)
numbered-ended_where n test r (Gone id s q ∷ rows) h = (h.0, numbered-ended_where (n + 1) test r rows h.1)

numbered_if : (n : ℕ) (b : Bool) (a : Request Command) (row : RequestRow Command Reply) (rows others : Rows) → row_id row ≡ a.id → a.id ≡ n → NumberedFrom (n + 1) rows → NumberedFrom (n + 1) others → NumberedFrom n (if b then row ∷ rows else Waiting a ∷ others)
numbered_if n true a row rows others same i h k = (same ∙ i, h)
numbered_if n false a row rows others same i h k = (i, k)

numbered-begun_as : (n : ℕ) (f : Request Command → RequestRow Command Reply) (holder : Option Session) (rows : Rows) → ((a : Request Command) → row_id (f a) ≡ a.id) → NumberedFrom n rows → NumberedFrom n (begun_as f holder rows)
numbered-begun_as n f holder [] same h = tt
numbered-begun_as n f holder (Waiting a ∷ rows) same h = numbered_if n (may_begin holder a) a (f a) rows (begun_as f holder rows) (same a) h.0 h.1 (numbered-begun_as (n + 1) f holder rows same h.1)
numbered-begun_as n f holder (InWork a ∷ rows) same h = (h.0, numbered-begun_as (n + 1) f holder rows same h.1)
numbered-begun_as n f holder (Gone id s q ∷ rows) same h = (h.0, numbered-begun_as (n + 1) f holder rows same h.1)

numbered-finished : (n : ℕ) (r : Reply) (rows : Rows) → NumberedFrom n rows → NumberedFrom n (finished r rows)
numbered-finished n r [] h = tt
numbered-finished n r (Waiting a ∷ rows) h = (h.0, numbered-finished (n + 1) r rows h.1)
numbered-finished n r (InWork a ∷ rows) h = h
numbered-finished n r (Gone id s q ∷ rows) h = (h.0, numbered-finished (n + 1) r rows h.1)

numbered-push : (n : ℕ) (rows : Rows) (a : Request Command) → a.id ≡ n + length rows → NumberedFrom n rows → NumberedFrom n (rows ++ Waiting a ∷ [])
numbered-push n [] a i h = (omega (arith, i), tt)
numbered-push n (row ∷ rows) a i h = (h.0, numbered-push (n + 1) rows a (omega (arith, i)) h.1)

pub moves_numbered : (rows after : Rows) (outs : List Out) → Moves rows after outs → NumberedFrom 1 rows → NumberedFrom 1 after
moves_numbered rows after outs (Unmoved e s) h = rw e h
moves_numbered rows after outs (Drawn a i room e s) h = rw e (numbered-push 1 rows a (omega (arith, i)) h)
moves_numbered rows after outs (EndedWhere test r e s) h = rw e (numbered-ended_where 1 test r rows h)
moves_numbered rows after outs (Begun holder w e s) h = rw e (numbered-begun_as 1 _ holder rows (λ a. refl) h)
moves_numbered rows after outs (RefusedAtBegin holder r a w l e s) h = rw e (numbered-begun_as 1 _ holder rows (λ a. refl) h)
moves_numbered rows after outs (Finished r a w e s) h = rw e (numbered-finished 1 r rows h)
