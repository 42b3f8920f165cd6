-- The requests that a run brings into work, and their order.
use Rattle.flat_machine.proofs.BoolLemmas.{true_is_not_false}
use Rattle.flat_machine.proofs.PressWalk.{moves_next}
use Rattle.flat_machine.proofs.LineMoves.{same_through, same_turned}
use Rattle.flat_machine.proofs.QueueMoves.{same_request, waiting_row, working_row}
use Rattle.flat_machine.proofs.RequestMoves.{NumberedFrom, Rows, moves_numbered}
use Rattle.flat_machine.proofs.RequestRuns.{Numbered}
use Rattle.flat_machine.proofs.StepCauses.{Began, Caused, EndedMany, EndedOne, Nothing, RefusedEntry, Submitted, next_caused}
use Rattle.flat_machine.specs.Facts.{IsStart}
use Rattle.flat_machine.specs.Machine.{Act, next}
use Rattle.flat_machine.specs.QueueFacts.{IsBegun, brought_from, brought_into, ids_of}
use Rattle.flat_machine.specs.Settings.{Setting}
use Rattle.flat_machine.specs.State.{Flat, opening, ready_opening}
use Rattle.device_lock.specs.LockLine.{holder_of}
use Rattle.request_queue.specs.Requests.{begun, begun_as, eligible, ended_where, finished, may_begin, refused_at_begin, request_in_work}
use Rattle.request_queue.specs.declared.requests.Request.{Request}
use Rattle.request_queue.specs.declared.requests.RequestRow.{RequestRow}
use Rattle.request_queue.specs.declared.requests.RequestRow.TheVariants.{Gone, InWork, Waiting}
use Rattle.pad_steps.specs.declared.answers.Out.{Out}
use Rattle.pad_steps.specs.declared.answers.Reply.{Reply}
use Rattle.pad_steps.specs.declared.commands.Command.{Command}
use Rattle.pad_steps.specs.declared.steps.DiskWord.{DiskWord}
use Rattle.pad_steps.specs.declared.steps.Step.{Step}
use Rattle.pad_words.specs.Numbers.{same_session}
use Rattle.pad_words.specs.declared.numbers.Session.{Session}
use Rattle.std.proofs.Common.{ap, arith, inl, inr, subst, sym, ◌∙◌}
use Rattle.std.specs.List.{slice_get}
use Rattle.std.specs.List.Sorted.{IsStrictlyIncreasing}
use Rattle.std.specs.Prelude.{Bool, List, None, Option, Some, [], cond, false, filter, if◌then◌else◌, length, map, option_to_list, refl, suc, true, zero, ℕ, ◌++◌, ◌+◌, ◌<◌, ◌∷◌, ◌≡◌, ◌≤◌}
use Rattle.pad_steps.specs.declared.answers.Reply.TheVariants as reply
use Rattle.pad_steps.specs.declared.steps.Step.TheVariants as step

-- the request in work after a step

none_some : (a : Request Command) → None ≡ Some a → ⊥
none_some a e = cc

in_work-push : (rows : Rows) (a : Request Command) → request_in_work (rows ++ Waiting a ∷ []) ≡ request_in_work rows
in_work-push [] a = refl
in_work-push (Waiting b ∷ rows) a = in_work-push rows a
in_work-push (InWork b ∷ rows) a = refl
in_work-push (Gone id s q ∷ rows) a = in_work-push rows a

ended_waiting : (b : Bool) (a : Request Command) (r : Reply) (rows : Rows) → request_in_work ((if b then Gone a.id a.session r else Waiting a) ∷ rows) ≡ request_in_work rows
ended_waiting true a r rows = refl
ended_waiting false a r rows = refl

in_work-ended_where : (test : Request Command → Bool) (r : Reply) (rows : Rows) → request_in_work rows ≡ None → request_in_work (ended_where test r rows) ≡ None
in_work-ended_where test r [] e = refl
in_work-ended_where test r (Waiting a ∷ rows) e = ended_waiting (test a) a r (ended_where test r rows) ∙ in_work-ended_where test r rows e
in_work-ended_where test r (InWork a ∷ rows) e = absurd (none_some a (sym e))
in_work-ended_where test r (Gone id s q ∷ rows) e = in_work-ended_where test r rows e

in_work-refused : (r : Reply) (holder : Option Session) (rows : Rows) → request_in_work (refused_at_begin r holder rows) ≡ request_in_work rows
in_work-refused r holder [] = refl
in_work-refused r holder (Waiting a ∷ rows) = taken (may_begin holder a) (in_work-refused r holder rows)
  where
    taken : (b : Bool) → request_in_work (refused_at_begin r holder rows) ≡ request_in_work rows → request_in_work (if b then Gone a.id a.session r ∷ rows else Waiting a ∷ refused_at_begin r holder rows) ≡ request_in_work rows
    taken true e = refl
    taken false e = e
in_work-refused r holder (InWork a ∷ rows) = refl
in_work-refused r holder (Gone id s q ∷ rows) = in_work-refused r holder rows

-- the eligible request comes into work at its place
pub record BegunAt (holder : Option Session) (rows : Rows) (a : Request Command) : Type 0 where
  pub in_work : request_in_work (begun holder rows) ≡ Some a
  pub place : ℕ
  pub waited : slice_get rows place ≡ Some (Waiting a)
  pub works : slice_get (begun holder rows) place ≡ Some (InWork a)

pub eligible-begun : (holder : Option Session) (rows : Rows) (a : Request Command) → request_in_work rows ≡ None → eligible holder rows ≡ Some a → BegunAt holder rows a
eligible-begun holder [] a none some = absurd (none_some a some)
eligible-begun holder (Waiting c ∷ rows) a none some = at_first (may_begin holder c) refl some (eligible-begun holder rows a none)
  where
    at_first : (b : Bool) → may_begin holder c ≡ b → (if b then Some c else eligible holder rows) ≡ Some a → (eligible holder rows ≡ Some a → BegunAt holder rows a) → BegunAt holder (Waiting c ∷ rows) a
    at_first true e is rest =
        let became : begun holder (Waiting c ∷ rows) ≡ InWork c ∷ rows = ap (λ (b : Bool). if b then InWork c ∷ rows else Waiting c ∷ begun holder rows) e in
        record { in_work = ap request_in_work became ∙ is; place = zero; waited = ap (λ (x : Request Command). Some (waiting_row x)) (same_request c a is); works = ap (λ (xs : Rows). slice_get xs zero) became ∙ ap (λ (x : Request Command). Some (working_row x)) (same_request c a is) }
    at_first false e is rest =
        let became : begun holder (Waiting c ∷ rows) ≡ Waiting c ∷ begun holder rows = ap (λ (b : Bool). if b then InWork c ∷ rows else Waiting c ∷ begun holder rows) e in
        let later = rest is in
        record { in_work = ap request_in_work became ∙ later.in_work; place = suc later.place; waited = later.waited; works = ap (λ (xs : Rows). slice_get xs (suc later.place)) became ∙ later.works }
eligible-begun holder (InWork c ∷ rows) a none some = absurd (none_some c (sym none))
eligible-begun holder (Gone id s q ∷ rows) a none some =
    let later = eligible-begun holder rows a none some in
    record { in_work = later.in_work; place = suc later.place; waited = later.waited; works = later.works }

-- what a step brings into work

-- either nothing, or by Begin the eligible request
pub data Brings (h : Flat) (s : Step) (after : Rows) : Type 0 where
  BringsNone : brought_into (request_in_work h.shared.requests) (request_in_work after) ≡ [] → Brings h s after
  BringsOne : (a : Request Command) → s ≡ step.Begin → request_in_work h.shared.requests ≡ None → eligible (holder_of h.shared.line) h.shared.requests ≡ Some a → after ≡ begun (holder_of h.shared.line) h.shared.requests
      → brought_into (request_in_work h.shared.requests) (request_in_work after) ≡ a ∷ [] → Brings h s after

brought_same : (o p : Option (Request Command)) → p ≡ o → brought_into o p ≡ []
brought_same None p e = ap (λ (x : Option (Request Command)). brought_into None x) e
brought_same (Some a) p e = refl

brought_none : (o p : Option (Request Command)) → (o ≡ None → p ≡ None) → brought_into o p ≡ []
brought_none None p e = ap (λ (x : Option (Request Command)). brought_into None x) (e refl)
brought_none (Some a) p e = refl

brought_busy : (o p : Option (Request Command)) (a : Request Command) → o ≡ Some a → brought_into o p ≡ []
brought_busy o p a e = ap (λ (x : Option (Request Command)). brought_into x p) e

brings : (set : Setting) (h : Flat) (s : Step) (w : DiskWord) (after : Rows) (outs : List Out) → Caused set h s w after outs → Brings h s after
brings set h s w after outs (Nothing e o) = BringsNone (brought_same _ _ (ap request_in_work e))
brings set h s w after outs (Submitted t limit c at ok e o) = BringsNone (brought_same _ _ (ap request_in_work e ∙ in_work-push h.shared.requests _))
brings set h s w after outs (EndedMany test r why e o) = BringsNone (brought_none _ _ (λ none. ap request_in_work e ∙ in_work-ended_where test (reply.No r) h.shared.requests none))
brings set h s w after outs (Began a at none some e o) =
    let begun_at = eligible-begun (holder_of h.shared.line) h.shared.requests a none some in
    BringsOne a at none some e (ap (λ (x : Option (Request Command)). brought_into x (request_in_work after)) none ∙ ap option_to_list (ap request_in_work e ∙ begun_at.in_work))
brings set h s w after outs (RefusedEntry a entry r at none some is e o) = BringsNone (brought_same _ _ (ap request_in_work e ∙ in_work-refused (reply.No r) (holder_of h.shared.line) h.shared.requests))
brings set h s w after outs (EndedOne a r heard work why e o) = BringsNone (brought_busy _ _ a work)

next_brings : (set : Setting) (h : Flat) (s : Step) (w : DiskWord) → Brings h s (next set h s w).state.shared.requests
next_brings set h s w = brings set h s w (next set h s w).state.shared.requests (next set h s w).outs (next_caused set h s w)

one_brought : (a b : Request Command) → a ∷ [] ≡ b ∷ [] → a ≡ b
one_brought a b e = cc

none_brought : (a : Request Command) → [] ≡ a ∷ [] → ⊥
none_brought a e = cc

brought_at : (h : Flat) (s : Step) (after : Rows) (a : Request Command) → Brings h s after → brought_into (request_in_work h.shared.requests) (request_in_work after) ≡ a ∷ [] → IsBegun s h.shared.requests after a
brought_at h s after a (BringsNone e) is = absurd (none_brought a (sym e ∙ is))
brought_at h s after a (BringsOne b at none some e o) is =
    let begun_at = eligible-begun (holder_of h.shared.line) h.shared.requests b none some in
    let same = one_brought b a (sym o ∙ is) in
    record { begin = at; place = begun_at.place; waited = begun_at.waited ∙ ap (λ (x : Request Command). Some (waiting_row x)) same; works = ap (λ (xs : Rows). slice_get xs begun_at.place) e ∙ begun_at.works ∙ ap (λ (x : Request Command). Some (working_row x)) same }

pub brought_by_begin : (set : Setting) (h : Flat) (s : Step) (w : DiskWord) (a : Request Command) → brought_into (request_in_work h.shared.requests) (request_in_work (next set h s w).state.shared.requests) ≡ a ∷ [] → IsBegun s h.shared.requests (next set h s w).state.shared.requests a
brought_by_begin set h s w a = brought_at h s (next set h s w).state.shared.requests a (next_brings set h s w)

-- the requests of a session that wait have ids above this number

abbrev WaitAbove : Session → ℕ → Rows → Type 0
WaitAbove t n [] = Unit {0}
WaitAbove t n (Waiting a ∷ rows) = (same_session a.session t ≡ true → n < a.id) × WaitAbove t n rows
WaitAbove t n (InWork a ∷ rows) = WaitAbove t n rows
WaitAbove t n (Gone id s q ∷ rows) = WaitAbove t n rows

module _ (t : Session) (n : ℕ) where
  above-push : (rows : Rows) (a : Request Command) → n < a.id → WaitAbove t n rows → WaitAbove t n (rows ++ Waiting a ∷ [])
  above-push [] a l h = (λ own. l, tt)
  above-push (Waiting b ∷ rows) a l h = (h.0, above-push rows a l h.1)
  above-push (InWork b ∷ rows) a l h = above-push rows a l h
  above-push (Gone id s q ∷ rows) a l h = above-push rows a l h

  above_waiting : (b : Bool) (a : Request Command) (r : Reply) (rows : Rows) → (same_session a.session t ≡ true → n < a.id) → WaitAbove t n rows → WaitAbove t n ((if b then Gone a.id a.session r else Waiting a) ∷ rows)
  above_waiting true a r rows l h = h
  above_waiting false a r rows l h = (l, h)

  above_work : (b : Bool) (a : Request Command) (r : Reply) (rows : Rows) → WaitAbove t n rows → WaitAbove t n ((if b then Gone a.id a.session r else InWork a) ∷ rows)
  above_work true a r rows h = h
  above_work false a r rows h = h

  above-ended_where : (test : Request Command → Bool) (r : Reply) (rows : Rows) → WaitAbove t n rows → WaitAbove t n (ended_where test r rows)
  above-ended_where test r [] h = tt
  above-ended_where test r (Waiting a ∷ rows) h = above_waiting (test a) a r (ended_where test r rows) h.0 (above-ended_where test r rows h.1)
  above-ended_where test r (InWork a ∷ rows) h = above_work (test a) a r (ended_where test r rows) (above-ended_where test r rows h)
  above-ended_where test r (Gone id s q ∷ rows) h = above-ended_where test r rows h

  above_taken : (b : Bool) (a : Request Command) (row : RequestRow Command Reply) (rows others : Rows) → WaitAbove t n (row ∷ rows) → (same_session a.session t ≡ true → n < a.id) → WaitAbove t n others → WaitAbove t n (if b then row ∷ rows else Waiting a ∷ others)
  above_taken true a row rows others h l k = h
  above_taken false a row rows others h l k = (l, k)

  above-begun : (holder : Option Session) (rows : Rows) → WaitAbove t n rows → WaitAbove t n (begun holder rows)
  above-begun holder [] h = tt
  above-begun holder (Waiting a ∷ rows) h = above_taken (may_begin holder a) a (InWork a) rows (begun holder rows) h.1 h.0 (above-begun holder rows h.1)
  above-begun holder (InWork a ∷ rows) h = above-begun holder rows h
  above-begun holder (Gone id s q ∷ rows) h = above-begun holder rows h

  above-refused : (r : Reply) (holder : Option Session) (rows : Rows) → WaitAbove t n rows → WaitAbove t n (refused_at_begin r holder rows)
  above-refused r holder [] h = tt
  above-refused r holder (Waiting a ∷ rows) h = above_taken (may_begin holder a) a (Gone a.id a.session r) rows (refused_at_begin r holder rows) h.1 h.0 (above-refused r holder rows h.1)
  above-refused r holder (InWork a ∷ rows) h = above-refused r holder rows h
  above-refused r holder (Gone id s q ∷ rows) h = above-refused r holder rows h

  above-finished : (r : Reply) (rows : Rows) → WaitAbove t n rows → WaitAbove t n (finished r rows)
  above-finished r [] h = tt
  above-finished r (Waiting a ∷ rows) h = (h.0, above-finished r rows h.1)
  above-finished r (InWork a ∷ rows) h = h
  above-finished r (Gone id s q ∷ rows) h = above-finished r rows h

  -- ids that rise are above
  above-numbered : (m : ℕ) (rows : Rows) → n < m → NumberedFrom m rows → WaitAbove t n rows
  above-numbered m [] l h = tt
  above-numbered m (Waiting a ∷ rows) l h = (λ own. omega (arith, l, h.0), above-numbered (m + 1) rows (omega (arith, l)) h.1)
  above-numbered m (InWork a ∷ rows) l h = above-numbered (m + 1) rows (omega (arith, l)) h.1
  above-numbered m (Gone id s q ∷ rows) l h = above-numbered (m + 1) rows (omega (arith, l)) h.1

eligible_may : (holder : Option Session) (rows : Rows) (a : Request Command) → eligible holder rows ≡ Some a → may_begin holder a ≡ true
eligible_may holder [] a e = absurd (none_some a e)
eligible_may holder (Waiting c ∷ rows) a e = at_first (may_begin holder c) refl e (eligible_may holder rows a)
  where
    at_first : (b : Bool) → may_begin holder c ≡ b → (if b then Some c else eligible holder rows) ≡ Some a → (eligible holder rows ≡ Some a → may_begin holder a ≡ true) → may_begin holder a ≡ true
    at_first true e is rest = subst (λ (x : Request Command). may_begin holder x ≡ true) (same_request c a is) e
    at_first false e is rest = rest is
eligible_may holder (InWork c ∷ rows) a e = eligible_may holder rows a e
eligible_may holder (Gone id s q ∷ rows) a e = eligible_may holder rows a e

-- one session's requests may begin all or none
may_of_session : (holder : Option Session) (a b : Request Command) → same_session a.session b.session ≡ true → may_begin holder a ≡ true → may_begin holder b ≡ true
may_of_session None a b same may = refl
may_of_session (Some u) a b same may = same_through b.session a.session u (same_turned a.session b.session same) may

-- once the eligible request of a session is in work, the others of that session that wait have greater ids
above-brought : (t : Session) (holder : Option Session) (m : ℕ) (rows : Rows) (a : Request Command) → same_session a.session t ≡ true → NumberedFrom m rows → eligible holder rows ≡ Some a → WaitAbove t a.id (begun holder rows)
above-brought t holder m [] a own h e = tt
above-brought t holder m (Waiting c ∷ rows) a own h e = at_first (may_begin holder c) refl e (above-brought t holder (m + 1) rows a own h.1)
  where
    at_first : (b : Bool) → may_begin holder c ≡ b → (if b then Some c else eligible holder rows) ≡ Some a → (eligible holder rows ≡ Some a → WaitAbove t a.id (begun holder rows)) → WaitAbove t a.id (if b then InWork c ∷ rows else Waiting c ∷ begun holder rows)
    at_first true e is rest =
        let same : c.id ≡ a.id = ap (λ (x : Request Command). x.id) (same_request c a is) in
        above-numbered t a.id (m + 1) rows (omega (arith, same, h.0)) h.1
    at_first false e is rest = (λ mine. absurd (true_is_not_false (may_begin holder c) (may_of_session holder a c (same_through a.session t c.session own (same_turned c.session t mine)) (eligible_may holder rows a is)) e), rest is)
above-brought t holder m (InWork c ∷ rows) a own h e = above-brought t holder (m + 1) rows a own h.1 e
above-brought t holder m (Gone id s q ∷ rows) a own h e = above-brought t holder (m + 1) rows a own h.1 e

-- rows are not taken away
length-ended_where : (test : Request Command → Bool) (r : Reply) (rows : Rows) → length (ended_where test r rows) ≡ length rows
length-ended_where test r [] = refl
length-ended_where test r (Waiting a ∷ rows) = omega (arith, length-ended_where test r rows)
length-ended_where test r (InWork a ∷ rows) = omega (arith, length-ended_where test r rows)
length-ended_where test r (Gone id s q ∷ rows) = omega (arith, length-ended_where test r rows)

length-begun_as : (f : Request Command → RequestRow Command Reply) (holder : Option Session) (rows : Rows) → length (begun_as f holder rows) ≡ length rows
length-begun_as f holder [] = refl
length-begun_as f holder (Waiting a ∷ rows) = taken (may_begin holder a) (length-begun_as f holder rows)
  where
    taken : (b : Bool) → length (begun_as f holder rows) ≡ length rows → length (if b then f a ∷ rows else Waiting a ∷ begun_as f holder rows) ≡ length (Waiting a ∷ rows)
    taken true e = omega arith
    taken false e = omega (arith, e)
length-begun_as f holder (InWork a ∷ rows) = omega (arith, length-begun_as f holder rows)
length-begun_as f holder (Gone id s q ∷ rows) = omega (arith, length-begun_as f holder rows)

length-finished : (r : Reply) (rows : Rows) → length (finished r rows) ≡ length rows
length-finished r [] = refl
length-finished r (Waiting a ∷ rows) = omega (arith, length-finished r rows)
length-finished r (InWork a ∷ rows) = omega arith
length-finished r (Gone id s q ∷ rows) = omega (arith, length-finished r rows)

length-push : (rows : Rows) (a : Request Command) → length (rows ++ Waiting a ∷ []) ≡ length rows + 1
length-push [] a = refl
length-push (row ∷ rows) a = omega (arith, length-push rows a)

-- what was begun last of a session, and what waits: ids that were drawn, and all that wait are above
record Above (t : Session) (n : ℕ) (rows : Rows) : Type 0 where
  drawn : n ≤ length rows
  wait : WaitAbove t n rows

above_caused : (set : Setting) (h : Flat) (s : Step) (w : DiskWord) (t : Session) (n : ℕ) (after : Rows) (outs : List Out) → Caused set h s w after outs → Above t n h.shared.requests → Above t n after
above_caused set h s w t n after outs (Nothing e o) k = subst (Above t n) (sym e) k
above_caused set h s w t n after outs (Submitted u limit c at ok e o) k =
    let more : length (h.shared.requests ++ Waiting (record { id = length h.shared.requests + 1; session = u; submitted = h.shared.clock; limit = limit; command = c }) ∷ []) ≡ length h.shared.requests + 1 = length-push h.shared.requests _ in
    subst (Above t n) (sym e) (record { drawn = omega (arith, more, k.drawn); wait = above-push t n h.shared.requests _ (omega (arith, k.drawn)) k.wait })
above_caused set h s w t n after outs (EndedMany test r why e o) k =
    let same : length (ended_where test (reply.No r) h.shared.requests) ≡ length h.shared.requests = length-ended_where test (reply.No r) h.shared.requests in
    subst (Above t n) (sym e) (record { drawn = omega (arith, same, k.drawn); wait = above-ended_where t n test (reply.No r) h.shared.requests k.wait })
above_caused set h s w t n after outs (Began a at none some e o) k =
    let same : length (begun (holder_of h.shared.line) h.shared.requests) ≡ length h.shared.requests = length-begun_as (λ x. InWork x) (holder_of h.shared.line) h.shared.requests in
    subst (Above t n) (sym e) (record { drawn = omega (arith, same, k.drawn); wait = above-begun t n (holder_of h.shared.line) h.shared.requests k.wait })
above_caused set h s w t n after outs (RefusedEntry a entry r at none some is e o) k =
    let same : length (refused_at_begin (reply.No r) (holder_of h.shared.line) h.shared.requests) ≡ length h.shared.requests = length-begun_as (λ x. Gone x.id x.session (reply.No r)) (holder_of h.shared.line) h.shared.requests in
    subst (Above t n) (sym e) (record { drawn = omega (arith, same, k.drawn); wait = above-refused t n (reply.No r) (holder_of h.shared.line) h.shared.requests k.wait })
above_caused set h s w t n after outs (EndedOne a r heard work why e o) k =
    let same : length (finished r h.shared.requests) ≡ length h.shared.requests = length-finished r h.shared.requests in
    subst (Above t n) (sym e) (record { drawn = omega (arith, same, k.drawn); wait = above-finished t n r h.shared.requests k.wait })

-- the eligible request is above, and its id was drawn
record Eligible (t : Session) (n m : ℕ) (rows : Rows) (a : Request Command) : Type 0 where
  own_above : same_session a.session t ≡ true → n < a.id
  drawn : a.id < m + length rows

eligible_above : (t : Session) (n m : ℕ) (holder : Option Session) (rows : Rows) (a : Request Command) → NumberedFrom m rows → WaitAbove t n rows → eligible holder rows ≡ Some a → Eligible t n m rows a
eligible_above t n m holder [] a ids h e = absurd (none_some a e)
eligible_above t n m holder (Waiting c ∷ rows) a ids h e = at_first (may_begin holder c) e (eligible_above t n (m + 1) holder rows a ids.1 h.1)
  where
    at_first : (b : Bool) → (if b then Some c else eligible holder rows) ≡ Some a → (eligible holder rows ≡ Some a → Eligible t n (m + 1) rows a) → Eligible t n m (Waiting c ∷ rows) a
    at_first true is rest = subst (Eligible t n m (Waiting c ∷ rows)) (same_request c a is) (record { own_above = h.0; drawn = omega (arith, ids.0) })
    at_first false is rest = let later = rest is in record { own_above = later.own_above; drawn = omega (arith, later.drawn) }
eligible_above t n m holder (InWork c ∷ rows) a ids h e =
    let later = eligible_above t n (m + 1) holder rows a ids.1 h e in
    record { own_above = later.own_above; drawn = omega (arith, later.drawn) }
eligible_above t n m holder (Gone id s q ∷ rows) a ids h e =
    let later = eligible_above t n (m + 1) holder rows a ids.1 h e in
    record { own_above = later.own_above; drawn = omega (arith, later.drawn) }

-- numbers that rise, from above this one
abbrev RiseAbove : ℕ → List ℕ → Type 0
RiseAbove n [] = Unit {0}
RiseAbove n (x ∷ xs) = (n < x) × RiseAbove x xs

increasing : (n : ℕ) (xs : List ℕ) → RiseAbove n xs → IsStrictlyIncreasing xs
increasing n [] h k l = absurd (none k l)
  where
    none : (k : ℕ) → k + 1 < 0 → ⊥
    none k l = omega (arith, l)
increasing n (x ∷ []) h k l = absurd (none k l)
  where
    none : (k : ℕ) → k + 1 < 1 → ⊥
    none k l = omega (arith, l)
increasing n (x ∷ y ∷ xs) h zero l = h.1.0
increasing n (x ∷ y ∷ xs) h (suc k) l =
    let e : suc k + 1 ≡ suc (k + 1) = omega arith in
    rw e (increasing x (y ∷ xs) h.1 k (omega (arith, l)))

order_step : (t : Session) (n : ℕ) (h : Flat) (s : Step) (after : Rows) (rest : List (Request Command)) → Brings h s after → Numbered h → Above t n h.shared.requests → Above t n after → ((m : ℕ) → Above t m after → RiseAbove m (ids_of t rest))
    → RiseAbove n (ids_of t (brought_into (request_in_work h.shared.requests) (request_in_work after) ++ rest))
order_step t n h s after rest (BringsNone e) ids k kept go = subst (λ (xs : List (Request Command)). RiseAbove n (ids_of t (xs ++ rest))) (sym e) (go n kept)
order_step t n h s after rest (BringsOne a at none some e o) ids k kept go = subst (λ (xs : List (Request Command)). RiseAbove n (ids_of t (xs ++ rest))) (sym o) (own_or_not (same_session a.session t) refl)
  where
    found : Eligible t n 1 h.shared.requests a
    found = eligible_above t n 1 (holder_of h.shared.line) h.shared.requests a ids k.wait some

    lasting : length after ≡ length h.shared.requests
    lasting = ap (λ (xs : Rows). length xs) e ∙ length-begun_as (λ x. InWork x) (holder_of h.shared.line) h.shared.requests

    own_or_not : (c : Bool) → same_session a.session t ≡ c → RiseAbove n (map (λ (x : Request Command). x.id) (cond c (a ∷ filter (λ (x : Request Command). same_session x.session t) rest) (filter (λ (x : Request Command). same_session x.session t) rest)))
    own_or_not true own = (found.own_above own, go a.id (record { drawn = omega (arith, found.drawn, lasting); wait = subst (WaitAbove t a.id) (sym e) (above-brought t (holder_of h.shared.line) 1 h.shared.requests a own ids some) }))
    own_or_not false own = go n kept

order_from : (set : Setting) (t : Session) (h : Flat) (acts : List Act) (n : ℕ) → Numbered h → Above t n h.shared.requests → RiseAbove n (ids_of t (brought_from set h acts))
order_from set t h [] n ids k = tt
order_from set t h (act ∷ acts) n ids k =
    let one = next set h act.step act.word in
    let caused = next_caused set h act.step act.word in
    order_step t n h act.step one.state.shared.requests (brought_from set one.state acts) (next_brings set h act.step act.word) ids k
    (above_caused set h act.step act.word t n one.state.shared.requests one.outs caused k)
    (λ m above. order_from set t one.state acts m (moves_numbered h.shared.requests one.state.shared.requests one.outs (moves_next set h act.step act.word) ids) above)

pub begun_in_order : (set : Setting) (start : Flat) (acts : List Act) (t : Session) → IsStart start → IsStrictlyIncreasing (ids_of t (brought_from set start acts))
begun_in_order set start acts t (inl e) = increasing 0 _ (subst (λ (h : Flat). RiseAbove 0 (ids_of t (brought_from set h acts))) (sym e) (order_from set t opening acts 0 tt (record { drawn = omega arith; wait = tt })))
begun_in_order set start acts t (inr e) = increasing 0 _ (subst (λ (h : Flat). RiseAbove 0 (ids_of t (brought_from set h acts))) (sym e) (order_from set t ready_opening acts 0 tt (record { drawn = omega arith; wait = tt })))
