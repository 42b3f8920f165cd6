-- No pending request is overdue, in any run.
use Rattle.flat_machine.proofs.RequestMoves.{Rows}
use Rattle.flat_machine.proofs.RequestRuns.{from_start}
use Rattle.flat_machine.proofs.StepCauses.{Began, Caused, EndedMany, EndedOne, Nothing, RefusedEntry, Submitted, next_caused}
use Rattle.flat_machine.proofs.SteadyWalk.{clock_after, steady}
use Rattle.flat_machine.specs.Facts.{IsStart}
use Rattle.flat_machine.specs.Machine.{next, run_from, Act}
use Rattle.flat_machine.specs.Settings.{Setting}
use Rattle.flat_machine.specs.State.{Flat}
use Rattle.device_lock.specs.LockLine.{holder_of}
use Rattle.request_queue.specs.Requests.{begun, ended_where, finished, is_due, may_begin, pending_where, refused_at_begin}
use Rattle.request_queue.specs.declared.requests.Request.{Request}
use Rattle.request_queue.specs.declared.requests.RequestRow.{RequestRow}
use Rattle.request_queue.specs.declared.requests.RequestRow.TheVariants.{Gone, InWork, Waiting}
use Rattle.pad_steps.specs.declared.answers.Out.{Out}
use Rattle.pad_steps.specs.declared.answers.Refusal.TheVariants as refusal
use Rattle.pad_steps.specs.declared.answers.Reply.{Reply}
use Rattle.pad_steps.specs.declared.answers.Reply.TheVariants as reply
use Rattle.pad_steps.specs.declared.commands.Command.{Command}
use Rattle.pad_steps.specs.declared.steps.DiskWord.{DiskWord}
use Rattle.pad_steps.specs.declared.steps.Step.{Step}
use Rattle.pad_steps.specs.declared.steps.Step.TheVariants as step
use Rattle.pad_words.specs.declared.numbers.Session.{Session}
use Rattle.std.proofs.Common.{ap, arith, subst, sym, ◌∙◌}
use Rattle.std.proofs.lemmas.Bool.Decides.{nat_tests}
use Rattle.std.specs.Prelude.{Bool, List, Option, [], false, if◌then◌else◌, nat_le, not, refl, true, ℕ, ◌&&◌, ◌++◌, ◌+◌, ◌-◌, ◌==◌, ◌∷◌, ◌≡◌}

-- no pending row passes the test
abbrev NonePends : (Request Command → Bool) → Rows → Type 0
NonePends test [] = Unit {0}
NonePends test (Waiting a ∷ rows) = (test a ≡ false) × NonePends test rows
NonePends test (InWork a ∷ rows) = (test a ≡ false) × NonePends test rows
NonePends test (Gone id s q ∷ rows) = NonePends test rows

none_found : (test : Request Command → Bool) (rows : Rows) → NonePends test rows → pending_where test rows ≡ []
none_found test [] h = refl
none_found test (Waiting a ∷ rows) h = ap (λ (b : Bool). if b then a ∷ pending_where test rows else pending_where test rows) h.0 ∙ none_found test rows h.1
none_found test (InWork a ∷ rows) h = ap (λ (b : Bool). if b then a ∷ pending_where test rows else pending_where test rows) h.0 ∙ none_found test rows h.1
none_found test (Gone id s q ∷ rows) h = none_found test rows h

module _ (test : Request Command → Bool) where
  none-push : (rows : Rows) (a : Request Command) → test a ≡ false → NonePends test rows → NonePends test (rows ++ Waiting a ∷ [])
  none-push [] a e h = (e, tt)
  none-push (Waiting b ∷ rows) a e h = (h.0, none-push rows a e h.1)
  none-push (InWork b ∷ rows) a e h = (h.0, none-push rows a e h.1)
  none-push (Gone id s q ∷ rows) a e h = none-push rows a e h

  none_waiting : (b : Bool) (a : Request Command) (r : Reply) (rows : Rows) → (b ≡ false → test a ≡ false) → NonePends test rows → NonePends test ((if b then Gone a.id a.session r else Waiting a) ∷ rows)
  none_waiting true a r rows e h = h
  none_waiting false a r rows e h = (e refl, h)

  none_work : (b : Bool) (a : Request Command) (r : Reply) (rows : Rows) → (b ≡ false → test a ≡ false) → NonePends test rows → NonePends test ((if b then Gone a.id a.session r else InWork a) ∷ rows)
  none_work true a r rows e h = h
  none_work false a r rows e h = (e refl, h)

  none-ended_where : (ends : Request Command → Bool) (r : Reply) (rows : Rows) → NonePends test rows → NonePends test (ended_where ends r rows)
  none-ended_where ends r [] h = tt
  none-ended_where ends r (Waiting a ∷ rows) h = none_waiting (ends a) a r (ended_where ends r rows) (λ e. h.0) (none-ended_where ends r rows h.1)
  none-ended_where ends r (InWork a ∷ rows) h = none_work (ends a) a r (ended_where ends r rows) (λ e. h.0) (none-ended_where ends r rows h.1)
  none-ended_where ends r (Gone id s q ∷ rows) h = none-ended_where ends r rows h

  -- those that pass the test end, and so none of them is left
  none_left : (r : Reply) (rows : Rows) → NonePends test (ended_where test r rows)
  none_left r [] = tt
  none_left r (Waiting a ∷ rows) = none_waiting (test a) a r (ended_where test r rows) (λ e. e) (none_left r rows)
  none_left r (InWork a ∷ rows) = none_work (test a) a r (ended_where test r rows) (λ e. e) (none_left r rows)
  none_left r (Gone id s q ∷ rows) = none_left r rows

  none_taken : (b : Bool) (a : Request Command) (row : RequestRow Command Reply) (rows others : Rows) → test a ≡ false → NonePends test (row ∷ rows) → NonePends test others → NonePends test (if b then row ∷ rows else Waiting a ∷ others)
  none_taken true a row rows others e h k = h
  none_taken false a row rows others e h k = (e, k)

  none-begun : (holder : Option Session) (rows : Rows) → NonePends test rows → NonePends test (begun holder rows)
  none-begun holder [] h = tt
  none-begun holder (Waiting a ∷ rows) h = none_taken (may_begin holder a) a (InWork a) rows (begun holder rows) h.0 h (none-begun holder rows h.1)
  none-begun holder (InWork a ∷ rows) h = (h.0, none-begun holder rows h.1)
  none-begun holder (Gone id s q ∷ rows) h = none-begun holder rows h

  none-refused : (r : Reply) (holder : Option Session) (rows : Rows) → NonePends test rows → NonePends test (refused_at_begin r holder rows)
  none-refused r holder [] h = tt
  none-refused r holder (Waiting a ∷ rows) h = none_taken (may_begin holder a) a (Gone a.id a.session r) rows (refused_at_begin r holder rows) h.0 h.1 (none-refused r holder rows h.1)
  none-refused r holder (InWork a ∷ rows) h = (h.0, none-refused r holder rows h.1)
  none-refused r holder (Gone id s q ∷ rows) h = none-refused r holder rows h

  none-finished : (r : Reply) (rows : Rows) → NonePends test rows → NonePends test (finished r rows)
  none-finished r [] h = tt
  none-finished r (Waiting a ∷ rows) h = (h.0, none-finished r rows h.1)
  none-finished r (InWork a ∷ rows) h = h.1
  none-finished r (Gone id s q ∷ rows) h = none-finished r rows h

-- a request that is submitted now is not due
new_not_due : (clock limit : ℕ) → (not (limit == 0) && nat_le limit (clock - clock)) ≡ false
new_not_due clock limit = grind (arith, nat_tests)

abbrev NoneDue : Flat → Type 0
NoneDue h = NonePends (is_due h.shared.clock) h.shared.requests

-- a step leaves none that is due at the clock before it
due_caused : (set : Setting) (h : Flat) (s : Step) (w : DiskWord) (after : Rows) (outs : List Out) → Caused set h s w after outs → NoneDue h → NonePends (is_due h.shared.clock) after
due_caused set h s w after outs (Nothing e o) k = subst (NonePends (is_due h.shared.clock)) (sym e) k
due_caused set h s w after outs (Submitted t limit c at ok e o) k = subst (NonePends (is_due h.shared.clock)) (sym e) (none-push (is_due h.shared.clock) h.shared.requests _ (new_not_due h.shared.clock limit) k)
due_caused set h s w after outs (EndedMany test r why e o) k = subst (NonePends (is_due h.shared.clock)) (sym e) (none-ended_where (is_due h.shared.clock) test (reply.No r) h.shared.requests k)
due_caused set h s w after outs (Began a at none some e o) k = subst (NonePends (is_due h.shared.clock)) (sym e) (none-begun (is_due h.shared.clock) (holder_of h.shared.line) h.shared.requests k)
due_caused set h s w after outs (RefusedEntry a entry r at none some is e o) k = subst (NonePends (is_due h.shared.clock)) (sym e) (none-refused (is_due h.shared.clock) (reply.No r) (holder_of h.shared.line) h.shared.requests k)
due_caused set h s w after outs (EndedOne a r heard work why e o) k = subst (NonePends (is_due h.shared.clock)) (sym e) (none-finished (is_due h.shared.clock) r h.shared.requests k)

due_same : (set : Setting) (h : Flat) (s : Step) (w : DiskWord) → clock_after s h.shared.clock ≡ h.shared.clock → NoneDue h → NoneDue (next set h s w).state
due_same set h s w e k = subst (λ (c : ℕ). NonePends (is_due c) (next set h s w).state.shared.requests) (sym ((steady set h s w).clock ∙ e)) (due_caused set h s w (next set h s w).state.shared.requests (next set h s w).outs (next_caused set h s w) k)

due_step : (set : Setting) (h : Flat) (s : Step) (w : DiskWord) → NoneDue h → NoneDue (next set h s w).state
due_step set h (step.Open t) w k = due_same set h (step.Open t) w refl k
due_step set h (step.Close t) w k = due_same set h (step.Close t) w refl k
due_step set h (step.Listen t c) w k = due_same set h (step.Listen t c) w refl k
due_step set h (step.Lock t) w k = due_same set h (step.Lock t) w refl k
due_step set h (step.Unlock t) w k = due_same set h (step.Unlock t) w refl k
due_step set h (step.Submit t limit c) w k = due_same set h (step.Submit t limit c) w refl k
due_step set h (step.Cancel t id) w k = due_same set h (step.Cancel t id) w refl k
due_step set h step.Begin w k = due_same set h step.Begin w refl k
due_step set h step.Finish w k = due_same set h step.Finish w refl k
due_step set h (step.Press key) w k = due_same set h (step.Press key) w refl k
due_step set h (step.Tick n) w k = none_left (is_due (h.shared.clock + n)) (reply.No refusal.Timeout) h.shared.requests
due_step set h (step.Ask t q) w k = due_same set h (step.Ask t q) w refl k
due_step set h step.Off w k = due_same set h step.Off w refl k
due_step set h step.Boot w k = due_same set h step.Boot w refl k

pub tick_leaves_none : (set : Setting) (h : Flat) (n : ℕ) (w : DiskWord) → pending_where (is_due (next set h (step.Tick n) w).state.shared.clock) (next set h (step.Tick n) w).state.shared.requests ≡ []
tick_leaves_none set h n w = none_found (is_due (h.shared.clock + n)) (ended_where (is_due (h.shared.clock + n)) (reply.No refusal.Timeout) h.shared.requests) (none_left (is_due (h.shared.clock + n)) (reply.No refusal.Timeout) h.shared.requests)

pub none_overdue : (set : Setting) (start : Flat) (acts : List Act) → IsStart start → pending_where (is_due (run_from set start acts).shared.clock) (run_from set start acts).shared.requests ≡ []
none_overdue set start acts begins = none_found (is_due (run_from set start acts).shared.clock) (run_from set start acts).shared.requests (from_start set NoneDue (due_step set) tt tt start acts begins)
