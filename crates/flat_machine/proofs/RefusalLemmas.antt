-- A refusal changes the row of its request and nothing else.
use Rattle.flat_machine.specs.declared.types.Owner.{Owner}
use Rattle.flat_machine.specs.declared.types.Work.TheVariants as work
use Rattle.flat_machine.specs.declared.types.Work.{Work}
use Rattle.flat_machine.specs.Commands.{work_of}
use Rattle.flat_machine.proofs.PinHeld.{undropped}
use Rattle.entry_core.specs.Entries.{Entry, entry_of, entry_refusal}
use Rattle.flat_machine.specs.EntrySteps.{begin_as, begin_entry, begin_with, first_of, next_begin}
use Rattle.flat_machine.specs.FinishSteps.{finish_with, next_finish, performs}
use Rattle.flat_machine.specs.Machine.{next}
use Rattle.flat_machine.specs.RefusalFacts.{ChangesRequestsAlone, refusal_in}
use Rattle.flat_machine.specs.RequestSteps.{submit_by, submit_refusal}
use Rattle.request_queue.specs.Requests.{eligible, finished, refused_at_begin, request_in_work}
use Rattle.device_lock.specs.LockLine.{holder_of}
use Rattle.flat_machine.specs.State.{Flat, Shared, Said, after_said, device_refusal, is_off, owner_of, refuses, says, unchanged}
use Rattle.flat_machine.specs.Settings.{Setting}
use Rattle.request_queue.specs.declared.requests.Request.{Request}
use Rattle.request_queue.specs.declared.requests.RequestRow.{RequestRow}
use Rattle.pad_steps.specs.declared.answers.Refusal.{Refusal}
use Rattle.pad_steps.specs.declared.answers.Reply.{Reply}
use Rattle.pad_steps.specs.declared.commands.Command.{Command}
use Rattle.pad_steps.specs.declared.steps.DiskWord.{DiskWord}
use Rattle.pad_words.specs.declared.numbers.Session.{Session}
use Rattle.std.proofs.Common.{ap, subst, sym, ◌∙◌}
use Rattle.std.specs.Prelude.{Bool, List, None, Option, Some, cond, false, length, refl, true, ℕ, ◌≡◌}
use Rattle.pad_steps.specs.declared.answers.Out.TheVariants as out
use Rattle.pad_steps.specs.declared.answers.Reply.TheVariants as reply
use Rattle.pad_steps.specs.declared.steps.Step.TheVariants as step

pub refused_submit : (set : Setting) (h : Flat) (s : Session) (limit : ℕ) (c : Command) (why : Refusal) (w : DiskWord) → submit_refusal set.pin_rules h.shared s c ≡ Some why → next set h (step.Submit s limit c) w ≡ after_said h (says h.shared (out.Refused s why))
refused_submit set h s limit c why w e = ap (λ (o : Option Refusal). after_said h (submit_by o h.shared s limit c)) e

-- an entry that is refused as it begins

abbrev RowAlone : Shared → List (RequestRow Command Reply) → Said → Type 0
RowAlone p rows x = (x.shared ≡ record p { requests = rows }) × (x.drops_pin ≡ false)

changes_row : (h : Flat) (rows : List (RequestRow Command Reply)) (x : Said) → RowAlone h.shared rows x → ChangesRequestsAlone h (after_said h x).state rows
changes_row h rows x alone = record { shared = alone.0; held = undropped x.drops_pin h.held alone.1 }

begin_refused : (p : Shared) (a : Request Command) (e : Entry) (o : Option Refusal) (why : Refusal) → o ≡ Some why → RowAlone p (refused_at_begin (reply.No why) (holder_of p.line) p.requests) (begin_entry p a e o)
begin_refused p a e None why is = cc
begin_refused p a e (Some r) why is = subst (λ (x : Refusal). RowAlone p (refused_at_begin (reply.No x) (holder_of p.line) p.requests) (begin_entry p a e (Some r))) (same_refusal r why is) (refl, refl)
  where
    same_refusal : (r why : Refusal) → Some r ≡ Some why → r ≡ why
    same_refusal r why e = cc

begin_as_refused : (p : Shared) (a : Request Command) (o : Option Entry) (e : Entry) (why : Refusal) → o ≡ Some e → first_of (device_refusal p.device) (entry_refusal e) ≡ Some why → RowAlone p (refused_at_begin (reply.No why) (holder_of p.line) p.requests) (begin_as p a o)
begin_as_refused p a None e why is refuses_it = cc
begin_as_refused p a (Some f) e why is refuses_it = begin_refused p a f (first_of (device_refusal p.device) (entry_refusal f)) why (ap (λ (x : Entry). first_of (device_refusal p.device) (entry_refusal x)) (same_entry f e is) ∙ refuses_it)
  where
    same_entry : (f e : Entry) → Some f ≡ Some e → f ≡ e
    same_entry f e s = cc

on_if : (p : Shared) (rows : List (RequestRow Command Reply)) (b : Bool) (x : Said) → b ≡ false → RowAlone p rows x → RowAlone p rows (cond b (unchanged p) x)
on_if p rows true x e alone = cc
on_if p rows false x e alone = alone

begin_with_refused : (p : Shared) (o q : Option (Request Command)) (a : Request Command) (e : Entry) (why : Refusal) → o ≡ None → q ≡ Some a → entry_of a.command ≡ Some e → first_of (device_refusal p.device) (entry_refusal e) ≡ Some why → RowAlone p (refused_at_begin (reply.No why) (holder_of p.line) p.requests) (begin_with p o q)
begin_with_refused p o q a e why none some is refuses_it = subst (λ (x : Option (Request Command)). RowAlone p (refused_at_begin (reply.No why) (holder_of p.line) p.requests) (begin_with p x q)) (sym none)
    (subst (λ (x : Option (Request Command)). RowAlone p (refused_at_begin (reply.No why) (holder_of p.line) p.requests) (begin_with p None x)) (sym some) (begin_as_refused p a (entry_of a.command) e why is refuses_it))

pub refused_entry : (set : Setting) (h : Flat) (a : Request Command) (e : Entry) (why : Refusal) (w : DiskWord) → is_off h.shared.device ≡ false → request_in_work h.shared.requests ≡ None → eligible (holder_of h.shared.line) h.shared.requests ≡ Some a → entry_of a.command ≡ Some e → first_of (device_refusal h.shared.device) (entry_refusal e) ≡ Some why
    → ChangesRequestsAlone h (next set h step.Begin w).state (refused_at_begin (reply.No why) (holder_of h.shared.line) h.shared.requests)
refused_entry set h a e why w on none some is refuses_it = changes_row h _ (next_begin h.shared) (on_if h.shared _ (is_off h.shared.device) _ on (begin_with_refused h.shared (request_in_work h.shared.requests) (eligible (holder_of h.shared.line) h.shared.requests) a e why none some is refuses_it))

-- a command that is refused as it is finished

no_refusal : (why : Refusal) → None ≡ Some why → ⊥
no_refusal why e = cc

refused_performs : (set : Setting) (p : Shared) (held : List ℕ) (a : Owner) (v : Work) (w : DiskWord) (why : Refusal) → refusal_in v ≡ Some why → RowAlone p (finished (reply.No why) p.requests) (performs set p held a v w)
refused_performs set p held a work.Waits w why e = absurd (no_refusal why e)
refused_performs set p held a (work.Refuse r accused) w why e = subst (λ (x : Refusal). RowAlone p (finished (reply.No x) p.requests) (refuses p a r accused)) (same_refusal r why e) (refl, refl)
  where
    same_refusal : (r why : Refusal) → Some r ≡ Some why → r ≡ why
    same_refusal r why e = cc
refused_performs set p held a (work.Answer x) w why e = absurd (no_refusal why e)
refused_performs set p held a (work.Maintain on) w why e = absurd (no_refusal why e)
refused_performs set p held a (work.Keep slot row x from_part) w why e = absurd (no_refusal why e)
refused_performs set p held a (work.Erase slot) w why e = absurd (no_refusal why e)
refused_performs set p held a work.EraseAll w why e = absurd (no_refusal why e)
refused_performs set p held a (work.Release r first second draws) w why e = absurd (no_refusal why e)
refused_performs set p held a work.Load w why e = absurd (no_refusal why e)

pub refused_finish : (set : Setting) (h : Flat) (a : Request Command) (why : Refusal) (w : DiskWord) → request_in_work h.shared.requests ≡ Some a → refusal_in (work_of set h.shared (length h.held) a.command) ≡ Some why → ChangesRequestsAlone h (next set h step.Finish w).state (finished (reply.No why) h.shared.requests)
refused_finish set h a why w work e = changes_row h _ (next_finish set h.shared h.held w)
    (subst (λ (o : Option (Request Command)). RowAlone h.shared (finished (reply.No why) h.shared.requests) (finish_with set h.shared h.held o w)) (sym work) (refused_performs set h.shared h.held (owner_of a) (work_of set h.shared (length h.held) a.command) w why e))
