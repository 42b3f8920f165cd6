-- A step without a device call leaves the rows and the device; and no step but a Finish draws a fill word or brings a gone request back.
use Rattle.device_lock.specs.LockLine.{holder_of, holds}
use Rattle.entry_core.specs.Entries.{Entry, active_seen, after_value, digit_in, entered, entry_of, entry_refusal}
use Rattle.entry_core.specs.declared.seen.Seen.{Seen}
use Rattle.entry_core.specs.declared.seen.Seen.TheVariants.{Ended, Ignored, Took}
use Rattle.flat_machine.proofs.GoneRequests.{gone-begun, gone-ended_where, gone-finished, gone-refused_at_begin, gone-submitted}
use Rattle.flat_machine.proofs.PowerLemmas.{plan_of_any_count}
use Rattle.flat_machine.specs.Commands.{work_of}
use Rattle.flat_machine.specs.DiskFacts.{KeepsDevice, is_off_step}
use Rattle.flat_machine.specs.EntrySteps.{begin_as, begin_entry, begin_with, first_of, press_in, press_seen}
use Rattle.flat_machine.specs.FinishSteps.{finish_with, performs, plan_finish, plan_of}
use Rattle.flat_machine.specs.Kept.{Kept, KeptAfter, kept_press_in, kept_seen}
use Rattle.flat_machine.specs.Machine.{next, plan}
use Rattle.flat_machine.specs.Power.{Loading, Nothing, loads, powers_off}
use Rattle.flat_machine.specs.RequestSteps.{cancels, is_canceled, submit_by, submit_refusal}
use Rattle.flat_machine.specs.SessionSteps.{if_open}
use Rattle.flat_machine.specs.Settings.{Setting}
use Rattle.flat_machine.specs.State.{After, Flat, Running, Said, Shared, device_refusal, is_off, owner_of, running_entry, says, unchanged}
use Rattle.flat_machine.specs.declared.types.Owner.{Owner}
use Rattle.flat_machine.specs.declared.types.Work.TheVariants as work
use Rattle.flat_machine.specs.declared.types.Work.{Work}
use Rattle.key_source.specs.Keys.{has_key}
use Rattle.key_source.specs.declared.Key.{Key}
use Rattle.pad_steps.specs.declared.answers.Out.TheVariants as out
use Rattle.pad_steps.specs.declared.answers.Refusal.TheVariants as refusal
use Rattle.pad_steps.specs.declared.answers.Refusal.{Refusal}
use Rattle.pad_steps.specs.declared.answers.Reply.TheVariants as reply
use Rattle.pad_steps.specs.declared.answers.Told.TheVariants as told
use Rattle.pad_steps.specs.declared.commands.Command.{Command}
use Rattle.pad_steps.specs.declared.steps.DiskWord.{DiskWord}
use Rattle.pad_steps.specs.declared.steps.Step.TheVariants as step
use Rattle.pad_steps.specs.declared.steps.Step.{Step}
use Rattle.pad_words.specs.Numbers.{same_session}
use Rattle.pad_words.specs.declared.numbers.Session.{Session}
use Rattle.request_queue.specs.Requests.{eligible, gone_count, is_due, pending_where, request_in_work}
use Rattle.request_queue.specs.declared.requests.Request.{Request}
use Rattle.session_book.specs.Sessions.{is_open}
use Rattle.std.proofs.Common.{arith, ◌∙◌}
use Rattle.std.specs.Prelude.{Bool, List, None, Option, Some, [], cond, false, if◌then◌else◌, length, not, refl, true, ℕ, ◌&&◌, ◌+◌, ◌==◌, ◌≡◌, ◌≤◌}

-- rows and device stay, no fill word is drawn, and no request that is gone comes back
pub record Leaves (p x : Shared) : Type 0 where
  pub device : KeepsDevice p x
  pub drawn : x.drawn ≡ p.drawn
  pub gone : gone_count p.requests ≤ gone_count x.requests

pub keeps_itself : (p : Shared) → KeepsDevice p p
keeps_itself p = record { keys = refl; doubt = refl; loaded = refl; device = refl }

module _ (p : Shared) where
  -- a state that differs in requests, sessions, line, clock, part buffer or maintain alone
  leaves : (x : Shared) → x.keys ≡ p.keys → x.doubt ≡ p.doubt → x.loaded ≡ p.loaded → x.device ≡ p.device → x.drawn ≡ p.drawn → gone_count p.requests ≤ gone_count x.requests → Leaves p x
  leaves x keys doubt loaded device drawn gone = record { device = record { keys = keys; doubt = doubt; loaded = loaded; device = device }; drawn = drawn; gone = gone }

  leaves_itself : Leaves p p
  leaves_itself = leaves p refl refl refl refl refl (omega arith)

  leaves_if : (b : Bool) (x y : Said) → Leaves p x.shared → Leaves p y.shared → Leaves p (cond b x y).shared
  leaves_if true x y one other = one
  leaves_if false x y one other = other

  leaves_own : (s : Session) (x : Said) → Leaves p x.shared → Leaves p (if_open p s x).shared
  leaves_own s x one = leaves_if (is_open s p.sessions) x (says p (out.Told s (told.No refusal.NoSession))) one leaves_itself

  leaves_submit : (o : Option Refusal) (s : Session) (limit : ℕ) (c : Command) → Leaves p (submit_by o p s limit c).shared
  leaves_submit (Some r) s limit c = leaves_itself
  leaves_submit None s limit c = leaves _ refl refl refl refl refl (gone-submitted p.requests _)

  leaves_cancel : (s : Session) (id : ℕ) (found : List (Request Command)) → Leaves p (cancels p s id found).shared
  leaves_cancel s id found = leaves_if (not (id == 0) && (length found == 0)) _ _ leaves_itself (leaves _ refl refl refl refl refl (gone-ended_where (is_canceled p s id) (reply.No refusal.Canceled) p.requests))

  leaves_begin_entry : (a : Request Command) (e : Entry) (r : Option Refusal) → Leaves p (begin_entry p a e r).shared
  leaves_begin_entry a e (Some r) = leaves _ refl refl refl refl refl (gone-refused_at_begin (reply.No r) (holder_of p.line) p.requests)
  leaves_begin_entry a e None = leaves _ refl refl refl refl refl (gone-begun (holder_of p.line) p.requests)

  leaves_begin_as : (a : Request Command) (e : Option Entry) → Leaves p (begin_as p a e).shared
  leaves_begin_as a None = leaves _ refl refl refl refl refl (gone-begun (holder_of p.line) p.requests)
  leaves_begin_as a (Some e) = leaves_begin_entry a e (first_of (device_refusal p.device) (entry_refusal e))

  leaves_begin_with : (o q : Option (Request Command)) → Leaves p (begin_with p o q).shared
  leaves_begin_with (Some a) q = leaves_itself
  leaves_begin_with None None = leaves_itself
  leaves_begin_with None (Some a) = leaves_begin_as a (entry_of a.command)

  leaves_after : (b : Bool) (x y : After) → Leaves p x.state.shared → Leaves p y.state.shared → Leaves p (cond b x y).state.shared
  leaves_after true x y one other = one
  leaves_after false x y one other = other

  leaves_kept : (b : Bool) (x y : KeptAfter) → Leaves p x.state.shared → Leaves p y.state.shared → Leaves p (cond b x y).state.shared
  leaves_kept true x y one other = one
  leaves_kept false x y one other = other

leaves_seen : (set : Setting) (h : Flat) (current : Running) (k : Key) (seen : Seen) → Leaves h.shared (press_seen set.cipher h current k seen).state.shared
leaves_seen set h current k Ignored = leaves_itself h.shared
leaves_seen set h current k (Took s) = leaves_itself h.shared
leaves_seen set h current k (Ended s c) = leaves h.shared _ refl refl refl refl refl (gone-finished _ h.shared.requests)

leaves_press : (set : Setting) (h : Flat) (o : Option Running) (k : Key) → Leaves h.shared (press_in set.cipher h o k).state.shared
leaves_press set h None k = leaves_itself h.shared
leaves_press set h (Some current) k = leaves_after h.shared (has_key current.entry.active k) _ _ (leaves_seen set h current k (active_seen current.entry (length (entered current.entry h.presses)) k)) (leaves_itself h.shared)

leaves_kept_seen : (set : Setting) (kept : Kept) (current : Running) (digits : List ℕ) (seen : Seen) → Leaves kept.shared (kept_seen set kept current digits seen).state.shared
leaves_kept_seen set kept current digits Ignored = leaves_itself kept.shared
leaves_kept_seen set kept current digits (Took s) = leaves_itself kept.shared
leaves_kept_seen set kept current digits (Ended s c) = leaves kept.shared _ refl refl refl refl refl (gone-finished _ kept.shared.requests)

pub leaves_kept_press : (set : Setting) (kept : Kept) (o : Option Running) (k : Key) → Leaves kept.shared (kept_press_in set kept o k).state.shared
leaves_kept_press set kept None k = leaves_itself kept.shared
leaves_kept_press set kept (Some current) k =
    leaves_kept kept.shared (has_key current.entry.active k) _ _ (leaves_kept_seen set kept current (after_value current.entry (digit_in current.entry.kind k) k kept.digits) (active_seen current.entry (length kept.digits) k)) (leaves_itself kept.shared)

-- the step can neither call the disk nor switch it
abbrev pub is_still : Step → Bool
is_still step.Finish = false
is_still step.Off = false
is_still step.Boot = false
is_still other = true

pub leaves_next : (set : Setting) (h : Flat) (s : Step) (w : DiskWord) → is_still s ≡ true → Leaves h.shared (next set h s w).state.shared
leaves_next set h (step.Open s) w still = leaves_if h.shared (is_open s h.shared.sessions) _ _ (leaves_itself h.shared) (leaves h.shared _ refl refl refl refl refl (omega arith))
leaves_next set h (step.Close s) w still = leaves_own h.shared s _ (leaves h.shared _ refl refl refl refl refl (gone-ended_where (λ a. same_session a.session s) (reply.No refusal.Canceled) h.shared.requests))
leaves_next set h (step.Listen s c) w still = leaves_own h.shared s _ (leaves h.shared _ refl refl refl refl refl (omega arith))
leaves_next set h (step.Lock s) w still = leaves_own h.shared s _ (leaves h.shared _ refl refl refl refl refl (omega arith))
leaves_next set h (step.Unlock s) w still = leaves_own h.shared s _ (leaves_if h.shared (holds s h.shared.line) _ _ (leaves h.shared _ refl refl refl refl refl (omega arith)) (leaves_itself h.shared))
leaves_next set h (step.Submit s limit c) w still = leaves_submit h.shared (submit_refusal set.pin_rules h.shared s c) s limit c
leaves_next set h (step.Cancel s id) w still = leaves_own h.shared s _ (leaves_cancel h.shared s id (pending_where (is_canceled h.shared s id) h.shared.requests))
leaves_next set h step.Begin w still = leaves_if h.shared (is_off h.shared.device) _ _ (leaves_itself h.shared) (leaves_begin_with h.shared (request_in_work h.shared.requests) (eligible (holder_of h.shared.line) h.shared.requests))
leaves_next set h step.Finish w still = cc
leaves_next set h (step.Press k) w still = leaves_press set h (running_entry h.shared) k
leaves_next set h (step.Tick n) w still = leaves h.shared _ refl refl refl refl refl (gone-ended_where (is_due (h.shared.clock + n)) (reply.No refusal.Timeout) h.shared.requests)
leaves_next set h (step.Ask s q) w still = leaves_own h.shared s _ (leaves_itself h.shared)
leaves_next set h step.Off w still = cc
leaves_next set h step.Boot w still = cc

-- a state that has what is kept
abbrev pub flat_with : Kept → Flat
flat_with kept = record { shared = kept.shared; presses = []; held = kept.held }

-- works and steps without a call

pub performs_keeps : (set : Setting) (p : Shared) (held : List ℕ) (a : Owner) (v : Work) (w : DiskWord) → plan_of p v ≡ Nothing → KeepsDevice p (performs set p held a v w).shared
performs_keeps set p held a work.Waits w e = keeps_itself p
performs_keeps set p held a (work.Refuse r accused) w e = record { keys = refl; doubt = refl; loaded = refl; device = refl }
performs_keeps set p held a (work.Answer x) w e = record { keys = refl; doubt = refl; loaded = refl; device = refl }
performs_keeps set p held a (work.Maintain on) w e = record { keys = refl; doubt = refl; loaded = refl; device = refl }
performs_keeps set p held a (work.Keep slot row check from_part) w e = cc
performs_keeps set p held a (work.Erase slot) w e = cc
performs_keeps set p held a work.EraseAll w e = cc
performs_keeps set p held a (work.Release r first second draws) w e = record { keys = refl; doubt = refl; loaded = refl; device = refl }
performs_keeps set p held a work.Load w e = cc

finish_keeps : (set : Setting) (p : Shared) (held : List ℕ) (o : Option (Request Command)) (w : DiskWord) → plan_finish set p o ≡ Nothing → KeepsDevice p (finish_with set p held o w).shared
finish_keeps set p held None w e = keeps_itself p
finish_keeps set p held (Some a) w e = performs_keeps set p held (owner_of a) (work_of set p (length held) a.command) w (plan_of_any_count set p (length held) 0 a.command ∙ e)

off_keeps : (b : Bool) (p : Shared) → b ≡ true → KeepsDevice p (cond b (unchanged p) (powers_off p)).shared
off_keeps true p e = keeps_itself p
off_keeps false p e = cc

boot_keeps : (b : Bool) (p : Shared) (w : DiskWord) → (if b then Loading else Nothing) ≡ Nothing → KeepsDevice p (cond b (loads p w) (unchanged p)).shared
boot_keeps true p w e = cc
boot_keeps false p w e = keeps_itself p

pub next_keeps : (set : Setting) (h : Flat) (s : Step) (w : DiskWord) → plan set h.shared s ≡ Nothing → (is_off_step s ≡ true → is_off h.shared.device ≡ true) → KeepsDevice h.shared (next set h s w).state.shared
next_keeps set h (step.Open s) w e off = (leaves_next set h (step.Open s) w refl).device
next_keeps set h (step.Close s) w e off = (leaves_next set h (step.Close s) w refl).device
next_keeps set h (step.Listen s c) w e off = (leaves_next set h (step.Listen s c) w refl).device
next_keeps set h (step.Lock s) w e off = (leaves_next set h (step.Lock s) w refl).device
next_keeps set h (step.Unlock s) w e off = (leaves_next set h (step.Unlock s) w refl).device
next_keeps set h (step.Submit s limit c) w e off = (leaves_next set h (step.Submit s limit c) w refl).device
next_keeps set h (step.Cancel s id) w e off = (leaves_next set h (step.Cancel s id) w refl).device
next_keeps set h step.Begin w e off = (leaves_next set h step.Begin w refl).device
next_keeps set h step.Finish w e off = finish_keeps set h.shared h.held (request_in_work h.shared.requests) w e
next_keeps set h (step.Press k) w e off = (leaves_next set h (step.Press k) w refl).device
next_keeps set h (step.Tick n) w e off = (leaves_next set h (step.Tick n) w refl).device
next_keeps set h (step.Ask s q) w e off = (leaves_next set h (step.Ask s q) w refl).device
next_keeps set h step.Off w e off = off_keeps (is_off h.shared.device) h.shared (off refl)
next_keeps set h step.Boot w e off = boot_keeps (is_off h.shared.device) h.shared w e
