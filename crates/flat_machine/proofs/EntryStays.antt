-- After each kind of step the presses are dropped, or the entry that runs is the one that ran.
use Rattle.flat_machine.specs.declared.types.Owner.{Owner}
use Rattle.flat_machine.specs.Commands.{work_of}
use Rattle.entry_core.specs.Entries.{Entry, entry_of, entry_refusal}
use Rattle.flat_machine.specs.EntrySteps.{begin_as, begin_entry, begin_with, first_of, next_begin}
use Rattle.flat_machine.specs.FinishSteps.{deletes, finish_with, imports, inits, performs, reset_with}
use Rattle.key_table.specs.Changes.{changed, change_to, Change, erasure, erasures}
use Rattle.flat_machine.specs.Power.{loads, powers_off, replaces}
use Rattle.flat_machine.specs.RequestSteps.{cancels, is_canceled, next_tick, submit_by}
use Rattle.request_queue.specs.Requests.{eligible, ended_where, is_due, request_in_work}
use Rattle.pad_words.specs.Numbers.{same_session}
use Rattle.flat_machine.specs.SessionSteps.{if_open, next_close, next_open, next_unlock}
use Rattle.flat_machine.specs.Sessions.{grants_after}
use Rattle.device_lock.specs.LockLine.{holder_of, holds, out_of_line}
use Rattle.session_book.specs.Sessions.{is_open, without_session}
use Rattle.flat_machine.specs.State.{Shared, Said, device_refusal, dropping_pin, ends, is_off, owner_of, running_entry, running_in, says, with_outs_after, with_outs_before, work_ends}
use Rattle.flat_machine.specs.Settings.{Setting}
use Rattle.flat_machine.specs.declared.types.Work.{Work}
use Rattle.flat_machine.specs.declared.types.Work.TheVariants as work
use Rattle.request_queue.specs.declared.requests.Request.{Request}
use Rattle.flat_machine.specs.declared.types.Device.TheVariants.{Off}
use Rattle.request_queue.specs.declared.requests.RequestRow.{RequestRow}
use Rattle.request_queue.specs.declared.requests.RequestRow.TheVariants.{Gone, InWork, Waiting}
use Rattle.pad_steps.specs.declared.answers.Out.{Out}
use Rattle.pad_steps.specs.declared.answers.Refusal.{Refusal}
use Rattle.pad_steps.specs.declared.answers.Reply.{Reply}
use Rattle.pad_steps.specs.declared.commands.Command.{Command}
use Rattle.pad_steps.specs.declared.steps.DiskWord.{DiskWord}
use Rattle.pad_words.specs.declared.numbers.Session.{Session}
use Rattle.std.proofs.Common.{ap, ◌∙◌}
use Rattle.std.specs.Prelude.{Bool, List, None, Option, Some, [], cond, false, if◌then◌else◌, length, not, refl, slice_get, take, true, ℕ, ◌&&◌, ◌++◌, ◌+◌, ◌==◌, ◌∷◌, ◌≡◌}
use Rattle.pad_steps.specs.declared.answers.Out.TheVariants as out
use Rattle.pad_steps.specs.declared.answers.Refusal.TheVariants as refusal
use Rattle.pad_steps.specs.declared.answers.Reply.TheVariants as reply
use Rattle.pad_steps.specs.declared.answers.Told.TheVariants as told
use Rattle.pad_steps.specs.declared.steps.DiskWord.TheVariants as word

-- after a step the presses are gone, or the entry that runs is the one that ran
pub data KeepsEntry (p : Shared) (s : Said) : Type 0 where
  Drops : s.drops_presses ≡ true → KeepsEntry p s
  Keeps : running_entry s.shared ≡ running_entry p → KeepsEntry p s

pub keeps_if : (p : Shared) (b : Bool) (x y : Said) → KeepsEntry p x → KeepsEntry p y → KeepsEntry p (cond b x y)
keeps_if p true x y one other = one
keeps_if p false x y one other = other

pub keeps_outs_before : (p : Shared) (outs : List Out) (s : Said) → KeepsEntry p s → KeepsEntry p (with_outs_before outs s)
keeps_outs_before p outs s (Drops d) = Drops d
keeps_outs_before p outs s (Keeps e) = Keeps e

pub keeps_outs_after : (p : Shared) (outs : List Out) (s : Said) → KeepsEntry p s → KeepsEntry p (with_outs_after outs s)
keeps_outs_after p outs s (Drops d) = Drops d
keeps_outs_after p outs s (Keeps e) = Keeps e

pub keeps_dropping_pin : (p : Shared) (b : Bool) (s : Said) → KeepsEntry p s → KeepsEntry p (dropping_pin b s)
keeps_dropping_pin p b s (Drops d) = Drops d
keeps_dropping_pin p b s (Keeps e) = Keeps e

-- the same from a state that has the same requests
pub keeps_from : (p q : Shared) (s : Said) → running_entry q ≡ running_entry p → KeepsEntry q s → KeepsEntry p s
keeps_from p q s same (Drops d) = Drops d
keeps_from p q s same (Keeps e) = Keeps (e ∙ same)

-- what requests become

request_in_work-ended_waiting : (b : Bool) (a : Request Command) (r : Reply) (rows : List (RequestRow Command Reply)) → request_in_work ((if b then Gone a.id a.session r else Waiting a) ∷ rows) ≡ request_in_work rows
request_in_work-ended_waiting true a r rows = refl
request_in_work-ended_waiting false a r rows = refl

request_in_work-ended_work : (b : Bool) (a : Request Command) (r : Reply) (rows : List (RequestRow Command Reply)) → b ≡ false → request_in_work ((if b then Gone a.id a.session r else InWork a) ∷ rows) ≡ Some a
request_in_work-ended_work true a r rows e = cc
request_in_work-ended_work false a r rows e = refl

-- the request in work stays where the test does not end it
request_in_work-ended_where : (test : Request Command → Bool) (r : Reply) (rows : List (RequestRow Command Reply)) → work_ends test (request_in_work rows) ≡ false → request_in_work (ended_where test r rows) ≡ request_in_work rows
request_in_work-ended_where test r [] e = refl
request_in_work-ended_where test r (Waiting a ∷ rows) e = request_in_work-ended_waiting (test a) a r (ended_where test r rows) ∙ request_in_work-ended_where test r rows e
request_in_work-ended_where test r (InWork a ∷ rows) e = request_in_work-ended_work (test a) a r (ended_where test r rows) e
request_in_work-ended_where test r (Gone id s q ∷ rows) e = request_in_work-ended_where test r rows e

request_in_work-push : (rows : List (RequestRow Command Reply)) (a : Request Command) → request_in_work (rows ++ Waiting a ∷ []) ≡ request_in_work rows
request_in_work-push [] a = refl
request_in_work-push (Waiting b ∷ rows) a = request_in_work-push rows a
request_in_work-push (InWork b ∷ rows) a = refl
request_in_work-push (Gone id s r ∷ rows) a = request_in_work-push rows a

pub keeps_ends_by : (p : Shared) (test : Request Command → Bool) (r : Refusal) (b : Bool) → work_ends test (request_in_work p.requests) ≡ b → KeepsEntry p (ends test r p)
keeps_ends_by p test r true e = Drops (rw e refl)
keeps_ends_by p test r false e = Keeps (ap running_in (request_in_work-ended_where test (reply.No r) p.requests e))

pub keeps_ends : (p : Shared) (test : Request Command → Bool) (r : Refusal) → KeepsEntry p (ends test r p)
keeps_ends p test r = keeps_ends_by p test r (work_ends test (request_in_work p.requests)) refl

-- steps that digits do not reach

pub keeps_if_open : (p : Shared) (s : Session) (x : Said) → KeepsEntry p x → KeepsEntry p (if_open p s x)
keeps_if_open p s x k = keeps_if p (is_open s p.sessions) x (says p (out.Told s (told.No refusal.NoSession))) k (Keeps refl)

pub keeps_open : (p : Shared) (s : Session) → KeepsEntry p (next_open p s)
keeps_open p s = keeps_if p (is_open s p.sessions) _ _ (Keeps refl) (Keeps refl)

pub keeps_close : (p : Shared) (s : Session) → KeepsEntry p (next_close p s)
keeps_close p s =
    let q : Shared = record p { sessions = without_session s p.sessions; line = out_of_line s p.line } in
    keeps_if_open p s _ (keeps_outs_after p (out.Told s told.Closed ∷ grants_after s p.line) _ (keeps_from p q _ refl (keeps_ends q (λ a. same_session a.session s) refusal.Canceled)))

pub keeps_unlock : (p : Shared) (s : Session) → KeepsEntry p (next_unlock p s)
keeps_unlock p s = keeps_if_open p s _ (keeps_if p (holds s p.line) _ _ (Keeps refl) (Keeps refl))

pub keeps_submit : (p : Shared) (s : Session) (limit : ℕ) (c : Command) (o : Option Refusal) → KeepsEntry p (submit_by o p s limit c)
keeps_submit p s limit c (Some r) = Keeps refl
keeps_submit p s limit c None = Keeps (ap running_in (request_in_work-push p.requests (record { id = length p.requests + 1; session = s; submitted = p.clock; limit = limit; command = c })))

pub keeps_cancel : (p : Shared) (s : Session) (id : ℕ) (found : List (Request Command)) → KeepsEntry p (cancels p s id found)
keeps_cancel p s id found = keeps_if p (not (id == 0) && (length found == 0)) _ _ (Keeps refl) (keeps_outs_before p (out.Told s (told.Canceled (length found)) ∷ []) _ (keeps_ends p (is_canceled p s id) refusal.Canceled))

pub keeps_tick : (p : Shared) (n : ℕ) → KeepsEntry p (next_tick p n)
keeps_tick p n =
    let q : Shared = record p { clock = p.clock + n } in
    keeps_from p q _ refl (keeps_ends q (is_due (p.clock + n)) refusal.Timeout)

pub keeps_begin_entry : (p : Shared) (a : Request Command) (e : Entry) (r : Option Refusal) → KeepsEntry p (begin_entry p a e r)
keeps_begin_entry p a e (Some r) = Drops refl
keeps_begin_entry p a e None = Drops refl

pub keeps_begin_as : (p : Shared) (a : Request Command) (e : Option Entry) → KeepsEntry p (begin_as p a e)
keeps_begin_as p a None = Drops refl
keeps_begin_as p a (Some e) = keeps_begin_entry p a e (first_of (device_refusal p.device) (entry_refusal e))

pub keeps_begin_with : (p : Shared) (w a : Option (Request Command)) → KeepsEntry p (begin_with p w a)
keeps_begin_with p (Some w) a = Keeps refl
keeps_begin_with p None None = Keeps refl
keeps_begin_with p None (Some a) = keeps_begin_as p a (entry_of a.command)

pub keeps_begin : (p : Shared) → KeepsEntry p (next_begin p)
keeps_begin p = keeps_if p (is_off p.device) _ _ (Keeps refl) (keeps_begin_with p (request_in_work p.requests) (eligible (holder_of p.line) p.requests))

pub keeps_power : (p q : Shared) → running_entry q ≡ running_entry p → KeepsEntry p (powers_off q)
keeps_power p q same =
    let r : Shared = record q { device = Off; part = []; maintain = false } in
    keeps_from p r _ same (keeps_dropping_pin r true _ (keeps_ends r (λ a. true) refusal.ConnectionLost))

pub keeps_loads : (p : Shared) (w : DiskWord) → KeepsEntry p (loads p w)
keeps_loads p word.Quiet = Keeps refl
keeps_loads p word.Done = Keeps refl
keeps_loads p (word.Failed n) = Keeps refl
keeps_loads p (word.Cut n) = keeps_power p p refl
keeps_loads p (word.Loaded rows) = Keeps refl
keeps_loads p (word.Bad slot) = Keeps refl

pub keeps_replaces : (p : Shared) (a : Owner) (todo : List Change) (done : Shared → Said) (w : DiskWord) → ((q : Shared) → (done q).drops_presses ≡ true) → KeepsEntry p (replaces p a todo done w)
keeps_replaces p a todo done word.Quiet d = Drops (d (record p { keys = changed todo p.keys }))
keeps_replaces p a todo done word.Done d = Drops (d (record p { keys = changed todo p.keys }))
keeps_replaces p a todo done (word.Failed n) d = Drops refl
keeps_replaces p a todo done (word.Cut n) d = keeps_power p (record p { keys = changed (take n todo) p.keys; doubt = slice_get todo n }) refl
keeps_replaces p a todo done (word.Loaded rows) d = Drops (d (record p { keys = changed todo p.keys }))
keeps_replaces p a todo done (word.Bad slot) d = Drops (d (record p { keys = changed todo p.keys }))

pub keeps_reset : (p : Shared) (a : Owner) (w : DiskWord) → KeepsEntry p (reset_with a w (loads p w))
keeps_reset p a word.Quiet = Drops refl
keeps_reset p a word.Done = Drops refl
keeps_reset p a (word.Failed n) = Drops refl
keeps_reset p a (word.Cut n) = keeps_loads p (word.Cut n)
keeps_reset p a (word.Loaded rows) = Drops refl
keeps_reset p a (word.Bad slot) = Drops refl

keeps_performs : (set : Setting) (p : Shared) (held : List ℕ) (a : Owner) (w : Work) (d : DiskWord) → KeepsEntry p (performs set p held a w d)
keeps_performs set p held a work.Waits d = Keeps refl
keeps_performs set p held a (work.Refuse r accused) d = Drops refl
keeps_performs set p held a (work.Answer x) d = Drops refl
keeps_performs set p held a (work.Maintain on) d = Drops refl
keeps_performs set p held a (work.Keep slot row x from_part) d = keeps_replaces p a (change_to (slot, row) ∷ []) (imports a x from_part) d (λ q. refl)
keeps_performs set p held a (work.Erase slot) d = keeps_replaces p a (erasure slot ∷ []) (deletes a) d (λ q. refl)
keeps_performs set p held a work.EraseAll d = keeps_replaces p a (erasures p.keys) (inits a) d (λ q. refl)
keeps_performs set p held a (work.Release r first second draws) d = Drops refl
keeps_performs set p held a work.Load d =
    let q : Shared = record p { part = []; maintain = false } in
    keeps_dropping_pin p true _ (keeps_from p q _ refl (keeps_reset q a d))

pub keeps_finish : (set : Setting) (p : Shared) (held : List ℕ) (o : Option (Request Command)) (d : DiskWord) → KeepsEntry p (finish_with set p held o d)
keeps_finish set p held None d = Keeps refl
keeps_finish set p held (Some a) d = keeps_performs set p held (owner_of a) (work_of set p (length held) a.command) d
