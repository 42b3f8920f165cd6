-- What each kind of step does to the requests, and what it says of them: an id, an end, or an accusation of a key.
use Rattle.flat_machine.specs.Commands.{work_of}
use Rattle.entry_core.specs.Entries.{Entry, active_seen, entered, entry_of, entry_refusal}
use Rattle.flat_machine.specs.EntrySteps.{begin_as, begin_entry, begin_with, entry_answer, first_of, next_begin, press_in, press_seen}
use Rattle.flat_machine.specs.FinishSteps.{deletes, device_reply, finish_with, imports, inits, performs, resets}
use Rattle.flat_machine.specs.Machine.{next}
use Rattle.flat_machine.specs.Power.{loads, powers_off, replaces}
use Rattle.flat_machine.specs.RefusalFacts.{refusal_in}
use Rattle.flat_machine.specs.RequestSteps.{cancels, is_canceled, submit_by, submit_refusal}
use Rattle.flat_machine.specs.SessionSteps.{if_open, next_close, next_unlock}
use Rattle.flat_machine.specs.Sessions.{execute_event, grants, grants_after}
use Rattle.flat_machine.specs.Settings.{Setting}
use Rattle.flat_machine.specs.State.{After, Flat, Running, Said, Shared, accuses, device_refusal, is_off, owner_of, refuses, running_entry, says}
use Rattle.flat_machine.specs.PinCommands.{pin_answer}
use Rattle.flat_machine.specs.declared.types.Work.{Work}
use Rattle.flat_machine.specs.declared.types.Work.TheVariants as work
use Rattle.flat_machine.proofs.PressWalk.{InWorkOf, running_request}
use Rattle.flat_machine.proofs.RequestMoves.{Rows}
use Rattle.device_lock.specs.LockLine.{holder_of, holds, out_of_line}
use Rattle.key_table.specs.Changes.{Change, change_to, changed, erasure, erasures}
use Rattle.key_table.specs.KeyRows.{KeyRows}
use Rattle.key_source.specs.Keys.{has_key}
use Rattle.key_source.specs.declared.Key.{Key}
use Rattle.entry_core.specs.declared.seen.Seen.{Seen}
use Rattle.entry_core.specs.declared.seen.Seen.TheVariants.{Ended, Ignored, Took}
use Rattle.request_queue.specs.Requests.{begun, eligible, ended_where, finished, is_due, pending_where, refused_at_begin, request_in_work}
use Rattle.request_queue.specs.declared.requests.Request.{Request}
use Rattle.request_queue.specs.declared.requests.RequestRow.TheVariants.{Waiting}
use Rattle.session_book.specs.Sessions.{hearers, hears, is_open}
use Rattle.session_book.specs.declared.sessions.SessionRow.{SessionRow}
use Rattle.pad_steps.specs.declared.answers.Answer.{Answer}
use Rattle.pad_steps.specs.declared.answers.Event.{Event}
use Rattle.pad_steps.specs.declared.answers.Out.{Out}
use Rattle.pad_steps.specs.declared.answers.Refusal.{Refusal}
use Rattle.pad_steps.specs.declared.answers.Reply.{Reply}
use Rattle.pad_steps.specs.declared.commands.Command.{Command}
use Rattle.pad_steps.specs.declared.steps.DiskWord.{DiskWord}
use Rattle.pad_steps.specs.declared.steps.Step.{Step}
use Rattle.pad_words.specs.Numbers.{same_session}
use Rattle.pad_words.specs.declared.numbers.Session.{Session}
use Rattle.std.proofs.Common.{ap, append_assoc, inl, inr, sym, ◌∙◌}
use Rattle.std.proofs.lemmas.List.{append-nil}
use Rattle.std.specs.Prelude.{Bool, List, None, Option, Some, [], cond, false, if◌then◌else◌, length, map, not, refl, slice_get, take, true, ℕ, ◌&&◌, ◌++◌, ◌+◌, ◌==◌, ◌∷◌, ◌≡◌, ◌⊎◌}
use Rattle.pad_steps.specs.declared.answers.Answer.TheVariants as answer
use Rattle.pad_steps.specs.declared.answers.Event.TheVariants as event
use Rattle.pad_steps.specs.declared.answers.Out.TheVariants as out
use Rattle.pad_steps.specs.declared.answers.Refusal.TheVariants as refusal
use Rattle.pad_steps.specs.declared.answers.Reply.TheVariants as reply
use Rattle.pad_steps.specs.declared.answers.Told.TheVariants as told
use Rattle.pad_steps.specs.declared.steps.Class.TheVariants as class
use Rattle.pad_steps.specs.declared.steps.DiskWord.TheVariants as word
use Rattle.pad_steps.specs.declared.steps.Step.TheVariants as step

-- what outs say of requests: the ids drawn, the ends, and the accusations of keys

abbrev pub notable_in : Out → List Out
notable_in (out.Request s id) = out.Request s id ∷ []
notable_in (out.Refused s r) = []
notable_in (out.Ended s id r) = out.Ended s id r ∷ []
notable_in (out.Told s t) = []
notable_in (out.Event s event.EnterData) = []
notable_in (out.Event s (event.Key shown)) = []
notable_in (out.Event s event.Initialized) = []
notable_in (out.Event s (event.IllegalKeyAccess name r)) = out.Event s (event.IllegalKeyAccess name r) ∷ []

abbrev pub notables : List Out → List Out
notables [] = []
notables (o ∷ outs) = notable_in o ++ notables outs

pub notables-append : (xs ys : List Out) → notables (xs ++ ys) ≡ notables xs ++ notables ys
notables-append [] ys = refl
notables-append (o ∷ xs) ys = ap (λ (os : List Out). notable_in o ++ os) (notables-append xs ys) ∙ sym (append_assoc (notable_in o) (notables xs) (notables ys))

abbrev pub ended_by : Reply → Request Command → Out
ended_by r a = out.Ended a.session a.id r

notables-ended : (r : Reply) (xs : List (Request Command)) → notables (map (ended_by r) xs) ≡ map (ended_by r) xs
notables-ended r [] = refl
notables-ended r (a ∷ xs) = ap (λ (os : List Out). ended_by r a ∷ os) (notables-ended r xs)

notables-heard : (sessions : List Session) (name : List ℕ) (r : Refusal) → notables (map (λ (s : Session). out.Event s (event.IllegalKeyAccess name r)) sessions) ≡ map (λ (s : Session). out.Event s (event.IllegalKeyAccess name r)) sessions
notables-heard [] name r = refl
notables-heard (s ∷ sessions) name r = ap (λ (os : List Out). out.Event s (event.IllegalKeyAccess name r) ∷ os) (notables-heard sessions name r)

pub notables-accuses : (p : Shared) (accused : Option (List ℕ)) (r : Refusal) → notables (accuses p accused r) ≡ accuses p accused r
notables-accuses p None r = refl
notables-accuses p (Some name) r = notables-heard (hearers class.Service p.sessions) name r

notables-initialized : (sessions : List Session) → notables (map (λ (s : Session). out.Event s event.Initialized) sessions) ≡ []
notables-initialized [] = refl
notables-initialized (s ∷ sessions) = notables-initialized sessions

notable_if : (b : Bool) (s : Session) (e : Event) → notable_in (out.Event s e) ≡ [] → notables (if b then out.Event s e ∷ [] else []) ≡ []
notable_if true s e h = ap (λ (os : List Out). os ++ []) h
notable_if false s e h = refl

notables-execute : (rows : List SessionRow) (s : Session) (e : Event) → notable_in (out.Event s e) ≡ [] → notables (execute_event rows s e) ≡ []
notables-execute rows s e h = notable_if (hears s class.Execute rows) s e h

notables-grants : (line : List Session) → notables (grants line) ≡ []
notables-grants [] = refl
notables-grants (s ∷ line) = refl

notables-grants_after : (s : Session) (line : List Session) → notables (grants_after s line) ≡ []
notables-grants_after s line = none_if (holds s line) (grants (out_of_line s line)) (notables-grants (out_of_line s line))
  where
    none_if : (b : Bool) (xs : List Out) → notables xs ≡ [] → notables (if b then xs else []) ≡ []
    none_if true xs e = e
    none_if false xs e = refl

-- why pending requests that pass a test end with a refusal
pub data EndsMany (h : Flat) (s : Step) (w : DiskWord) (test : Request Command → Bool) (r : Refusal) : Type 0 where
  ByTick : (n : ℕ) → s ≡ step.Tick n → test ≡ is_due (h.shared.clock + n) → r ≡ refusal.Timeout → EndsMany h s w test r
  ByCancel : (t : Session) (id : ℕ) → s ≡ step.Cancel t id → test ≡ is_canceled h.shared t id → r ≡ refusal.Canceled → EndsMany h s w test r
  ByClose : (t : Session) → s ≡ step.Close t → test ≡ (λ a. same_session a.session t) → r ≡ refusal.Canceled → EndsMany h s w test r
  ByOff : s ≡ step.Off → test ≡ (λ a. true) → r ≡ refusal.ConnectionLost → EndsMany h s w test r
  ByCut : (n : ℕ) → w ≡ word.Cut n → (s ≡ step.Finish) ⊎ (s ≡ step.Boot) → test ≡ (λ a. true) → r ≡ refusal.ConnectionLost → EndsMany h s w test r

-- why the request in work ends with a reply, and what is heard after it
pub data EndsOne (set : Setting) (h : Flat) (s : Step) (w : DiskWord) (a : Request Command) (r : Reply) (heard : List Out) : Type 0 where
  ByPress : (k : Key) (x : Answer) → s ≡ step.Press k → r ≡ reply.Ok x → heard ≡ [] → EndsOne set h s w a r heard
  ByRefusal : (why : Refusal) (accused : Option (List ℕ)) → s ≡ step.Finish → work_of set h.shared (length h.held) a.command ≡ work.Refuse why accused → r ≡ reply.No why → heard ≡ accuses h.shared accused why → EndsOne set h s w a r heard
  ByAnswer : (x : Answer) → s ≡ step.Finish → refusal_in (work_of set h.shared (length h.held) a.command) ≡ None → r ≡ reply.Ok x → heard ≡ [] → EndsOne set h s w a r heard
  ByFault : (n : ℕ) → s ≡ step.Finish → w ≡ word.Failed n → r ≡ reply.No refusal.HardwareError → heard ≡ [] → EndsOne set h s w a r heard
  ByBadStore : (slot : ℕ) → s ≡ step.Finish → work_of set h.shared (length h.held) a.command ≡ work.Load → w ≡ word.Bad slot → r ≡ reply.No (refusal.BadStore slot) → heard ≡ [] → EndsOne set h s w a r heard
  ByDevice : s ≡ step.Finish → work_of set h.shared (length h.held) a.command ≡ work.Load → r ≡ device_reply h.shared.device → heard ≡ [] → EndsOne set h s w a r heard

-- what a step does to the requests, why, and what it says of them
pub data Caused (set : Setting) (h : Flat) (s : Step) (w : DiskWord) (after : Rows) (outs : List Out) : Type 0 where
  Nothing : after ≡ h.shared.requests → notables outs ≡ [] → Caused set h s w after outs
  Submitted : (t : Session) (limit : ℕ) (c : Command) → s ≡ step.Submit t limit c → submit_refusal set.pin_rules h.shared t c ≡ None
      → after ≡ h.shared.requests ++ Waiting (record { id = length h.shared.requests + 1; session = t; submitted = h.shared.clock; limit = limit; command = c }) ∷ [] → notables outs ≡ out.Request t (length h.shared.requests + 1) ∷ [] → Caused set h s w after outs
  EndedMany : (test : Request Command → Bool) (r : Refusal) → EndsMany h s w test r → after ≡ ended_where test (reply.No r) h.shared.requests → notables outs ≡ map (ended_by (reply.No r)) (pending_where test h.shared.requests) → Caused set h s w after outs
  Began : (a : Request Command) → s ≡ step.Begin → request_in_work h.shared.requests ≡ None → eligible (holder_of h.shared.line) h.shared.requests ≡ Some a → after ≡ begun (holder_of h.shared.line) h.shared.requests → notables outs ≡ [] → Caused set h s w after outs
  RefusedEntry : (a : Request Command) (e : Entry) (r : Refusal) → s ≡ step.Begin → request_in_work h.shared.requests ≡ None → eligible (holder_of h.shared.line) h.shared.requests ≡ Some a → first_of (device_refusal h.shared.device) (entry_refusal e) ≡ Some r
      → after ≡ refused_at_begin (reply.No r) (holder_of h.shared.line) h.shared.requests → notables outs ≡ ended_by (reply.No r) a ∷ [] → Caused set h s w after outs
  EndedOne : (a : Request Command) (r : Reply) (heard : List Out) → request_in_work h.shared.requests ≡ Some a → EndsOne set h s w a r heard → after ≡ finished r h.shared.requests → notables outs ≡ ended_by r a ∷ heard → Caused set h s w after outs

module _ (set : Setting) (h : Flat) (s : Step) (w : DiskWord) where
  abbrev Causes : Said → Type 0
  Causes x = Caused set h s w x.shared.requests x.outs

  cause_if : (b : Bool) (x y : Said) → Causes x → Causes y → Causes (cond b x y)
  cause_if true x y one other = one
  cause_if false x y one other = other

  cause_own : (t : Session) (x : Said) → Causes x → Causes (if_open h.shared t x)
  cause_own t x one = cause_if (is_open t h.shared.sessions) x (says h.shared (out.Told t (told.No refusal.NoSession))) one (Nothing refl refl)

  cause_submit : (t : Session) (limit : ℕ) (c : Command) (o : Option Refusal) → s ≡ step.Submit t limit c → submit_refusal set.pin_rules h.shared t c ≡ o → Causes (submit_by o h.shared t limit c)
  cause_submit t limit c (Some r) e f = Nothing refl refl
  cause_submit t limit c None e f = Submitted t limit c e f refl refl

  many : (test : Request Command → Bool) (r : Refusal) (outs : List Out) → EndsMany h s w test r → notables outs ≡ notables (map (ended_by (reply.No r)) (pending_where test h.shared.requests)) → Caused set h s w (ended_where test (reply.No r) h.shared.requests) outs
  many test r outs why e = EndedMany test r why refl (e ∙ notables-ended (reply.No r) (pending_where test h.shared.requests))

  cause_cancel : (t : Session) (id : ℕ) → s ≡ step.Cancel t id → Causes (cancels h.shared t id (pending_where (is_canceled h.shared t id) h.shared.requests))
  cause_cancel t id e = cause_if (not (id == 0) && (length (pending_where (is_canceled h.shared t id) h.shared.requests) == 0)) _ _ (Nothing refl refl) (many (is_canceled h.shared t id) refusal.Canceled _ (ByCancel t id e refl refl) refl)

  cause_close : (t : Session) → s ≡ step.Close t → Causes (next_close h.shared t)
  cause_close t e =
      let ended = map (ended_by (reply.No refusal.Canceled)) (pending_where (λ (a : Request Command). same_session a.session t) h.shared.requests) in
      let more = out.Told t told.Closed ∷ grants_after t h.shared.line in
      cause_own t _ (many (λ a. same_session a.session t) refusal.Canceled _ (ByClose t e refl refl) (notables-append ended more ∙ ap (λ (os : List Out). notables ended ++ os) (notables-grants_after t h.shared.line) ∙ append-nil (notables ended)))

  cause_power : (p : Shared) → p.requests ≡ h.shared.requests → EndsMany h s w (λ a. true) refusal.ConnectionLost → Causes (powers_off p)
  cause_power p e why = EndedMany (λ a. true) refusal.ConnectionLost why (ap (ended_where (λ a. true) (reply.No refusal.ConnectionLost)) e)
      (notables-ended (reply.No refusal.ConnectionLost) (pending_where (λ a. true) p.requests) ∙ ap (λ (rows : Rows). map (ended_by (reply.No refusal.ConnectionLost)) (pending_where (λ a. true) rows)) e)

  -- Begin

  cause_begin_entry : (a : Request Command) (e : Entry) (o : Option Refusal) → s ≡ step.Begin → request_in_work h.shared.requests ≡ None → eligible (holder_of h.shared.line) h.shared.requests ≡ Some a → first_of (device_refusal h.shared.device) (entry_refusal e) ≡ o → Causes (begin_entry h.shared a e o)
  cause_begin_entry a e (Some r) at none some is = RefusedEntry a e r at none some is refl refl
  cause_begin_entry a e None at none some is = Began a at none some refl (notables-execute h.shared.sessions a.session event.EnterData refl)

  cause_begin_as : (a : Request Command) (o : Option Entry) → s ≡ step.Begin → request_in_work h.shared.requests ≡ None → eligible (holder_of h.shared.line) h.shared.requests ≡ Some a → Causes (begin_as h.shared a o)
  cause_begin_as a None at none some = Began a at none some refl refl
  cause_begin_as a (Some e) at none some = cause_begin_entry a e (first_of (device_refusal h.shared.device) (entry_refusal e)) at none some refl

  cause_begin_with : (o q : Option (Request Command)) → s ≡ step.Begin → request_in_work h.shared.requests ≡ o → eligible (holder_of h.shared.line) h.shared.requests ≡ q → Causes (begin_with h.shared o q)
  cause_begin_with (Some a) q at e f = Nothing refl refl
  cause_begin_with None None at e f = Nothing refl refl
  cause_begin_with None (Some a) at e f = cause_begin_as a (entry_of a.command) at e f

  cause_begin : s ≡ step.Begin → Causes (next_begin h.shared)
  cause_begin at = cause_if (is_off h.shared.device) _ _ (Nothing refl refl) (cause_begin_with (request_in_work h.shared.requests) (eligible (holder_of h.shared.line) h.shared.requests) at refl refl)

  -- Boot

  cause_loads : (d : DiskWord) → s ≡ step.Boot → w ≡ d → Causes (loads h.shared d)
  cause_loads word.Quiet at e = Nothing refl refl
  cause_loads word.Done at e = Nothing refl refl
  cause_loads (word.Failed n) at e = Nothing refl refl
  cause_loads (word.Cut n) at e = cause_power h.shared refl (ByCut n e (inr at) refl refl)
  cause_loads (word.Loaded rows) at e = Nothing refl refl
  cause_loads (word.Bad slot) at e = Nothing refl refl

  -- Finish, of the request in work
  module _ (a : Request Command) (in_work : request_in_work h.shared.requests ≡ Some a) (at : s ≡ step.Finish) where
    cause_answer : (x : Answer) (v : Work) (outs : List Out) → work_of set h.shared (length h.held) a.command ≡ v → refusal_in v ≡ None → notables outs ≡ ended_by (reply.Ok x) a ∷ [] → Caused set h s w (finished (reply.Ok x) h.shared.requests) outs
    cause_answer x v outs e none o = EndedOne a (reply.Ok x) [] in_work (ByAnswer x at (ap refusal_in e ∙ none) refl refl) refl o

    cause_refuse : (why : Refusal) (accused : Option (List ℕ)) → work_of set h.shared (length h.held) a.command ≡ work.Refuse why accused → Causes (refuses h.shared (owner_of a) why accused)
    cause_refuse why accused e = EndedOne a (reply.No why) (accuses h.shared accused why) in_work (ByRefusal why accused at e refl refl) refl (ap (λ (os : List Out). ended_by (reply.No why) a ∷ os) (notables-accuses h.shared accused why))

    cause_replaces : (todo : List Change) (done : Shared → Said) (d : DiskWord) → w ≡ d → ((keys : KeyRows) → Causes (done (record h.shared { keys = keys }))) → Causes (replaces h.shared (owner_of a) todo done d)
    cause_replaces todo done word.Quiet e k = k (changed todo h.shared.keys)
    cause_replaces todo done word.Done e k = k (changed todo h.shared.keys)
    cause_replaces todo done (word.Failed n) e k = EndedOne a (reply.No refusal.HardwareError) [] in_work (ByFault n at e refl refl) refl refl
    cause_replaces todo done (word.Cut n) e k = cause_power (record h.shared { keys = changed (take n todo) h.shared.keys; doubt = slice_get todo n }) refl (ByCut n e (inl at) refl refl)
    cause_replaces todo done (word.Loaded rows) e k = k (changed todo h.shared.keys)
    cause_replaces todo done (word.Bad slot) e k = k (changed todo h.shared.keys)

    cause_reset : (d : DiskWord) → w ≡ d → work_of set h.shared (length h.held) a.command ≡ work.Load → Causes (resets (owner_of a) d h.shared)
    cause_reset word.Quiet e v = EndedOne a (device_reply h.shared.device) [] in_work (ByDevice at v refl refl) refl refl
    cause_reset word.Done e v = EndedOne a (device_reply h.shared.device) [] in_work (ByDevice at v refl refl) refl refl
    cause_reset (word.Failed n) e v = EndedOne a (reply.No refusal.HardwareError) [] in_work (ByFault n at e refl refl) refl refl
    cause_reset (word.Cut n) e v = cause_power (record h.shared { part = []; maintain = false }) refl (ByCut n e (inl at) refl refl)
    cause_reset (word.Loaded rows) e v = cause_answer answer.Done work.Load _ v refl refl
    cause_reset (word.Bad slot) e v = EndedOne a (reply.No (refusal.BadStore slot)) [] in_work (ByBadStore slot at v e refl refl) refl refl

    cause_performs : (v : Work) → work_of set h.shared (length h.held) a.command ≡ v → Causes (performs set h.shared h.held (owner_of a) v w)
    cause_performs work.Waits e = Nothing refl refl
    cause_performs (work.Refuse why accused) e = cause_refuse why accused e
    cause_performs (work.Answer x) e = cause_answer x (work.Answer x) _ e refl refl
    cause_performs (work.Maintain on) e = cause_answer answer.Done (work.Maintain on) _ e refl refl
    cause_performs (work.Keep slot row check from_part) e = cause_replaces (change_to (slot, row) ∷ []) (imports (owner_of a) check from_part) w refl (λ keys. cause_answer (answer.Key check) (work.Keep slot row check from_part) _ e refl refl)
    cause_performs (work.Erase slot) e = cause_replaces (erasure slot ∷ []) (deletes (owner_of a)) w refl (λ keys. cause_answer answer.Done (work.Erase slot) _ e refl refl)
    cause_performs work.EraseAll e = cause_replaces (erasures h.shared.keys) (inits (owner_of a)) w refl (λ keys. cause_answer answer.Done work.EraseAll _ e refl (ap (λ (os : List Out). ended_by (reply.Ok answer.Done) a ∷ os) (notables-initialized (hearers class.Service h.shared.sessions))))
    cause_performs (work.Release r first second draws) e = cause_answer (pin_answer set h.shared.drawn h.held r first second draws) (work.Release r first second draws) _ e refl refl
    cause_performs work.Load e = cause_reset w refl e

  cause_finish : (o : Option (Request Command)) → s ≡ step.Finish → request_in_work h.shared.requests ≡ o → Causes (finish_with set h.shared h.held o w)
  cause_finish None at e = Nothing refl refl
  cause_finish (Some a) at e = cause_performs a e at (work_of set h.shared (length h.held) a.command) refl

  -- Press

  abbrev AfterCauses : After → Type 0
  AfterCauses x = Caused set h s w x.state.shared.requests x.outs

  press_if : (b : Bool) (x y : After) → AfterCauses x → AfterCauses y → AfterCauses (cond b x y)
  press_if true x y one other = one
  press_if false x y one other = other

  same_end : (current : Running) (r : Reply) (a : Request Command) → current.id ≡ a.id → current.session ≡ a.session → out.Ended current.session current.id r ≡ ended_by r a
  same_end current r a i t = rw (i, t) refl

  cause_seen : (current : Running) (k : Key) (seen : Seen) → s ≡ step.Press k → InWorkOf h.shared.requests current → AfterCauses (press_seen set.cipher h current k seen)
  cause_seen current k Ignored e at = Nothing refl refl
  cause_seen current k (Took shown) e at = Nothing refl (notables-execute h.shared.sessions current.session (event.Key shown) refl)
  cause_seen current k (Ended shown completion) e at =
      let x = entry_answer set.cipher current.entry.kind current.entry.check completion (entered current.entry (k ∷ h.presses)) in
      let told = out.Ended current.session current.id (reply.Ok x) ∷ [] in
      EndedOne at.request (reply.Ok x) [] at.work (ByPress k x e refl refl) refl
      (notables-append (execute_event h.shared.sessions current.session (event.Key shown)) told ∙ ap (λ (os : List Out). os ++ told) (notables-execute h.shared.sessions current.session (event.Key shown) refl) ∙ ap (λ (o : Out). o ∷ []) (same_end current (reply.Ok x) at.request at.id at.session))

  cause_press_in : (o : Option Running) (k : Key) → s ≡ step.Press k → running_entry h.shared ≡ o → AfterCauses (press_in set.cipher h o k)
  cause_press_in None k e r = Nothing refl refl
  cause_press_in (Some current) k e r = press_if (has_key current.entry.active k) _ _ (cause_seen current k (active_seen current.entry (length (entered current.entry h.presses)) k) e (running_request h.shared current r)) (Nothing refl refl)

  cause_unlock : (t : Session) → Causes (next_unlock h.shared t)
  cause_unlock t = cause_own t _ (cause_if (holds t h.shared.line) _ _ (Nothing refl (notables-grants (out_of_line t h.shared.line))) (Nothing refl refl))

pub next_caused : (set : Setting) (h : Flat) (s : Step) (w : DiskWord) → Caused set h s w (next set h s w).state.shared.requests (next set h s w).outs
next_caused set h (step.Open t) w = cause_if set h _ w (is_open t h.shared.sessions) _ _ (Nothing refl refl) (Nothing refl refl)
next_caused set h (step.Close t) w = cause_close set h _ w t refl
next_caused set h (step.Listen t c) w = cause_own set h _ w t _ (Nothing refl refl)
next_caused set h (step.Lock t) w = cause_own set h _ w t _ (Nothing refl refl)
next_caused set h (step.Unlock t) w = cause_unlock set h _ w t
next_caused set h (step.Submit t limit c) w = cause_submit set h _ w t limit c (submit_refusal set.pin_rules h.shared t c) refl refl
next_caused set h (step.Cancel t id) w = cause_own set h _ w t _ (cause_cancel set h _ w t id refl)
next_caused set h step.Begin w = cause_begin set h _ w refl
next_caused set h step.Finish w = cause_finish set h _ w (request_in_work h.shared.requests) refl refl
next_caused set h (step.Press k) w = cause_press_in set h _ w (running_entry h.shared) k refl refl
next_caused set h (step.Tick n) w = many set h _ w (is_due (h.shared.clock + n)) refusal.Timeout _ (ByTick n refl refl refl) refl
next_caused set h (step.Ask t q) w = cause_own set h _ w t _ (Nothing refl refl)
next_caused set h step.Off w = cause_if set h _ w (is_off h.shared.device) _ _ (Nothing refl refl) (cause_power set h _ w h.shared refl (ByOff refl refl refl))
next_caused set h step.Boot w = cause_if set h _ w (is_off h.shared.device) _ _ (cause_loads set h _ w w refl refl) (Nothing refl refl)
