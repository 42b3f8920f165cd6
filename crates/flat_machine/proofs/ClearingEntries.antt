-- In every run no PIN is held while a PIN entry runs.
use Rattle.device_lock.specs.LockLine.{holds}
use Rattle.entry_core.specs.Entries.{active_seen, entered, is_pin}
use Rattle.entry_core.specs.declared.seen.Seen.{Seen}
use Rattle.entry_core.specs.declared.seen.Seen.TheVariants.{Ended, Ignored, Took}
use Rattle.flat_machine.proofs.BoolLemmas.{both}
use Rattle.flat_machine.proofs.ClearingBegins.{BeginDoes, BeginsEntry, BeginsNone, begin_does}
use Rattle.flat_machine.proofs.PressWalk.{moves_next}
use Rattle.flat_machine.proofs.RequestMoves.{Rows, moves_in_work}
use Rattle.flat_machine.proofs.RequestRuns.{from_start}
use Rattle.flat_machine.specs.PinFacts.{EntryRuns}
use Rattle.flat_machine.specs.Commands.{work_of}
use Rattle.flat_machine.specs.EntrySteps.{next_begin, press_in, press_seen}
use Rattle.flat_machine.specs.Facts.{IsStart}
use Rattle.flat_machine.specs.FinishSteps.{deletes, device_reply, finish_with, imports, inits, next_finish, performs, resets}
use Rattle.flat_machine.specs.Machine.{Act, has_pin, next, next_boot, next_off, run_from}
use Rattle.flat_machine.specs.PinCommands.{pin_answer}
use Rattle.flat_machine.specs.Power.{loads, powers_off, replaces}
use Rattle.flat_machine.specs.RequestFacts.{in_work}
use Rattle.flat_machine.specs.RequestSteps.{is_canceled, next_ask, next_cancel, next_submit, next_tick, submit_by, submit_refusal}
use Rattle.flat_machine.specs.SessionSteps.{if_open, next_close, next_listen, next_lock, next_open, next_unlock}
use Rattle.flat_machine.specs.Settings.{Setting}
use Rattle.flat_machine.specs.State.{After, Flat, Running, Said, Shared, after_said, is_off, owner_of, running_entry, running_in}
use Rattle.flat_machine.specs.declared.types.Work.{Work}
use Rattle.flat_machine.specs.declared.types.Work.TheVariants as work
use Rattle.key_source.specs.Keys.{has_key}
use Rattle.key_source.specs.declared.Key.{Key}
use Rattle.key_table.specs.Changes.{Change, change_to, changed, erasure, erasures}
use Rattle.key_table.specs.KeyRows.{KeyRows}
use Rattle.pad_steps.specs.declared.answers.Answer.TheVariants as answer
use Rattle.pad_steps.specs.declared.answers.Refusal.{Refusal}
use Rattle.pad_steps.specs.declared.answers.Refusal.TheVariants as refusal
use Rattle.pad_steps.specs.declared.answers.Reply.{Reply}
use Rattle.pad_steps.specs.declared.answers.Reply.TheVariants as reply
use Rattle.pad_steps.specs.declared.commands.Command.{Command}
use Rattle.pad_steps.specs.declared.steps.DiskWord.{DiskWord}
use Rattle.pad_steps.specs.declared.steps.DiskWord.TheVariants as word
use Rattle.pad_steps.specs.declared.steps.Step.{Step}
use Rattle.pad_steps.specs.declared.steps.Step.TheVariants as step
use Rattle.pad_words.specs.Numbers.{same_session}
use Rattle.pad_words.specs.declared.numbers.Session.{Session}
use Rattle.request_queue.specs.Requests.{ended_where, finished, is_due, pending_where, request_in_work}
use Rattle.request_queue.specs.declared.requests.Request.{Request}
use Rattle.request_queue.specs.declared.requests.RequestRow.TheVariants.{Gone, InWork, Waiting}
use Rattle.session_book.specs.Sessions.{is_open}
use Rattle.std.proofs.Common.{ap, arith, inl, inr, sym, ◌∙◌}
use Rattle.std.specs.Prelude.{Bool, List, None, Option, Some, [], cond, false, if◌then◌else◌, length, not, refl, slice_get, suc, take, true, ℕ, ◌&&◌, ◌++◌, ◌+◌, ◌==◌, ◌∷◌, ◌≡◌, ◌≤◌, ◌⊎◌}
use Rattle.flat_machine.proofs.ClearingAnswers.{begun_pin}
use Rattle.flat_machine.proofs.ClearingSteps.{empty_if}

-- where one request at most is in work, none is once it ended

abbrev OneAtMost : Rows → Type 0
OneAtMost rows = length (in_work rows) ≤ 1

no_more : (a : Request Command) (xs : List (Request Command)) → length (a ∷ xs) ≤ 1 → xs ≡ []
no_more a [] h = refl
no_more a (x ∷ xs) h = absurd (too_many (length xs) h)
  where
    too_many : (n : ℕ) → suc (suc n) ≤ 1 → ⊥
    too_many n l = omega (arith, l)

none_in_work : (rows : Rows) → in_work rows ≡ [] → request_in_work rows ≡ None
none_in_work [] e = refl
none_in_work (Waiting a ∷ rows) e = none_in_work rows e
none_in_work (InWork a ∷ rows) e = cc
none_in_work (Gone id s q ∷ rows) e = none_in_work rows e

request_in_work-finished : (r : Reply) (rows : Rows) → OneAtMost rows → request_in_work (finished r rows) ≡ None
request_in_work-finished r [] one = refl
request_in_work-finished r (Waiting a ∷ rows) one = request_in_work-finished r rows one
request_in_work-finished r (InWork a ∷ rows) one = none_in_work rows (no_more a (in_work rows) one)
request_in_work-finished r (Gone id s q ∷ rows) one = request_in_work-finished r rows one

skips_waiting : (b : Bool) (a : Request Command) (r : Reply) (rows : Rows) → request_in_work ((if b then Gone a.id a.session r else Waiting a) ∷ rows) ≡ request_in_work rows
skips_waiting true a r rows = refl
skips_waiting false a r rows = refl

none_ended : (test : Request Command → Bool) (r : Reply) (rows : Rows) → in_work rows ≡ [] → request_in_work (ended_where test r rows) ≡ None
none_ended test r [] e = refl
none_ended test r (Waiting a ∷ rows) e = skips_waiting (test a) a r (ended_where test r rows) ∙ none_ended test r rows e
none_ended test r (InWork a ∷ rows) e = cc
none_ended test r (Gone id s q ∷ rows) e = none_ended test r rows e

ended_if : (b : Bool) (a : Request Command) (r : Reply) (rows : Rows) → request_in_work rows ≡ None → (request_in_work ((if b then Gone a.id a.session r else InWork a) ∷ rows) ≡ Some a) ⊎ (request_in_work ((if b then Gone a.id a.session r else InWork a) ∷ rows) ≡ None)
ended_if true a r rows none = inr none
ended_if false a r rows none = inl refl

abbrev InWorkOrNone : Rows → Rows → Type 0
InWorkOrNone rows after = (request_in_work after ≡ request_in_work rows) ⊎ (request_in_work after ≡ None)

skips : (rows after whole : Rows) → request_in_work whole ≡ request_in_work after → InWorkOrNone rows after → InWorkOrNone rows whole
skips rows after whole e (inl same) = inl (e ∙ same)
skips rows after whole e (inr none) = inr (e ∙ none)

ended_one : (test : Request Command → Bool) (r : Reply) (rows : Rows) → OneAtMost rows → InWorkOrNone rows (ended_where test r rows)
ended_one test r [] one = inl refl
ended_one test r (Waiting a ∷ rows) one = skips rows (ended_where test r rows) (ended_where test r (Waiting a ∷ rows)) (skips_waiting (test a) a r (ended_where test r rows)) (ended_one test r rows one)
ended_one test r (InWork a ∷ rows) one = ended_if (test a) a r (ended_where test r rows) (none_ended test r rows (no_more a (in_work rows) one))
ended_one test r (Gone id s q ∷ rows) one = ended_one test r rows one

pushed : (rows : Rows) (a : Request Command) → request_in_work (rows ++ Waiting a ∷ []) ≡ request_in_work rows
pushed [] a = refl
pushed (Waiting b ∷ rows) a = pushed rows a
pushed (InWork b ∷ rows) a = refl
pushed (Gone id s q ∷ rows) a = pushed rows a

-- a step other than Begin and Press: the request in work stays in work, or none is
record Stays (p : Shared) (x : Said) : Type 0 where
  pub rows : InWorkOrNone p.requests x.shared.requests

stays_same : (p : Shared) (x : Said) → x.shared.requests ≡ p.requests → Stays p x
stays_same p x same = record { rows = inl (ap request_in_work same) }

module _ (p : Shared) (one : OneAtMost p.requests) where
  stays_if : (b : Bool) (x y : Said) → Stays p x → Stays p y → Stays p (cond b x y)
  stays_if true x y k l = k
  stays_if false x y k l = l

  stays_open : (s : Session) (x : Said) → Stays p x → Stays p (if_open p s x)
  stays_open s x k = stays_if (is_open s p.sessions) x _ k (stays_same p _ refl)

  stays_submit : (o : Option Refusal) (s : Session) (limit : ℕ) (c : Command) → Stays p (submit_by o p s limit c)
  stays_submit (Some r) s limit c = stays_same p _ refl
  stays_submit None s limit c = record { rows = inl (pushed p.requests _) }

  stays_power : (q : Shared) → q.requests ≡ p.requests → Stays p (powers_off q)
  stays_power q same = record { rows = rw same (ended_one (λ a. true) (reply.No refusal.ConnectionLost) p.requests one) }

  stays_loads : (w : DiskWord) → Stays p (loads p w)
  stays_loads word.Quiet = stays_same p _ refl
  stays_loads word.Done = stays_same p _ refl
  stays_loads (word.Failed n) = stays_same p _ refl
  stays_loads (word.Cut n) = stays_power p refl
  stays_loads (word.Loaded rows) = stays_same p _ refl
  stays_loads (word.Bad slot) = stays_same p _ refl

  over : (r : Reply) (x : Said) → x.shared.requests ≡ finished r p.requests → Stays p x
  over r x same = record { rows = inr (ap request_in_work same ∙ request_in_work-finished r p.requests one) }

  stays_ends : (test : Request Command → Bool) (r : Refusal) (x : Said) → x.shared.requests ≡ ended_where test (reply.No r) p.requests → Stays p x
  stays_ends test r x same = record { rows = rw same (ended_one test (reply.No r) p.requests one) }

  stays_replaces : (a : Request Command) (todo : List Change) (done : Shared → Said) (w : DiskWord) → ((keys : KeyRows) → Stays p (done (record p { keys = keys }))) → Stays p (replaces p (owner_of a) todo done w)
  stays_replaces a todo done word.Quiet k = k (changed todo p.keys)
  stays_replaces a todo done word.Done k = k (changed todo p.keys)
  stays_replaces a todo done (word.Failed n) k = over (reply.No refusal.HardwareError) _ refl
  stays_replaces a todo done (word.Cut n) k = stays_power (record p { keys = changed (take n todo) p.keys; doubt = slice_get todo n }) refl
  stays_replaces a todo done (word.Loaded rows) k = k (changed todo p.keys)
  stays_replaces a todo done (word.Bad slot) k = k (changed todo p.keys)

  stays_reset : (a : Request Command) (w : DiskWord) → Stays p (resets (owner_of a) w p)
  stays_reset a word.Quiet = over (device_reply p.device) _ refl
  stays_reset a word.Done = over (device_reply p.device) _ refl
  stays_reset a (word.Failed n) = over (reply.No refusal.HardwareError) _ refl
  stays_reset a (word.Cut n) = stays_power (record p { part = []; maintain = false }) refl
  stays_reset a (word.Loaded rows) = over (reply.Ok answer.Done) _ refl
  stays_reset a (word.Bad slot) = over (reply.No (refusal.BadStore slot)) _ refl

  stays_performs : (set : Setting) (held : List ℕ) (a : Request Command) (v : Work) (w : DiskWord) → Stays p (performs set p held (owner_of a) v w)
  stays_performs set held a work.Waits w = stays_same p _ refl
  stays_performs set held a (work.Refuse r accused) w = over (reply.No r) _ refl
  stays_performs set held a (work.Answer x) w = over (reply.Ok x) _ refl
  stays_performs set held a (work.Maintain on) w = over (reply.Ok answer.Done) _ refl
  stays_performs set held a (work.Keep slot row x from_part) w = stays_replaces a (change_to (slot, row) ∷ []) (imports (owner_of a) x from_part) w (λ keys. over (reply.Ok (answer.Key x)) _ refl)
  stays_performs set held a (work.Erase slot) w = stays_replaces a (erasure slot ∷ []) (deletes (owner_of a)) w (λ keys. over (reply.Ok answer.Done) _ refl)
  stays_performs set held a work.EraseAll w = stays_replaces a (erasures p.keys) (inits (owner_of a)) w (λ keys. over (reply.Ok answer.Done) _ refl)
  stays_performs set held a (work.Release r first second draws) w = over (reply.Ok (pin_answer set p.drawn held r first second draws)) _ refl
  stays_performs set held a work.Load w = stays_reset a w

  stays_finish : (set : Setting) (held : List ℕ) (o : Option (Request Command)) (w : DiskWord) → Stays p (finish_with set p held o w)
  stays_finish set held None w = stays_same p _ refl
  stays_finish set held (Some a) w = stays_performs set held a (work_of set p (length held) a.command) w

-- no PIN is held while a PIN entry runs
abbrev NoPin : Flat → Type 0
NoPin h = (c : Running) → running_entry h.shared ≡ Some c → is_pin c.entry.kind ≡ true → h.held ≡ []

none_runs : (p : Shared) (c : Running) → request_in_work p.requests ≡ None → running_entry p ≡ Some c → ⊥
none_runs p c none runs = not_one c (sym (ap running_in none) ∙ runs)
  where
    not_one : (c : Running) → None ≡ Some c → ⊥
    not_one c e = cc

no_pin_rows : (h : Flat) (x : Said) → InWorkOrNone h.shared.requests x.shared.requests → NoPin h → NoPin (after_said h x).state
no_pin_rows h x (inl same) before = λ c runs of_pin. empty_if x.drops_pin h.held (before c (sym (ap running_in same) ∙ runs) of_pin)
no_pin_rows h x (inr none) before = λ c runs of_pin. absurd (none_runs x.shared c none runs)

no_pin_said : (h : Flat) (x : Said) → Stays h.shared x → NoPin h → NoPin (after_said h x).state
no_pin_said h x stays before = no_pin_rows h x stays.rows before

module _ (set : Setting) (h : Flat) (one : OneAtMost h.shared.requests) (before : NoPin h) where
  no_pin_begin : (w : DiskWord) → BeginDoes h.shared (next_begin h.shared) → NoPin (next set h step.Begin w).state
  no_pin_begin w (BeginsNone runs drops part device) = λ c is of_pin. empty_if (next_begin h.shared).drops_pin h.held (before c (sym runs ∙ is) of_pin)
  no_pin_begin w (BeginsEntry current none runs drops part device) = λ c is of_pin. begun_pin set h w c (record { none = none; runs = is }) of_pin

  no_pin_seen : (w : Running) (k : Key) (seen : Seen) → NoPin (press_seen set.cipher h w k seen).state
  no_pin_seen w k Ignored = before
  no_pin_seen w k (Took s) = before
  no_pin_seen w k (Ended s by) = λ c runs of_pin. absurd (none_runs (press_seen set.cipher h w k (Ended s by)).state.shared c (request_in_work-finished _ h.shared.requests one) runs)

  no_pin_cond : (b : Bool) (x : After) → NoPin x.state → NoPin (cond b x (record { state = h; outs = [] })).state
  no_pin_cond true x k = k
  no_pin_cond false x k = before

  no_pin_press : (o : Option Running) (k : Key) → NoPin (press_in set.cipher h o k).state
  no_pin_press None k = before
  no_pin_press (Some w) k = no_pin_cond (has_key w.entry.active k) _ (no_pin_seen w k (active_seen w.entry (length (entered w.entry h.presses)) k))

  no_pin_next : (s : Step) (w : DiskWord) → NoPin (next set h s w).state
  no_pin_next (step.Open s) w = no_pin_said h (next_open h.shared s) (stays_if h.shared one (is_open s h.shared.sessions) _ _ (stays_same h.shared _ refl) (stays_same h.shared _ refl)) before
  no_pin_next (step.Close s) w = no_pin_said h (next_close h.shared s) (stays_open h.shared one s _ (stays_ends h.shared one (λ a. same_session a.session s) refusal.Canceled _ refl)) before
  no_pin_next (step.Listen s c) w = no_pin_said h (next_listen h.shared s c) (stays_open h.shared one s _ (stays_same h.shared _ refl)) before
  no_pin_next (step.Lock s) w = no_pin_said h (next_lock h.shared s) (stays_open h.shared one s _ (stays_same h.shared _ refl)) before
  no_pin_next (step.Unlock s) w = no_pin_said h (next_unlock h.shared s) (stays_open h.shared one s _ (stays_if h.shared one (holds s h.shared.line) _ _ (stays_same h.shared _ refl) (stays_same h.shared _ refl))) before
  no_pin_next (step.Submit s limit c) w = no_pin_said h (next_submit set.pin_rules h.shared s limit c) (stays_submit h.shared one (submit_refusal set.pin_rules h.shared s c) s limit c) before
  no_pin_next (step.Cancel s id) w = no_pin_said h (next_cancel h.shared s id) (stays_open h.shared one s _ (stays_if h.shared one (not (id == 0) && (length (pending_where (is_canceled h.shared s id) h.shared.requests) == 0)) _ _ (stays_same h.shared _ refl) (stays_ends h.shared one (is_canceled h.shared s id) refusal.Canceled _ refl))) before
  no_pin_next step.Begin w = no_pin_begin w (begin_does h.shared)
  no_pin_next step.Finish w = no_pin_said h (next_finish set h.shared h.held w) (stays_finish h.shared one set h.held (request_in_work h.shared.requests) w) before
  no_pin_next (step.Press k) w = no_pin_press (running_entry h.shared) k
  no_pin_next (step.Tick n) w = no_pin_said h (next_tick h.shared n) (stays_ends h.shared one (is_due (h.shared.clock + n)) refusal.Timeout _ refl) before
  no_pin_next (step.Ask s q) w = no_pin_said h (next_ask set.cipher h.shared (has_pin h.held) s q) (stays_open h.shared one s _ (stays_same h.shared _ refl)) before
  no_pin_next step.Off w = no_pin_said h (next_off h.shared) (stays_if h.shared one (is_off h.shared.device) _ _ (stays_same h.shared _ refl) (stays_power h.shared one h.shared refl)) before
  no_pin_next step.Boot w = no_pin_said h (next_boot h.shared w) (stays_if h.shared one (is_off h.shared.device) _ _ (stays_loads h.shared one w) (stays_same h.shared _ refl)) before

abbrev OneNoPin : Flat → Type 0
OneNoPin h = OneAtMost h.shared.requests × NoPin h

next_one_no_pin : (set : Setting) (h : Flat) (s : Step) (w : DiskWord) → OneNoPin h → OneNoPin (next set h s w).state
next_one_no_pin set h s w both = (moves_in_work h.shared.requests (next set h s w).state.shared.requests (next set h s w).outs (moves_next set h s w) both.0, no_pin_next set h both.0 both.1 s w)

pub no_pin_in_entry : (set : Setting) (start : Flat) (acts : List Act) → IsStart start → EntryRuns is_pin (run_from set start acts).shared → (run_from set start acts).held ≡ []
no_pin_in_entry set start acts begins entry = (from_start set OneNoPin (next_one_no_pin set) (omega arith, λ c runs of_pin. refl) (omega arith, λ c runs of_pin. refl) start acts begins).1 entry.current entry.runs entry.kind
