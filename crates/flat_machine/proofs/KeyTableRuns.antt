-- Each step keeps the key rows a table, if what it loads is one.
use Rattle.flat_machine.specs.WorkFacts.{Suits}
use Rattle.flat_machine.proofs.WorkChains.{work_suits}
use Rattle.flat_machine.specs.declared.types.Owner.{Owner}
use Rattle.flat_machine.specs.declared.types.Work.TheVariants as work
use Rattle.flat_machine.specs.declared.types.Work.{Work}
use Rattle.flat_machine.specs.Commands.{work_of}
use Rattle.flat_machine.proofs.BoolLemmas.{both}
use Rattle.flat_machine.proofs.KeyTables.{ChangesKeepATable, Keeps_table, Table, erasure_keeps, erasures_keep, one_change, row_keeps}
use Rattle.flat_machine.proofs.RunCommands.{done}
use Rattle.entry_core.specs.Entries.{Entry, active_seen, entered, entry_of, entry_refusal}
use Rattle.flat_machine.specs.EntrySteps.{begin_as, begin_entry, begin_with, first_of, press_in, press_seen}
use Rattle.flat_machine.specs.Facts.{IsStart}
use Rattle.flat_machine.specs.FinishSteps.{deletes, finish_with, imports, inits, performs, resets}
use Rattle.flat_machine.specs.KeyFacts.{loads_table}
use Rattle.key_table.specs.Tables.{is_table}
use Rattle.key_table.specs.Changes.{Change, change_to, changed, erasure, erasures}
use Rattle.flat_machine.specs.Machine.{Act, next, run_from}
use Rattle.flat_machine.specs.Power.{loads, replaces}
use Rattle.flat_machine.specs.RequestSteps.{is_canceled, submit_by, submit_refusal}
use Rattle.request_queue.specs.Requests.{eligible, pending_where, request_in_work}
use Rattle.flat_machine.specs.SessionSteps.{if_open}
use Rattle.device_lock.specs.LockLine.{holder_of, holds}
use Rattle.session_book.specs.Sessions.{is_open}
use Rattle.flat_machine.specs.State.{After, Flat, Shared, Running, Said, device_refusal, is_off, owner_of, running_entry, says}
use Rattle.flat_machine.specs.Settings.{Setting}
use Rattle.request_queue.specs.declared.requests.Request.{Request}
use Rattle.entry_core.specs.declared.seen.Seen.{Seen}
use Rattle.entry_core.specs.declared.seen.Seen.TheVariants.{Ended, Ignored, Took}
use Rattle.key_source.specs.Keys.{has_key}
use Rattle.key_source.specs.declared.Key.{Key}
use Rattle.pad_steps.specs.declared.answers.Refusal.{Refusal}
use Rattle.pad_steps.specs.declared.commands.Command.{Command}
use Rattle.pad_steps.specs.declared.steps.DiskWord.{DiskWord}
use Rattle.pad_steps.specs.declared.steps.Step.{Step}
use Rattle.pad_words.specs.declared.numbers.Session.{Session}
use Rattle.std.proofs.Common.{inl, inr, subst, sym}
use Rattle.std.specs.List.{list_all}
use Rattle.std.specs.Prelude.{Bool, IsTrue, List, None, Option, Some, [], cond, false, length, not, refl, true, ℕ, ◌&&◌, ◌==◌, ◌∷◌, ◌≡◌}
use Rattle.pad_steps.specs.declared.answers.Out.TheVariants as out
use Rattle.pad_steps.specs.declared.answers.Refusal.TheVariants as refusal
use Rattle.pad_steps.specs.declared.answers.Told.TheVariants as told
use Rattle.pad_steps.specs.declared.steps.DiskWord.TheVariants as word
use Rattle.pad_steps.specs.declared.steps.Step.TheVariants as step

table_after : (b : Bool) (x y : After) → Table x.state.shared.keys → Table y.state.shared.keys → Table (cond b x y).state.shared.keys
table_after true x y one other = one
table_after false x y one other = other

module _ (law : ChangesKeepATable) (p : Shared) (h : Table p.keys) where
  table_if : (b : Bool) (x y : Said) → Table x.shared.keys → Table y.shared.keys → Table (cond b x y).shared.keys
  table_if true x y one other = one
  table_if false x y one other = other

  table_own : (s : Session) (x : Said) → Table x.shared.keys → Table (if_open p s x).shared.keys
  table_own s x one = table_if (is_open s p.sessions) x (says p (out.Told s (told.No refusal.NoSession))) one h

  table_submit : (o : Option Refusal) (s : Session) (limit : ℕ) (c : Command) → Table (submit_by o p s limit c).shared.keys
  table_submit (Some r) s limit c = h
  table_submit None s limit c = h

  table_begin_entry : (a : Request Command) (e : Entry) (r : Option Refusal) → Table (begin_entry p a e r).shared.keys
  table_begin_entry a e (Some r) = h
  table_begin_entry a e None = h

  table_begin_as : (a : Request Command) (e : Option Entry) → Table (begin_as p a e).shared.keys
  table_begin_as a None = h
  table_begin_as a (Some e) = table_begin_entry a e (first_of (device_refusal p.device) (entry_refusal e))

  table_begin_with : (o q : Option (Request Command)) → Table (begin_with p o q).shared.keys
  table_begin_with (Some a) q = h
  table_begin_with None None = h
  table_begin_with None (Some a) = table_begin_as a (entry_of a.command)

  table_loads : (w : DiskWord) → loads_table w ≡ true → Table (loads p w).shared.keys
  table_loads word.Quiet e = h
  table_loads word.Done e = h
  table_loads (word.Failed n) e = h
  table_loads (word.Cut n) e = h
  table_loads (word.Loaded rows) e = e
  table_loads (word.Bad slot) e = h

  table_reset : (a : Owner) (w : DiskWord) → loads_table w ≡ true → Table (resets a w p).shared.keys
  table_reset a word.Quiet e = h
  table_reset a word.Done e = h
  table_reset a (word.Failed n) e = h
  table_reset a (word.Cut n) e = h
  table_reset a (word.Loaded rows) e = e
  table_reset a (word.Bad slot) e = h

  table_replaces : (a : Owner) (todo : List Change) (done : Shared → Said) (w : DiskWord) → Keeps_table p.keys todo → ((q : Shared) → (done q).shared.keys ≡ q.keys) → Table (replaces p a todo done w).shared.keys
  table_replaces a todo done word.Quiet keep same = rw (same (record p { keys = changed todo p.keys })) keep.0
  table_replaces a todo done word.Done keep same = rw (same (record p { keys = changed todo p.keys })) keep.0
  table_replaces a todo done (word.Failed n) keep same = keep.1 n
  table_replaces a todo done (word.Cut n) keep same = keep.1 n
  table_replaces a todo done (word.Loaded rows) keep same = rw (same (record p { keys = changed todo p.keys })) keep.0
  table_replaces a todo done (word.Bad slot) keep same = rw (same (record p { keys = changed todo p.keys })) keep.0

  table_performs : (set : Setting) (n : ℕ) (c : Command) (held : List ℕ) (a : Owner) (v : Work) (w : DiskWord) → loads_table w ≡ true → Suits set p n c v → Table (performs set p held a v w).shared.keys
  table_performs set n c held a work.Waits w e k = h
  table_performs set n c held a (work.Refuse r accused) w e k = h
  table_performs set n c held a (work.Answer x) w e k = h
  table_performs set n c held a (work.Maintain on) w e k = h
  table_performs set n c held a (work.Keep slot row x from_part) w e k = table_replaces a (change_to (slot, row) ∷ []) (imports a x from_part) w (one_change p.keys (change_to (slot, row)) h (row_keeps law p.keys slot row h k)) (λ q. refl)
  table_performs set n c held a (work.Erase slot) w e k = table_replaces a (erasure slot ∷ []) (deletes a) w (erasure_keeps law p.keys slot h) (λ q. refl)
  table_performs set n c held a work.EraseAll w e k = table_replaces a (erasures p.keys) (inits a) w (erasures_keep law p.keys h) (λ q. refl)
  table_performs set n c held a (work.Release r first second draws) w e k = h
  table_performs set n c held a work.Load w e k = table_reset a w e

  table_finish : (set : Setting) (held : List ℕ) (o : Option (Request Command)) (w : DiskWord) → loads_table w ≡ true → Table (finish_with set p held o w).shared.keys
  table_finish set held None w e = h
  table_finish set held (Some a) w e = table_performs set (length held) a.command held (owner_of a) (work_of set p (length held) a.command) w e (work_suits set p (length held) a.command)

table_seen : (set : Setting) (h : Flat) (w : Running) (k : Key) (seen : Seen) → Table h.shared.keys → Table (press_seen set.cipher h w k seen).state.shared.keys
table_seen set h w k Ignored t = t
table_seen set h w k (Took s) t = t
table_seen set h w k (Ended s c) t = t

table_press : (set : Setting) (h : Flat) (o : Option Running) (k : Key) → Table h.shared.keys → Table (press_in set.cipher h o k).state.shared.keys
table_press set h None k t = t
table_press set h (Some w) k t = table_after (has_key w.entry.active k) _ (record { state = h; outs = [] }) (table_seen set h w k (active_seen w.entry (length (entered w.entry h.presses)) k) t) t

next_table : (law : ChangesKeepATable) (set : Setting) (h : Flat) (s : Step) (w : DiskWord) → loads_table w ≡ true → Table h.shared.keys → Table (next set h s w).state.shared.keys
next_table law set h (step.Open s) w e t = table_if law h.shared t (is_open s h.shared.sessions) _ _ t t
next_table law set h (step.Close s) w e t = table_own law h.shared t s _ t
next_table law set h (step.Listen s c) w e t = table_own law h.shared t s _ t
next_table law set h (step.Lock s) w e t = table_own law h.shared t s _ t
next_table law set h (step.Unlock s) w e t = table_own law h.shared t s _ (table_if law h.shared t (holds s h.shared.line) _ _ t t)
next_table law set h (step.Submit s limit c) w e t = table_submit law h.shared t (submit_refusal set.pin_rules h.shared s c) s limit c
next_table law set h (step.Cancel s id) w e t = table_own law h.shared t s _ (table_if law h.shared t (not (id == 0) && (length (pending_where (is_canceled h.shared s id) h.shared.requests) == 0)) _ _ t t)
next_table law set h step.Begin w e t = table_if law h.shared t (is_off h.shared.device) _ _ t (table_begin_with law h.shared t (request_in_work h.shared.requests) (eligible (holder_of h.shared.line) h.shared.requests))
next_table law set h step.Finish w e t = table_finish law h.shared t set h.held (request_in_work h.shared.requests) w e
next_table law set h (step.Press k) w e t = table_press set h (running_entry h.shared) k t
next_table law set h (step.Tick n) w e t = t
next_table law set h (step.Ask s q) w e t = table_own law h.shared t s _ t
next_table law set h step.Off w e t = table_if law h.shared t (is_off h.shared.device) _ _ t t
next_table law set h step.Boot w e t = table_if law h.shared t (is_off h.shared.device) _ _ (table_loads law h.shared t w e) t

pub table_step : (law : ChangesKeepATable) (set : Setting) (h : Flat) (s : Step) (w : DiskWord) → IsTrue (loads_table w) → IsTrue (is_table h.shared.keys) → IsTrue (is_table (next set h s w).state.shared.keys)
table_step law set h s w e t = next_table law set h s w e t

table_run : (law : ChangesKeepATable) (set : Setting) (h : Flat) (acts : List Act) → list_all (λ (a : Act). loads_table a.word) acts ≡ true → IsTrue (is_table h.shared.keys) → IsTrue (is_table (run_from set h acts).shared.keys)
table_run law set h [] e t = t
table_run law set h (a ∷ acts) e t =
    let parts = both (loads_table a.word) (list_all (λ (b : Act). loads_table b.word) acts) e in
    table_run law set (next set h a.step a.word).state acts parts.1 (table_step law set h a.step a.word parts.0 t)

pub table_runs : (law : ChangesKeepATable) (set : Setting) (start : Flat) (acts : List Act) → IsStart start → IsTrue (list_all (λ (a : Act). loads_table a.word) acts) → IsTrue (is_table (run_from set start acts).shared.keys)
table_runs law set start acts (inl e) loaded = table_run law set start acts loaded (subst (λ (h : Flat). is_table h.shared.keys ≡ true) (sym e) refl)
table_runs law set start acts (inr e) loaded = table_run law set start acts loaded (subst (λ (h : Flat). is_table h.shared.keys ≡ true) (sym e) refl)
