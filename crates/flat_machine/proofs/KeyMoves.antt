-- What each step does to the key rows.
use Rattle.check_values.specs.CheckValues.{check_value}
use Rattle.entry_core.specs.Entries.{Entry, active_seen, entered, entry_of, entry_refusal}
use Rattle.entry_core.specs.declared.seen.Seen.{Seen}
use Rattle.entry_core.specs.declared.seen.Seen.TheVariants.{Ended, Ignored, Took}
use Rattle.flat_machine.proofs.DecisionChains.{decides}
use Rattle.flat_machine.specs.AccessFacts.{ImportIsReady}
use Rattle.flat_machine.specs.Commands.{work_of}
use Rattle.flat_machine.specs.EntrySteps.{begin_as, begin_entry, begin_with, first_of, press_in, press_seen}
use Rattle.flat_machine.specs.FinishSteps.{deletes, finish_with, imports, inits, performs, resets}
use Rattle.flat_machine.specs.Machine.{next}
use Rattle.flat_machine.specs.Power.{loads, replaces}
use Rattle.flat_machine.specs.RequestSteps.{is_canceled, submit_by, submit_refusal}
use Rattle.flat_machine.specs.SessionSteps.{if_open}
use Rattle.flat_machine.specs.Settings.{Setting}
use Rattle.flat_machine.specs.State.{After, Flat, Running, Said, Shared, device_refusal, is_off, owner_of, running_entry, says}
use Rattle.flat_machine.specs.declared.types.Owner.{Owner}
use Rattle.flat_machine.specs.declared.types.Work.{Work}
use Rattle.flat_machine.specs.declared.types.Work.TheVariants as work
use Rattle.device_lock.specs.LockLine.{holder_of, holds}
use Rattle.key_attributes.specs.declared.KeyRow.{KeyRow}
use Rattle.key_import.specs.Imports as source
use Rattle.key_source.specs.Keys.{has_key}
use Rattle.key_source.specs.declared.Key.{Key}
use Rattle.key_table.specs.Changes.{Change, change_to, changed, erasure, erasures}
use Rattle.key_table.specs.KeyRows.{KeyRows, with_row}
use Rattle.request_queue.specs.Requests.{eligible, pending_where, request_in_work}
use Rattle.request_queue.specs.declared.requests.Request.{Request}
use Rattle.session_book.specs.Sessions.{is_open}
use Rattle.pad_steps.specs.declared.answers.Refusal.{Refusal}
use Rattle.pad_steps.specs.declared.commands.Command.{Command}
use Rattle.pad_steps.specs.declared.commands.ImportRequest.{ImportRequest}
use Rattle.pad_steps.specs.declared.steps.DiskWord.{DiskWord}
use Rattle.pad_steps.specs.declared.steps.Step.{Step}
use Rattle.pad_words.specs.declared.numbers.Session.{Session}
use Rattle.std.proofs.Common.{ap, subst, sym, ◌∙◌}
use Rattle.std.specs.List.{AllByRecursion}
use Rattle.std.specs.Prelude.{Bool, List, None, Option, Some, [], cond, false, length, not, refl, suc, take, true, zero, ℕ, ◌&&◌, ◌==◌, ◌∷◌, ◌≡◌}
use Rattle.pad_steps.specs.declared.answers.Out.TheVariants as out
use Rattle.pad_steps.specs.declared.answers.Refusal.TheVariants as refusal
use Rattle.pad_steps.specs.declared.answers.Told.TheVariants as told
use Rattle.pad_steps.specs.declared.commands.Command.TheVariants as command
use Rattle.pad_steps.specs.declared.steps.DiskWord.TheVariants as word
use Rattle.pad_steps.specs.declared.steps.Step.TheVariants as step

-- the change empties its slot
abbrev pub Erases : Change → Type 0
Erases c = c.row ≡ None

-- what a step does to the key rows: they stay; they are loaded; an import in work puts its row; or slots are emptied
pub data KeyMove (set : Setting) (p : Shared) (w : DiskWord) (after : KeyRows) : Type 0 where
  KeysStay : after ≡ p.keys → KeyMove set p w after
  KeysLoaded : (rows : KeyRows) → w ≡ word.Loaded rows → after ≡ rows → KeyMove set p w after
  KeysPut : (a : Request Command) (r : ImportRequest) (kek : Option (List ℕ)) (row : KeyRow) (slot : ℕ) → request_in_work p.requests ≡ Some a → a.command ≡ command.ImportKey r → ImportIsReady set p r kek row slot → after ≡ with_row slot row p.keys → KeyMove set p w after
  KeysErased : (todo : List Change) → AllByRecursion Erases todo → after ≡ changed todo p.keys → KeyMove set p w after

-- a row that is kept is that of an import that is ready
pub record Kept (set : Setting) (p : Shared) (c : Command) (slot : ℕ) (row : KeyRow) : Type 0 where
  pub request : ImportRequest
  pub kek : Option (List ℕ)
  pub asked : c ≡ command.ImportKey request
  pub ready : ImportIsReady set p request kek row slot

module _ (set : Setting) (p : Shared) (n : ℕ) (c : Command) (slot : ℕ) (row : KeyRow) (check : Option (List ℕ)) (from_part : Bool) where
  is_kept : (r : ImportRequest) (kek : Option (List ℕ)) (new : KeyRow) (at : ℕ) (value : Option (List ℕ)) (part : Bool) → c ≡ command.ImportKey r → ImportIsReady set p r kek new at → work.Keep at new value part ≡ work.Keep slot row check from_part → Kept set p c slot row
  is_kept r kek new at value part is ready e = record { request = r; kek = kek; asked = is; ready = subst (λ (x : KeyRow). ImportIsReady set p r kek x slot) (same_row new at value part e) (subst (ImportIsReady set p r kek new) (same_slot new at value part e) ready) }
    where
      same_slot : (new : KeyRow) (at : ℕ) (value : Option (List ℕ)) (part : Bool) → work.Keep at new value part ≡ work.Keep slot row check from_part → at ≡ slot
      same_slot new at value part e = cc

      same_row : (new : KeyRow) (at : ℕ) (value : Option (List ℕ)) (part : Bool) → work.Keep at new value part ≡ work.Keep slot row check from_part → new ≡ row
      same_row new at value part e = cc

  abbrev keeps : Work → Bool
  keeps (work.Keep at new value part) = true
  keeps other = false

  not_kept : (v : Work) → keeps v ≡ false → v ≡ work.Keep slot row check from_part → Kept set p c slot row
  not_kept v e is = absurd (true_not (sym e ∙ ap keeps is))
    where
      true_not : false ≡ true → ⊥
      true_not e = cc

  kept_ready : work_of set p n c ≡ work.Keep slot row check from_part → Kept set p c slot row
  kept_ready = decides set p n (λ v. v ≡ work.Keep slot row check from_part → Kept set p c slot row) c (record {
    waits = λ none. not_kept work.Waits refl;
    device = λ r is. not_kept (work.Refuse r None) refl;
    denied = λ need why needed found. not_kept (work.Refuse _ (Some need.name)) refl;
    own = λ r is. not_kept (work.Refuse r None) refl;
    absent = λ name is none. not_kept (work.Refuse refusal.KeyNotFound None) refl;
    maintained = λ on is. not_kept (work.Maintain on) refl;
    released = λ r first second draws is ready. not_kept (work.Release r first second draws) refl;
    answered = λ r key sealing is ready. not_kept (work.Answer _) refl;
    kept = λ r kek new at is ready. is_kept r kek new at (check_value set.cipher.tdea r.verify new.value) (source.is_part r.source) is ready;
    erased = λ name at is found. not_kept (work.Erase at) refl;
    erased_all = λ is. not_kept work.EraseAll refl;
    loaded = λ is. not_kept work.Load refl;
  })

erasures_erase : (rows : KeyRows) → AllByRecursion Erases (erasures rows)
erasures_erase [] = tt
erasures_erase (r ∷ rows) = (refl, erasures_erase rows)

take_erases : (n : ℕ) (todo : List Change) → AllByRecursion Erases todo → AllByRecursion Erases (take n todo)
take_erases zero todo h = tt
take_erases (suc n) [] h = tt
take_erases (suc n) (c ∷ todo) h = (h.0, take_erases n todo h.1)

take_none : (n : ℕ) (rows : KeyRows) → changed (take n []) rows ≡ rows
take_none zero rows = refl
take_none (suc n) rows = refl

module _ (set : Setting) (p : Shared) (w : DiskWord) where
  abbrev Moves_keys : Said → Type 0
  Moves_keys x = KeyMove set p w x.shared.keys

  keys_if : (b : Bool) (x y : Said) → Moves_keys x → Moves_keys y → Moves_keys (cond b x y)
  keys_if true x y one other = one
  keys_if false x y one other = other

  keys_own : (s : Session) (x : Said) → Moves_keys x → Moves_keys (if_open p s x)
  keys_own s x one = keys_if (is_open s p.sessions) x (says p (out.Told s (told.No refusal.NoSession))) one (KeysStay refl)

  keys_submit : (o : Option Refusal) (s : Session) (limit : ℕ) (c : Command) → Moves_keys (submit_by o p s limit c)
  keys_submit (Some r) s limit c = KeysStay refl
  keys_submit None s limit c = KeysStay refl

  keys_begin_entry : (a : Request Command) (e : Entry) (r : Option Refusal) → Moves_keys (begin_entry p a e r)
  keys_begin_entry a e (Some r) = KeysStay refl
  keys_begin_entry a e None = KeysStay refl

  keys_begin_as : (a : Request Command) (e : Option Entry) → Moves_keys (begin_as p a e)
  keys_begin_as a None = KeysStay refl
  keys_begin_as a (Some e) = keys_begin_entry a e (first_of (device_refusal p.device) (entry_refusal e))

  keys_begin_with : (o q : Option (Request Command)) → Moves_keys (begin_with p o q)
  keys_begin_with (Some a) q = KeysStay refl
  keys_begin_with None None = KeysStay refl
  keys_begin_with None (Some a) = keys_begin_as a (entry_of a.command)

  keys_loads : (d : DiskWord) → w ≡ d → Moves_keys (loads p d)
  keys_loads word.Quiet e = KeysStay refl
  keys_loads word.Done e = KeysStay refl
  keys_loads (word.Failed n) e = KeysStay refl
  keys_loads (word.Cut n) e = KeysStay refl
  keys_loads (word.Loaded rows) e = KeysLoaded rows e refl
  keys_loads (word.Bad slot) e = KeysStay refl

  keys_reset : (a : Owner) (d : DiskWord) → w ≡ d → Moves_keys (resets a d p)
  keys_reset a word.Quiet e = KeysStay refl
  keys_reset a word.Done e = KeysStay refl
  keys_reset a (word.Failed n) e = KeysStay refl
  keys_reset a (word.Cut n) e = KeysStay refl
  keys_reset a (word.Loaded rows) e = KeysLoaded rows e refl
  keys_reset a (word.Bad slot) e = KeysStay refl

  keys_replaces : (a : Owner) (todo : List Change) (done : Shared → Said) (d : DiskWord) → KeyMove set p w (changed todo p.keys) → ((n : ℕ) → KeyMove set p w (changed (take n todo) p.keys)) → ((q : Shared) → (done q).shared.keys ≡ q.keys) → Moves_keys (replaces p a todo done d)
  keys_replaces a todo done word.Quiet whole parts same = subst (KeyMove set p w) (sym (same (record p { keys = changed todo p.keys }))) whole
  keys_replaces a todo done word.Done whole parts same = subst (KeyMove set p w) (sym (same (record p { keys = changed todo p.keys }))) whole
  keys_replaces a todo done (word.Failed n) whole parts same = parts n
  keys_replaces a todo done (word.Cut n) whole parts same = parts n
  keys_replaces a todo done (word.Loaded rows) whole parts same = subst (KeyMove set p w) (sym (same (record p { keys = changed todo p.keys }))) whole
  keys_replaces a todo done (word.Bad slot) whole parts same = subst (KeyMove set p w) (sym (same (record p { keys = changed todo p.keys }))) whole

  keys_put : (a : Request Command) (slot : ℕ) (row : KeyRow) → request_in_work p.requests ≡ Some a → Kept set p a.command slot row → (n : ℕ) → KeyMove set p w (changed (take n (change_to (slot, row) ∷ [])) p.keys)
  keys_put a slot row in_work kept zero = KeysStay refl
  keys_put a slot row in_work kept (suc n) = KeysPut a kept.request kept.kek row slot in_work kept.asked kept.ready (take_none n (with_row slot row p.keys))

  keys_erased : (todo : List Change) → AllByRecursion Erases todo → (n : ℕ) → KeyMove set p w (changed (take n todo) p.keys)
  keys_erased todo h n = KeysErased (take n todo) (take_erases n todo h) refl

  keys_performs : (n : ℕ) (held : List ℕ) (a : Request Command) (v : Work) → request_in_work p.requests ≡ Some a → work_of set p n a.command ≡ v → Moves_keys (performs set p held (owner_of a) v w)
  keys_performs n held a work.Waits in_work e = KeysStay refl
  keys_performs n held a (work.Refuse r accused) in_work e = KeysStay refl
  keys_performs n held a (work.Answer x) in_work e = KeysStay refl
  keys_performs n held a (work.Maintain on) in_work e = KeysStay refl
  keys_performs n held a (work.Keep slot row check from_part) in_work e =
      let kept = kept_ready set p n a.command slot row check from_part e in
      keys_replaces (owner_of a) (change_to (slot, row) ∷ []) (imports (owner_of a) check from_part) w (keys_put a slot row in_work kept 1) (keys_put a slot row in_work kept) (λ q. refl)
  keys_performs n held a (work.Erase slot) in_work e = keys_replaces (owner_of a) (erasure slot ∷ []) (deletes (owner_of a)) w (KeysErased (erasure slot ∷ []) (refl, tt) refl) (keys_erased (erasure slot ∷ []) (refl, tt)) (λ q. refl)
  keys_performs n held a work.EraseAll in_work e = keys_replaces (owner_of a) (erasures p.keys) (inits (owner_of a)) w (KeysErased (erasures p.keys) (erasures_erase p.keys) refl) (keys_erased (erasures p.keys) (erasures_erase p.keys)) (λ q. refl)
  keys_performs n held a (work.Release r first second draws) in_work e = KeysStay refl
  keys_performs n held a work.Load in_work e = keys_reset (owner_of a) w refl

  keys_finish : (held : List ℕ) (o : Option (Request Command)) → request_in_work p.requests ≡ o → Moves_keys (finish_with set p held o w)
  keys_finish held None e = KeysStay refl
  keys_finish held (Some a) e = keys_performs (length held) held a (work_of set p (length held) a.command) e refl

  keys_after : (b : Bool) (x y : After) → KeyMove set p w x.state.shared.keys → KeyMove set p w y.state.shared.keys → KeyMove set p w (cond b x y).state.shared.keys
  keys_after true x y one other = one
  keys_after false x y one other = other

keys_seen : (set : Setting) (h : Flat) (w : DiskWord) (current : Running) (k : Key) (seen : Seen) → KeyMove set h.shared w (press_seen set.cipher h current k seen).state.shared.keys
keys_seen set h w current k Ignored = KeysStay refl
keys_seen set h w current k (Took s) = KeysStay refl
keys_seen set h w current k (Ended s c) = KeysStay refl

keys_press : (set : Setting) (h : Flat) (w : DiskWord) (o : Option Running) (k : Key) → KeyMove set h.shared w (press_in set.cipher h o k).state.shared.keys
keys_press set h w None k = KeysStay refl
keys_press set h w (Some current) k = keys_after set h.shared w (has_key current.entry.active k) _ (record { state = h; outs = [] }) (keys_seen set h w current k (active_seen current.entry (length (entered current.entry h.presses)) k)) (KeysStay refl)

pub key_moves : (set : Setting) (h : Flat) (s : Step) (w : DiskWord) → KeyMove set h.shared w (next set h s w).state.shared.keys
key_moves set h (step.Open s) w = keys_if set h.shared w (is_open s h.shared.sessions) _ _ (KeysStay refl) (KeysStay refl)
key_moves set h (step.Close s) w = keys_own set h.shared w s _ (KeysStay refl)
key_moves set h (step.Listen s c) w = keys_own set h.shared w s _ (KeysStay refl)
key_moves set h (step.Lock s) w = keys_own set h.shared w s _ (KeysStay refl)
key_moves set h (step.Unlock s) w = keys_own set h.shared w s _ (keys_if set h.shared w (holds s h.shared.line) _ _ (KeysStay refl) (KeysStay refl))
key_moves set h (step.Submit s limit c) w = keys_submit set h.shared w (submit_refusal set.pin_rules h.shared s c) s limit c
key_moves set h (step.Cancel s id) w = keys_own set h.shared w s _ (keys_if set h.shared w (not (id == 0) && (length (pending_where (is_canceled h.shared s id) h.shared.requests) == 0)) _ _ (KeysStay refl) (KeysStay refl))
key_moves set h step.Begin w = keys_if set h.shared w (is_off h.shared.device) _ _ (KeysStay refl) (keys_begin_with set h.shared w (request_in_work h.shared.requests) (eligible (holder_of h.shared.line) h.shared.requests))
key_moves set h step.Finish w = keys_finish set h.shared w h.held (request_in_work h.shared.requests) refl
key_moves set h (step.Press k) w = keys_press set h w (running_entry h.shared) k
key_moves set h (step.Tick n) w = KeysStay refl
key_moves set h (step.Ask s q) w = keys_own set h.shared w s _ (KeysStay refl)
key_moves set h step.Off w = keys_if set h.shared w (is_off h.shared.device) _ _ (KeysStay refl) (KeysStay refl)
key_moves set h step.Boot w = keys_if set h.shared w (is_off h.shared.device) _ _ (keys_loads set h.shared w w refl) (KeysStay refl)
