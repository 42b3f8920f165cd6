-- Every step keeps a state sound.
use Rattle.flat_machine.specs.declared.types.Owner.{Owner}
use Rattle.flat_machine.specs.declared.types.Work.TheVariants as work
use Rattle.flat_machine.specs.declared.types.Work.{Work}
use Rattle.flat_machine.specs.Commands.{work_of}
use Rattle.flat_machine.proofs.PassLemmas.{allowed-on, pass-all_ended, pass-begun, pass-ended_where, pass-finished, pass-push, pass-refused_at_begin, pass-weaken}
use Rattle.flat_machine.proofs.SubmitLemmas.{submitted_ok}
use Rattle.entry_core.specs.Entries.{Entry, active_seen, entered, entry_of, entry_refusal}
use Rattle.flat_machine.specs.EntrySteps.{begin_as, begin_entry, begin_with, entry_answer, first_of, press_in, press_seen}
use Rattle.flat_machine.specs.FinishSteps.{deletes, device_reply, finish_with, imports, inits, performs, resets}
use Rattle.key_table.specs.Changes.{Change, change_to, changed, erasure, erasures}
use Rattle.key_table.specs.KeyRows.{KeyRows}
use Rattle.flat_machine.specs.Machine.{next}
use Rattle.flat_machine.specs.Power.{loads, replaces}
use Rattle.flat_machine.specs.RequestSteps.{is_canceled, submit_by, submit_refusal}
use Rattle.request_queue.specs.Requests.{eligible, ended_where, finished, is_due, pending_where, request_in_work}
use Rattle.pad_words.specs.Numbers.{same_session}
use Rattle.flat_machine.specs.SessionSteps.{if_open}
use Rattle.device_lock.specs.LockLine.{holder_of, holds}
use Rattle.session_book.specs.Sessions.{is_open}
use Rattle.flat_machine.specs.Sound.{Sound, SubmitsOk, allowed, pending_pass}
use Rattle.flat_machine.specs.State.{After, Flat, Shared, Running, Said, device_refusal, is_off, opening, owner_of, ready_opening, running_entry, says}
use Rattle.flat_machine.specs.Settings.{Setting}
use Rattle.flat_machine.specs.PinCommands.{pin_answer}
use Rattle.request_queue.specs.declared.requests.Request.{Request}
use Rattle.flat_machine.specs.declared.types.Device.{Device}
use Rattle.flat_machine.specs.declared.types.Device.TheVariants.{Bad, Off, Ready, Stopped}
use Rattle.entry_core.specs.declared.seen.Seen.{Seen}
use Rattle.entry_core.specs.declared.seen.Seen.TheVariants.{Ended, Ignored, Took}
use Rattle.key_source.specs.Keys.{has_key}
use Rattle.key_source.specs.declared.Key.{Key}
use Rattle.pad_steps.specs.declared.answers.Refusal.{Refusal}
use Rattle.pad_steps.specs.declared.answers.Reply.{Reply}
use Rattle.pad_steps.specs.declared.commands.Command.{Command}
use Rattle.pad_steps.specs.declared.steps.DiskWord.{DiskWord}
use Rattle.pad_steps.specs.declared.steps.Step.{Step}
use Rattle.pad_words.specs.declared.numbers.Session.{Session}
use Rattle.std.specs.Prelude.{Bool, IsTrue, List, None, Option, Some, [], cond, false, length, not, refl, true, ℕ, ◌&&◌, ◌+◌, ◌==◌, ◌∷◌, ◌≡◌}
use Rattle.pad_steps.specs.declared.answers.Answer.TheVariants as answer
use Rattle.pad_steps.specs.declared.answers.Out.TheVariants as out
use Rattle.pad_steps.specs.declared.answers.Refusal.TheVariants as refusal
use Rattle.pad_steps.specs.declared.answers.Reply.TheVariants as reply
use Rattle.pad_steps.specs.declared.answers.Told.TheVariants as told
use Rattle.pad_steps.specs.declared.steps.DiskWord.TheVariants as word
use Rattle.pad_steps.specs.declared.steps.Step.TheVariants as step

module _ (ok : Command → Bool) (p : Shared) (sound : Sound ok p) where
  sound_if : (b : Bool) (x y : Said) → Sound ok x.shared → Sound ok y.shared → Sound ok (cond b x y).shared
  sound_if true x y one other = one
  sound_if false x y one other = other

  sound_open : (s : Session) (x : Said) → Sound ok x.shared → Sound ok (if_open p s x).shared
  sound_open s x h = sound_if (is_open s p.sessions) x (says p (out.Told s (told.No refusal.NoSession))) h sound

  sound_ended : (test : Request Command → Bool) (r : Refusal) → IsTrue (pending_pass (allowed ok p.device) (ended_where test (reply.No r) p.requests))
  sound_ended test r = pass-ended_where (allowed ok p.device) test (reply.No r) p.requests sound

  -- the device is on after, and the requests go on as they were, or as the one in work ends
  sound_on : (e : Device) → is_off e ≡ false → IsTrue (pending_pass (allowed ok e) p.requests)
  sound_on e on = pass-weaken (allowed ok p.device) (allowed ok e) p.requests (λ c. allowed-on ok p.device e c on) sound

  sound_on_finished : (e : Device) (r : Reply) → is_off e ≡ false → IsTrue (pending_pass (allowed ok e) (finished r p.requests))
  sound_on_finished e r on = pass-finished (allowed ok e) r p.requests (sound_on e on)

  pub sound_finished : (r : Reply) → IsTrue (pending_pass (allowed ok p.device) (finished r p.requests))
  sound_finished r = pass-finished (allowed ok p.device) r p.requests sound

  sound_loads : (w : DiskWord) → Sound ok (loads p w).shared
  sound_loads word.Quiet = sound
  sound_loads word.Done = sound
  sound_loads (word.Failed n) = sound_on Stopped refl
  sound_loads (word.Cut n) = pass-all_ended (allowed ok Off) (reply.No refusal.ConnectionLost) p.requests
  sound_loads (word.Loaded rows) = sound_on Ready refl
  sound_loads (word.Bad slot) = sound_on (Bad slot) refl

  sound_submit : (s : Session) (limit : ℕ) (c : Command) (o : Option Refusal) → (o ≡ None → allowed ok p.device c ≡ true) → Sound ok (submit_by o p s limit c).shared
  sound_submit s limit c (Some r) good = sound
  sound_submit s limit c None good = pass-push (allowed ok p.device) p.requests (record { id = length p.requests + 1; session = s; submitted = p.clock; limit = limit; command = c }) sound (good refl)

  sound_begin_entry : (a : Request Command) (e : Entry) (r : Option Refusal) → Sound ok (begin_entry p a e r).shared
  sound_begin_entry a e (Some r) = pass-refused_at_begin (allowed ok p.device) (reply.No r) (holder_of p.line) p.requests sound
  sound_begin_entry a e None = pass-begun (allowed ok p.device) (holder_of p.line) p.requests sound

  sound_begin_as : (a : Request Command) (e : Option Entry) → Sound ok (begin_as p a e).shared
  sound_begin_as a None = pass-begun (allowed ok p.device) (holder_of p.line) p.requests sound
  sound_begin_as a (Some e) = sound_begin_entry a e (first_of (device_refusal p.device) (entry_refusal e))

  sound_begin_with : (w a : Option (Request Command)) → Sound ok (begin_with p w a).shared
  sound_begin_with (Some w) a = sound
  sound_begin_with None None = sound
  sound_begin_with None (Some a) = sound_begin_as a (entry_of a.command)

  sound_replaces : (a : Owner) (todo : List Change) (done : Shared → Said) (w : DiskWord) → ((keys : KeyRows) → Sound ok (done (record p { keys = keys })).shared) → Sound ok (replaces p a todo done w).shared
  sound_replaces a todo done word.Quiet d = d (changed todo p.keys)
  sound_replaces a todo done word.Done d = d (changed todo p.keys)
  sound_replaces a todo done (word.Failed n) d = sound_on_finished Stopped (reply.No refusal.HardwareError) refl
  sound_replaces a todo done (word.Cut n) d = pass-all_ended (allowed ok Off) (reply.No refusal.ConnectionLost) p.requests
  sound_replaces a todo done (word.Loaded rows) d = d (changed todo p.keys)
  sound_replaces a todo done (word.Bad slot) d = d (changed todo p.keys)

  sound_reset : (a : Owner) (w : DiskWord) → Sound ok (resets a w p).shared
  sound_reset a word.Quiet = sound_finished (device_reply p.device)
  sound_reset a word.Done = sound_finished (device_reply p.device)
  sound_reset a (word.Failed n) = sound_on_finished Stopped (reply.No refusal.HardwareError) refl
  sound_reset a (word.Cut n) = pass-all_ended (allowed ok Off) (reply.No refusal.ConnectionLost) p.requests
  sound_reset a (word.Loaded rows) = sound_on_finished Ready (reply.Ok answer.Done) refl
  sound_reset a (word.Bad slot) = sound_on_finished (Bad slot) (reply.No (refusal.BadStore slot)) refl

  sound_performs : (set : Setting) (held : List ℕ) (a : Owner) (v : Work) (w : DiskWord) → Sound ok (performs set p held a v w).shared
  sound_performs set held a work.Waits w = sound
  sound_performs set held a (work.Refuse r accused) w = sound_finished (reply.No r)
  sound_performs set held a (work.Answer x) w = sound_finished (reply.Ok x)
  sound_performs set held a (work.Maintain on) w = sound_finished (reply.Ok answer.Done)
  sound_performs set held a (work.Keep slot row x from_part) w = sound_replaces a (change_to (slot, row) ∷ []) (imports a x from_part) w (λ keys. sound_finished (reply.Ok (answer.Key x)))
  sound_performs set held a (work.Erase slot) w = sound_replaces a (erasure slot ∷ []) (deletes a) w (λ keys. sound_finished (reply.Ok answer.Done))
  sound_performs set held a work.EraseAll w = sound_replaces a (erasures p.keys) (inits a) w (λ keys. sound_finished (reply.Ok answer.Done))
  sound_performs set held a (work.Release r first second draws) w = sound_finished (reply.Ok (pin_answer set p.drawn held r first second draws))
  sound_performs set held a work.Load w = sound_reset a w

  sound_finish : (set : Setting) (held : List ℕ) (o : Option (Request Command)) (w : DiskWord) → Sound ok (finish_with set p held o w).shared
  sound_finish set held None w = sound
  sound_finish set held (Some a) w = sound_performs set held (owner_of a) (work_of set p (length held) a.command) w

press_if : (ok : Command → Bool) (b : Bool) (x y : After) → Sound ok x.state.shared → Sound ok y.state.shared → Sound ok (cond b x y).state.shared
press_if ok true x y one other = one
press_if ok false x y one other = other

sound_seen : (ok : Command → Bool) (set : Setting) (h : Flat) (w : Running) (k : Key) (seen : Seen) → Sound ok h.shared → Sound ok (press_seen set.cipher h w k seen).state.shared
sound_seen ok set h w k Ignored sound = sound
sound_seen ok set h w k (Took s) sound = sound
sound_seen ok set h w k (Ended s c) sound = sound_finished ok h.shared sound (reply.Ok (entry_answer set.cipher w.entry.kind w.entry.check c (entered w.entry (k ∷ h.presses))))

sound_press : (ok : Command → Bool) (set : Setting) (h : Flat) (o : Option Running) (k : Key) → Sound ok h.shared → Sound ok (press_in set.cipher h o k).state.shared
sound_press ok set h None k sound = sound
sound_press ok set h (Some w) k sound = press_if ok (has_key w.entry.active k) _ _ (sound_seen ok set h w k (active_seen w.entry (length (entered w.entry h.presses)) k) sound) sound

pub next_sound : (ok : Command → Bool) (set : Setting) (h : Flat) (s : Step) (w : DiskWord) → SubmitsOk ok set.pin_rules s → Sound ok h.shared → Sound ok (next set h s w).state.shared
next_sound ok set h (step.Open s) w good sound = sound_if ok h.shared sound (is_open s h.shared.sessions) _ _ sound sound
next_sound ok set h (step.Close s) w good sound = sound_open ok h.shared sound s _ (sound_ended ok h.shared sound (λ a. same_session a.session s) refusal.Canceled)
next_sound ok set h (step.Listen s c) w good sound = sound_open ok h.shared sound s _ sound
next_sound ok set h (step.Lock s) w good sound = sound_open ok h.shared sound s _ sound
next_sound ok set h (step.Unlock s) w good sound = sound_open ok h.shared sound s _ (sound_if ok h.shared sound (holds s h.shared.line) _ _ sound sound)
next_sound ok set h (step.Submit s limit c) w good sound = sound_submit ok h.shared sound s limit c (submit_refusal set.pin_rules h.shared s c) (submitted_ok ok set.pin_rules h.shared s c good)
next_sound ok set h (step.Cancel s id) w good sound = sound_open ok h.shared sound s _ (sound_if ok h.shared sound (not (id == 0) && (length (pending_where (is_canceled h.shared s id) h.shared.requests) == 0)) _ _ sound (sound_ended ok h.shared sound (is_canceled h.shared s id) refusal.Canceled))
next_sound ok set h step.Begin w good sound = sound_if ok h.shared sound (is_off h.shared.device) _ _ sound (sound_begin_with ok h.shared sound (request_in_work h.shared.requests) (eligible (holder_of h.shared.line) h.shared.requests))
next_sound ok set h step.Finish w good sound = sound_finish ok h.shared sound set h.held (request_in_work h.shared.requests) w
next_sound ok set h (step.Press k) w good sound = sound_press ok set h (running_entry h.shared) k sound
next_sound ok set h (step.Tick n) w good sound = sound_ended ok h.shared sound (is_due (h.shared.clock + n)) refusal.Timeout
next_sound ok set h (step.Ask s q) w good sound = sound_open ok h.shared sound s _ sound
next_sound ok set h step.Off w good sound = sound_if ok h.shared sound (is_off h.shared.device) _ _ sound (pass-all_ended (allowed ok Off) (reply.No refusal.ConnectionLost) h.shared.requests)
next_sound ok set h step.Boot w good sound = sound_if ok h.shared sound (is_off h.shared.device) _ _ (sound_loads ok h.shared sound w) sound

pub opening_sound : (ok : Command → Bool) → Sound ok opening.shared
opening_sound ok = refl

pub ready_opening_sound : (ok : Command → Bool) → Sound ok ready_opening.shared
ready_opening_sound ok = refl
