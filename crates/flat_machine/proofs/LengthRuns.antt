-- How long the part buffer is in every run, and that runs are sound.
use Rattle.flat_machine.proofs.BoolLemmas.{both}
use Rattle.flat_machine.proofs.EntryCommands.{part_of, pass-request_in_work, pass_first}
use Rattle.flat_machine.proofs.LengthLemmas.{ended_enough, length-entered-le}
use Rattle.flat_machine.proofs.PressWalk.{InWorkOf, running_request}
use Rattle.flat_machine.proofs.RequestRuns.{from_start}
use Rattle.flat_machine.proofs.SoundLemmas.{next_sound, opening_sound, ready_opening_sound}
use Rattle.flat_machine.proofs.StepWalk.{Walks, walk_begin, walk_cancel, walk_finish, walk_if, walk_if_open, walk_loads, walk_nothing, walk_power, walk_submit, walk_tick}
use Rattle.flat_machine.proofs.SubmitLemmas.{submit_room}
use Rattle.entry_core.specs.Entries.{Entry, active_seen, entered, is_key_part}
use Rattle.flat_machine.specs.EntrySteps.{press_in, press_seen}
use Rattle.flat_machine.specs.Facts.{IsStart}
use Rattle.flat_machine.specs.Machine.{Act, next, run_from}
use Rattle.flat_machine.specs.PinFacts.{is_part_length, passes_submit}
use Rattle.flat_machine.specs.RequestSteps.{command_refusal, invalid_if, is_canceled, is_part_count, submit_refusal}
use Rattle.request_queue.specs.Requests.{pending_where, request_in_work}
use Rattle.flat_machine.specs.SessionSteps.{if_open}
use Rattle.device_lock.specs.LockLine.{holds}
use Rattle.session_book.specs.Sessions.{is_open}
use Rattle.flat_machine.specs.Sound.{Sound, SubmitsOk, allowed}
use Rattle.flat_machine.specs.State.{After, Flat, Shared, Running, Said, is_off, running_entry, says}
use Rattle.flat_machine.specs.Settings.{Setting}
use Rattle.pin_blocks.specs.PinRules.{PinRules}
use Rattle.entry_core.specs.declared.seen.Seen.{Seen}
use Rattle.entry_core.specs.declared.seen.Seen.TheVariants.{Ended, Ignored, Took}
use Rattle.key_source.specs.Keys.{has_key}
use Rattle.key_source.specs.declared.Key.{Key}
use Rattle.pad_steps.specs.declared.answers.Completion.{Completion}
use Rattle.pad_steps.specs.declared.answers.Refusal.{Refusal}
use Rattle.pad_steps.specs.declared.answers.Shown.{Shown}
use Rattle.pad_steps.specs.declared.commands.Command.{Command}
use Rattle.pad_steps.specs.declared.commands.PartRules.{PartRules}
use Rattle.pad_steps.specs.declared.steps.DiskWord.{DiskWord}
use Rattle.pad_steps.specs.declared.steps.Step.{Step}
use Rattle.pad_words.specs.declared.numbers.Session.{Session}
use Rattle.std.proofs.Common.{arith, inl, inr, subst}
use Rattle.std.specs.Prelude.{Bool, IsTrue, List, None, Option, Some, [], cond, false, if◌then◌else◌, is_some, length, not, refl, true, ℕ, ◌==◌, ◌||◌, ◌∷◌, ◌≡◌, ◌≤◌, ◌⊎◌}
use Rattle.pad_steps.specs.declared.answers.Out.TheVariants as out
use Rattle.pad_steps.specs.declared.answers.Refusal.TheVariants as refusal
use Rattle.pad_steps.specs.declared.answers.Told.TheVariants as told
use Rattle.pad_steps.specs.declared.commands.Command.TheVariants as command
use Rattle.pad_steps.specs.declared.steps.Step.TheVariants as step

or_second : (a b : Bool) → b ≡ true → (a || b) ≡ true
or_second true b e = refl
or_second false b e = e

part_length_of : (count n : ℕ) → (n ≡ 0) ⊎ (n ≡ count) → is_part_count count ≡ true → is_part_length n ≡ true
part_length_of count n (inl e) is = rw e refl
part_length_of count n (inr e) is = rw e (or_second (count == 0) (is_part_count count) is)

part_if_ended : (b : Bool) (ds part : List ℕ) → (b ≡ true → is_part_length (length ds) ≡ true) → is_part_length (length part) ≡ true → is_part_length (length (if b then ds else part)) ≡ true
part_if_ended true ds part f h = f refl
part_if_ended false ds part f h = h

none_or_count : (e : Entry) (count : ℕ) (n : ℕ) → e.least ≡ count → e.greatest ≡ count → n ≤ e.greatest → (n ≡ 0) ⊎ (e.least ≤ n) → (n ≡ 0) ⊎ (n ≡ count)
none_or_count e count n l g most (inl z) = inl z
none_or_count e count n l g most (inr least) = inr (omega (arith, l, g, most, least))

abbrev PartFits : Shared → Type 0
PartFits p = is_part_length (length p.part) ≡ true

part_cond : (b : Bool) (x y : After) → PartFits x.state.shared → PartFits y.state.shared → PartFits (cond b x y).state.shared
part_cond true x y one other = one
part_cond false x y one other = other

module _ (ok : Command → Bool) (counted : (rules : PartRules) → IsTrue (ok (command.SecureKeyEntry rules)) → IsTrue (is_part_count rules.count)) (set : Setting) (h : Flat) (sound : Sound ok h.shared) (fits_before : PartFits h.shared) where
  in_work_passes : (w : Running) (at : InWorkOf h.shared.requests w) → ok at.request.command ≡ true
  in_work_passes w at = pass_first (ok at.request.command) (not (is_off h.shared.device)) (pass-request_in_work (allowed ok h.shared.device) h.shared.requests at.request sound at.work)

  part_ended : (w : Running) (k : Key) (s : Shown) (c : Completion) → InWorkOf h.shared.requests w → active_seen w.entry (length (entered w.entry h.presses)) k ≡ Ended s c → is_key_part w.entry.kind ≡ true → is_part_length (length (entered w.entry (k ∷ h.presses))) ≡ true
  part_ended w k s c at seen part =
      let of_part = part_of at.request.command w.entry at.entry part in
      let passes : ok (command.SecureKeyEntry of_part.rules) ≡ true = subst (λ (x : Command). ok x ≡ true) of_part.command (in_work_passes w at) in
      part_length_of of_part.rules.count (length (entered w.entry (k ∷ h.presses)))
      (none_or_count w.entry of_part.rules.count (length (entered w.entry (k ∷ h.presses))) of_part.least of_part.greatest (length-entered-le w.entry (k ∷ h.presses))
      (ended_enough w.entry h.presses k s c (omega (arith, of_part.least, of_part.greatest)) seen)) (counted of_part.rules passes)

  part_seen : (w : Running) (k : Key) (seen : Seen) → InWorkOf h.shared.requests w → active_seen w.entry (length (entered w.entry h.presses)) k ≡ seen → PartFits (press_seen set.cipher h w k seen).state.shared
  part_seen w k Ignored at e = fits_before
  part_seen w k (Took s) at e = fits_before
  part_seen w k (Ended s c) at e = part_if_ended (is_key_part w.entry.kind) (entered w.entry (k ∷ h.presses)) h.shared.part (part_ended w k s c at e) fits_before

  part_press : (o : Option Running) (k : Key) → running_entry h.shared ≡ o → PartFits (press_in set.cipher h o k).state.shared
  part_press None k runs = fits_before
  part_press (Some w) k runs = part_cond (has_key w.entry.active k) _ _ (part_seen w k (active_seen w.entry (length (entered w.entry h.presses)) k) (running_request h.shared w runs) refl) fits_before

  part_walk : (x : Said) → Walks h.shared x → PartFits x.shared
  part_walk x one = by_part one.part
    where
      by_part : (x.shared.part ≡ h.shared.part) ⊎ (x.shared.part ≡ []) → PartFits x.shared
      by_part (inl e) = rw e fits_before
      by_part (inr e) = rw e refl

  part_said : (b : Bool) (x y : Said) → x.shared.part ≡ h.shared.part → y.shared.part ≡ h.shared.part → PartFits (cond b x y).shared
  part_said true x y e f = rw e fits_before
  part_said false x y e f = rw f fits_before

  part_own : (s : Session) (x : Said) → x.shared.part ≡ h.shared.part → PartFits (if_open h.shared s x).shared
  part_own s x e = part_said (is_open s h.shared.sessions) x (says h.shared (out.Told s (told.No refusal.NoSession))) e refl

  unlock_part : (s : Session) (b : Bool) (x y : Said) → x.shared.part ≡ h.shared.part → y.shared.part ≡ h.shared.part → (cond b x y).shared.part ≡ h.shared.part
  unlock_part s true x y e f = e
  unlock_part s false x y e f = f

  pub next_part : (s : Step) (w : DiskWord) → PartFits (next set h s w).state.shared
  next_part (step.Open s) w = part_said (is_open s h.shared.sessions) _ _ refl refl
  next_part (step.Close s) w = part_own s _ refl
  next_part (step.Listen s c) w = part_own s _ refl
  next_part (step.Lock s) w = part_own s _ refl
  next_part (step.Unlock s) w = part_own s _ (unlock_part s (holds s h.shared.line) _ _ refl refl)
  next_part (step.Submit s limit c) w = part_walk _ (walk_submit h.shared (submit_refusal set.pin_rules h.shared s c) s limit c (submit_room set.pin_rules h.shared s c))
  next_part (step.Cancel s id) w = part_walk _ (walk_if_open h.shared s _ (walk_cancel h.shared s id (pending_where (is_canceled h.shared s id) h.shared.requests)))
  next_part step.Begin w = part_walk _ (walk_begin h.shared)
  next_part step.Finish w = part_walk _ (walk_finish set h.shared h.held (request_in_work h.shared.requests) w refl)
  next_part (step.Press k) w = part_press (running_entry h.shared) k refl
  next_part (step.Tick n) w = part_walk _ (walk_tick h.shared n)
  next_part (step.Ask s q) w = part_own s _ refl
  next_part step.Off w = part_walk _ (walk_if h.shared (is_off h.shared.device) _ _ (walk_nothing h.shared) (walk_power h.shared))
  next_part step.Boot w = part_walk _ (walk_if h.shared (is_off h.shared.device) _ _ (walk_loads h.shared w) (walk_nothing h.shared))

-- in every run

none_passes : (o : Option Refusal) → o ≡ None → not (is_some o) ≡ true
none_passes None e = refl
none_passes (Some r) e = cc

pub submits_pass : (pin_rules : PinRules) (s : Step) → SubmitsOk (passes_submit pin_rules) pin_rules s
submits_pass pin_rules (step.Open s) = tt
submits_pass pin_rules (step.Close s) = tt
submits_pass pin_rules (step.Listen s c) = tt
submits_pass pin_rules (step.Lock s) = tt
submits_pass pin_rules (step.Unlock s) = tt
submits_pass pin_rules (step.Submit s limit c) = none_passes (command_refusal pin_rules c)
submits_pass pin_rules (step.Cancel s id) = tt
submits_pass pin_rules step.Begin = tt
submits_pass pin_rules step.Finish = tt
submits_pass pin_rules (step.Press k) = tt
submits_pass pin_rules (step.Tick n) = tt
submits_pass pin_rules (step.Ask s q) = tt
submits_pass pin_rules step.Off = tt
submits_pass pin_rules step.Boot = tt

pub sound_runs : (set : Setting) (start : Flat) (acts : List Act) → IsStart start → Sound (passes_submit set.pin_rules) (run_from set start acts).shared
sound_runs set start acts begins = from_start set (λ (h : Flat). Sound (passes_submit set.pin_rules) h.shared) (λ h s w. next_sound (passes_submit set.pin_rules) set h s w (submits_pass set.pin_rules s)) (opening_sound (passes_submit set.pin_rules)) (ready_opening_sound (passes_submit set.pin_rules)) start acts begins

counted_if : (b : Bool) → not (is_some (invalid_if (not b))) ≡ true → b ≡ true
counted_if true e = refl
counted_if false e = cc

submitted_count : (pin_rules : PinRules) (rules : PartRules) → passes_submit pin_rules (command.SecureKeyEntry rules) ≡ true → is_part_count rules.count ≡ true
submitted_count pin_rules rules e = counted_if (is_part_count rules.count) e

abbrev SoundPart : Setting → Flat → Type 0
SoundPart set h = Sound (passes_submit set.pin_rules) h.shared × PartFits h.shared

next_sound_part : (set : Setting) (h : Flat) (s : Step) (w : DiskWord) → SoundPart set h → SoundPart set (next set h s w).state
next_sound_part set h s w both = (next_sound (passes_submit set.pin_rules) set h s w (submits_pass set.pin_rules s) both.0, next_part (passes_submit set.pin_rules) (submitted_count set.pin_rules) set h both.0 both.1 s w)

pub part_runs : (set : Setting) (start : Flat) (acts : List Act) → IsStart start → IsTrue (is_part_length (length (run_from set start acts).shared.part))
part_runs set start acts begins = (from_start set (SoundPart set) (next_sound_part set) (opening_sound (passes_submit set.pin_rules), refl) (ready_opening_sound (passes_submit set.pin_rules), refl) start acts begins).1

pub part_step : (ok : Command → Bool) (set : Setting) (h : Flat) (s : Step) (w : DiskWord) → ((rules : PartRules) → IsTrue (ok (command.SecureKeyEntry rules)) → IsTrue (is_part_count rules.count)) → Sound ok h.shared → IsTrue (is_part_length (length h.shared.part)) → IsTrue (is_part_length (length (next set h s w).state.shared.part))
part_step ok set h s w counted sound fits_before = next_part ok counted set h sound fits_before s w
