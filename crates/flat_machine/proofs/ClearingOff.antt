-- In every run nothing is held while the device is off.
use Rattle.entry_core.specs.Entries.{active_seen, entered}
use Rattle.entry_core.specs.declared.seen.Seen.{Seen}
use Rattle.entry_core.specs.declared.seen.Seen.TheVariants.{Ended, Ignored, Took}
use Rattle.flat_machine.proofs.BoolLemmas.{both, true_is_not_false}
use Rattle.flat_machine.proofs.ClearingBegins.{BeginDoes, BeginsEntry, BeginsNone, begin_does}
use Rattle.flat_machine.proofs.EntryCommands.{pass-request_in_work}
use Rattle.flat_machine.proofs.LengthRuns.{submits_pass}
use Rattle.flat_machine.proofs.PinHeld.{left_held}
use Rattle.flat_machine.proofs.PressWalk.{running_request}
use Rattle.flat_machine.proofs.RequestRuns.{from_start}
use Rattle.flat_machine.proofs.SoundLemmas.{next_sound, opening_sound, ready_opening_sound}
use Rattle.flat_machine.specs.Clearing.{HoldsNothing}
use Rattle.flat_machine.specs.Commands.{work_of}
use Rattle.flat_machine.specs.EntrySteps.{next_begin, press_in, press_seen}
use Rattle.flat_machine.specs.Facts.{IsStart}
use Rattle.flat_machine.specs.FinishSteps.{deletes, finish_with, imports, inits, performs, resets}
use Rattle.flat_machine.specs.Machine.{Act, next, run_from}
use Rattle.flat_machine.specs.PinFacts.{leaves_pin, passes_submit}
use Rattle.flat_machine.specs.Power.{loads, powers_off, replaces}
use Rattle.flat_machine.specs.Settings.{Setting}
use Rattle.flat_machine.specs.Sound.{Sound, allowed}
use Rattle.flat_machine.specs.State.{After, Flat, Running, Said, Shared, after_said, is_off, owner_of, running_entry, unchanged}
use Rattle.flat_machine.specs.declared.types.Work.{Work}
use Rattle.flat_machine.specs.declared.types.Work.TheVariants as work
use Rattle.key_source.specs.Keys.{has_key}
use Rattle.key_source.specs.declared.Key.{Key}
use Rattle.key_table.specs.Changes.{Change, change_to, changed, erasure, erasures}
use Rattle.pad_steps.specs.declared.commands.Command.{Command}
use Rattle.pad_steps.specs.declared.steps.DiskWord.{DiskWord}
use Rattle.pad_steps.specs.declared.steps.DiskWord.TheVariants as word
use Rattle.pad_steps.specs.declared.steps.Step.{Step}
use Rattle.pad_steps.specs.declared.steps.Step.TheVariants as step
use Rattle.request_queue.specs.Requests.{request_in_work}
use Rattle.request_queue.specs.declared.requests.Request.{Request}
use Rattle.std.proofs.Common.{ap, sym, ◌∙◌}
use Rattle.std.specs.Prelude.{Bool, IsTrue, List, None, Option, Some, [], cond, false, length, not, refl, slice_get, take, true, ℕ, ◌∷◌, ◌≡◌}
use Rattle.flat_machine.proofs.ClearingSteps.{dropped, empty_if, keeps_all}

-- an effect leaves the device off with nothing held, or on, or leaves device, part buffer and maintain as they were
data Empties (p : Shared) (x : Said) : Type 0 where
  Emptied : x.drops_pin ≡ true → x.shared.part ≡ [] → x.shared.maintain ≡ false → Empties p x
  IsOn : is_off x.shared.device ≡ false → Empties p x
  Unaltered : x.shared.device ≡ p.device → x.shared.part ≡ p.part → x.shared.maintain ≡ p.maintain → Empties p x

abbrev OffEmpty : Flat → Type 0
OffEmpty h = is_off h.shared.device ≡ true → HoldsNothing h

empty_after : (h : Flat) (x : Said) → Empties h.shared x → OffEmpty h → OffEmpty (after_said h x).state
empty_after h x (Emptied drops part maintain) before = λ off. record { held = dropped x.drops_pin h.held drops; part = part; maintain = maintain }
empty_after h x (IsOn on) before = λ off. absurd (true_is_not_false (is_off x.shared.device) off on)
empty_after h x (Unaltered device part maintain) before = λ off.
    let was = before (sym (ap is_off device) ∙ off) in
    record { held = empty_if x.drops_pin h.held was.held; part = part ∙ was.part; maintain = maintain ∙ was.maintain }

empties_nothing : (p : Shared) → Empties p (unchanged p)
empties_nothing p = Unaltered refl refl refl

empties_power : (p : Shared) (q : Shared) → Empties p (powers_off q)
empties_power p q = Emptied refl refl refl

empties_loads : (p : Shared) (w : DiskWord) → Empties p (loads p w)
empties_loads p word.Quiet = empties_nothing p
empties_loads p word.Done = empties_nothing p
empties_loads p (word.Failed n) = IsOn refl
empties_loads p (word.Cut n) = empties_power p p
empties_loads p (word.Loaded rows) = IsOn refl
empties_loads p (word.Bad slot) = IsOn refl

empties_if : (p : Shared) (b : Bool) (x y : Said) → (b ≡ true → Empties p x) → (b ≡ false → Empties p y) → Empties p (cond b x y)
empties_if p true x y one other = one refl
empties_if p false x y one other = other refl

-- a Begin where the device is off does nothing
begin_empties : (p : Shared) → BeginDoes p (next_begin p) → (b : Bool) → is_off p.device ≡ b → Empties p (next_begin p)
begin_empties p does true off = Unaltered (at (λ (x : Said). x.shared.device ≡ p.device) refl) (at (λ (x : Said). x.shared.part ≡ p.part) refl) (at (λ (x : Said). x.shared.maintain ≡ p.maintain) refl)
  where
    at : (P : Said → Type 0) → P (unchanged p) → P (next_begin p)
    at P k = rw off k
begin_empties p (BeginsNone runs drops part device) false on = IsOn (ap is_off device ∙ on)
begin_empties p (BeginsEntry current none runs drops part device) false on = IsOn (ap is_off device ∙ on)

module _ (p : Shared) (a : Request Command) (on : is_off p.device ≡ false) where
  empties_replaces : (todo : List Change) (done : Shared → Said) (w : DiskWord) → ((q : Shared) → (done q).shared.device ≡ q.device) → Empties p (replaces p (owner_of a) todo done w)
  empties_replaces todo done word.Quiet k = IsOn (ap is_off (k _) ∙ on)
  empties_replaces todo done word.Done k = IsOn (ap is_off (k _) ∙ on)
  empties_replaces todo done (word.Failed n) k = IsOn refl
  empties_replaces todo done (word.Cut n) k = empties_power p (record p { keys = changed (take n todo) p.keys; doubt = slice_get todo n })
  empties_replaces todo done (word.Loaded rows) k = IsOn (ap is_off (k _) ∙ on)
  empties_replaces todo done (word.Bad slot) k = IsOn (ap is_off (k _) ∙ on)

  empties_reset : (w : DiskWord) → Empties p (resets (owner_of a) w p)
  empties_reset word.Quiet = IsOn on
  empties_reset word.Done = IsOn on
  empties_reset (word.Failed n) = IsOn refl
  empties_reset (word.Cut n) = Emptied refl refl refl
  empties_reset (word.Loaded rows) = IsOn refl
  empties_reset (word.Bad slot) = IsOn refl

  empties_performs : (set : Setting) (held : List ℕ) (v : Work) (w : DiskWord) → Empties p (performs set p held (owner_of a) v w)
  empties_performs set held work.Waits w = IsOn on
  empties_performs set held (work.Refuse r accused) w = IsOn on
  empties_performs set held (work.Answer x) w = IsOn on
  empties_performs set held (work.Maintain flag) w = IsOn on
  empties_performs set held (work.Keep slot row x from_part) w = empties_replaces (change_to (slot, row) ∷ []) (imports (owner_of a) x from_part) w (λ q. refl)
  empties_performs set held (work.Erase slot) w = empties_replaces (erasure slot ∷ []) (deletes (owner_of a)) w (λ q. refl)
  empties_performs set held work.EraseAll w = empties_replaces (erasures p.keys) (inits (owner_of a)) w (λ q. refl)
  empties_performs set held (work.Release r first second draws) w = IsOn on
  empties_performs set held work.Load w = empties_reset w

not_true : (b : Bool) → not b ≡ true → b ≡ false
not_true true e = cc
not_true false e = refl

-- where a request is in work, the device is not off
on_in_work : (set : Setting) (p : Shared) (a : Request Command) → Sound (passes_submit set.pin_rules) p → request_in_work p.requests ≡ Some a → is_off p.device ≡ false
on_in_work set p a sound is = not_true (is_off p.device) (both (passes_submit set.pin_rules a.command) (not (is_off p.device)) (pass-request_in_work (allowed (passes_submit set.pin_rules) p.device) p.requests a sound is)).1

module _ (set : Setting) (h : Flat) (sound : Sound (passes_submit set.pin_rules) h.shared) where
  empties_finish : (o : Option (Request Command)) (w : DiskWord) → request_in_work h.shared.requests ≡ o → Empties h.shared (finish_with set h.shared h.held o w)
  empties_finish None w is = empties_nothing h.shared
  empties_finish (Some a) w is = empties_performs h.shared a (on_in_work set h.shared a sound is) set h.held (work_of set h.shared (length h.held) a.command) w

  device_seen : (c : Running) (k : Key) (seen : Seen) → (press_seen set.cipher h c k seen).state.shared.device ≡ h.shared.device
  device_seen c k Ignored = refl
  device_seen c k (Took s) = refl
  device_seen c k (Ended s by) = refl

  press_cond : (b : Bool) (x : After) → OffEmpty x.state → OffEmpty h → OffEmpty (cond b x (record { state = h; outs = [] })).state
  press_cond true x one other = one
  press_cond false x one other = other

  empty_press : (o : Option Running) (k : Key) → running_entry h.shared ≡ o → OffEmpty h → OffEmpty (press_in set.cipher h o k).state
  empty_press None k runs before = before
  empty_press (Some c) k runs before =
      let at = running_request h.shared c runs in
      let seen = active_seen c.entry (length (entered c.entry h.presses)) k in
      press_cond (has_key c.entry.active k) _ (λ off. absurd (true_is_not_false _ off (ap is_off (device_seen c k seen) ∙ on_in_work set h.shared at.request sound at.work))) before

  empty_quiet : (s : Step) (w : DiskWord) → IsTrue (leaves_pin s) → OffEmpty h → OffEmpty (next set h s w).state
  empty_quiet s w is before = λ off.
      let all = keeps_all set h s w is in
      let was = before (sym (ap is_off all.device) ∙ off) in
      record { held = left_held set h s w is ∙ was.held; part = all.part ∙ was.part; maintain = all.maintain ∙ was.maintain }

  next_empty : (s : Step) (w : DiskWord) → OffEmpty h → OffEmpty (next set h s w).state
  next_empty (step.Open s) w before = empty_quiet (step.Open s) w refl before
  next_empty (step.Close s) w before = empty_quiet (step.Close s) w refl before
  next_empty (step.Listen s c) w before = empty_quiet (step.Listen s c) w refl before
  next_empty (step.Lock s) w before = empty_quiet (step.Lock s) w refl before
  next_empty (step.Unlock s) w before = empty_quiet (step.Unlock s) w refl before
  next_empty (step.Submit s limit c) w before = empty_quiet (step.Submit s limit c) w refl before
  next_empty (step.Cancel s id) w before = empty_quiet (step.Cancel s id) w refl before
  next_empty step.Begin w before = empty_after h _ (begin_empties h.shared (begin_does h.shared) (is_off h.shared.device) refl) before
  next_empty step.Finish w before = empty_after h _ (empties_finish (request_in_work h.shared.requests) w refl) before
  next_empty (step.Press k) w before = empty_press (running_entry h.shared) k refl before
  next_empty (step.Tick n) w before = empty_quiet (step.Tick n) w refl before
  next_empty (step.Ask s q) w before = empty_quiet (step.Ask s q) w refl before
  next_empty step.Off w before = empty_after h _ (empties_if h.shared (is_off h.shared.device) _ _ (λ off. empties_nothing h.shared) (λ on. empties_power h.shared h.shared)) before
  next_empty step.Boot w before = empty_after h _ (empties_if h.shared (is_off h.shared.device) _ _ (λ off. empties_loads h.shared w) (λ on. empties_nothing h.shared)) before

abbrev SoundEmpty : Setting → Flat → Type 0
SoundEmpty set h = Sound (passes_submit set.pin_rules) h.shared × OffEmpty h

next_sound_empty : (set : Setting) (h : Flat) (s : Step) (w : DiskWord) → SoundEmpty set h → SoundEmpty set (next set h s w).state
next_sound_empty set h s w both = (next_sound (passes_submit set.pin_rules) set h s w (submits_pass set.pin_rules s) both.0, next_empty set h both.0 s w both.1)

empty_runs : (set : Setting) (start : Flat) (acts : List Act) → IsStart start → SoundEmpty set (run_from set start acts)
empty_runs set start acts begins = from_start set (SoundEmpty set) (next_sound_empty set)
    (opening_sound (passes_submit set.pin_rules), λ off. record { held = refl; part = refl; maintain = refl })
    (ready_opening_sound (passes_submit set.pin_rules), λ off. record { held = refl; part = refl; maintain = refl }) start acts begins

pub nothing_while_off : (set : Setting) (start : Flat) (acts : List Act) → IsStart start → IsTrue (is_off (run_from set start acts).shared.device) → HoldsNothing (run_from set start acts)
nothing_while_off set start acts begins off = (empty_runs set start acts begins).1 off

-- after Off the device is off
off_device : (p : Shared) (b : Bool) → is_off p.device ≡ b → is_off (cond b (unchanged p) (powers_off p)).shared.device ≡ true
off_device p true e = e
off_device p false e = refl

pub nothing_after_off : (set : Setting) (start : Flat) (acts : List Act) → IsStart start → (w : DiskWord) → HoldsNothing (next set (run_from set start acts) step.Off w).state
nothing_after_off set start acts begins w =
    let h = run_from set start acts in
    (next_sound_empty set h step.Off w (empty_runs set start acts begins)).1 (off_device h.shared (is_off h.shared.device) refl)
