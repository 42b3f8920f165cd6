-- The clock goes on at a Tick alone, fill words are drawn and never given back, and the device is stopped by a fault alone.
use Rattle.entry_core.specs.Entries.{Entry, active_seen, entered, entry_of, entry_refusal}
use Rattle.entry_core.specs.declared.seen.Seen.{Seen}
use Rattle.entry_core.specs.declared.seen.Seen.TheVariants.{Ended, Ignored, Took}
use Rattle.flat_machine.specs.Commands.{work_of}
use Rattle.flat_machine.specs.DiskSteps.{is_failed}
use Rattle.flat_machine.specs.EntrySteps.{begin_as, begin_entry, begin_with, first_of, press_in, press_seen}
use Rattle.flat_machine.specs.FinishSteps.{deletes, finish_with, imports, inits, performs, resets}
use Rattle.flat_machine.specs.Machine.{next}
use Rattle.flat_machine.specs.Power.{loads, replaces}
use Rattle.flat_machine.specs.RequestSteps.{is_canceled, submit_by, submit_refusal}
use Rattle.flat_machine.specs.SessionSteps.{if_open}
use Rattle.flat_machine.specs.Settings.{Setting}
use Rattle.flat_machine.specs.State.{After, Flat, Running, Said, Shared, device_refusal, is_off, owner_of, running_entry, says}
use Rattle.flat_machine.specs.declared.types.Device.{Device}
use Rattle.flat_machine.specs.declared.types.Device.TheVariants.{Bad, Off, Ready, Stopped}
use Rattle.flat_machine.specs.declared.types.Owner.{Owner}
use Rattle.flat_machine.specs.declared.types.Work.{Work}
use Rattle.flat_machine.specs.declared.types.Work.TheVariants as work
use Rattle.device_lock.specs.LockLine.{holder_of, holds}
use Rattle.key_source.specs.Keys.{has_key}
use Rattle.key_source.specs.declared.Key.{Key}
use Rattle.key_table.specs.Changes.{Change, change_to, changed, erasure, erasures}
use Rattle.key_table.specs.KeyRows.{KeyRows}
use Rattle.request_queue.specs.Requests.{eligible, pending_where, request_in_work}
use Rattle.request_queue.specs.declared.requests.Request.{Request}
use Rattle.session_book.specs.Sessions.{is_open}
use Rattle.pad_steps.specs.declared.answers.Refusal.{Refusal}
use Rattle.pad_steps.specs.declared.commands.Command.{Command}
use Rattle.pad_steps.specs.declared.steps.DiskWord.{DiskWord}
use Rattle.pad_steps.specs.declared.steps.Step.{Step}
use Rattle.pad_words.specs.declared.numbers.Session.{Session}
use Rattle.std.proofs.Common.{ap, arith, inl, inr}
use Rattle.std.specs.Prelude.{Bool, List, None, Option, Some, [], cond, false, length, not, refl, true, ℕ, ◌&&◌, ◌+◌, ◌==◌, ◌∷◌, ◌≡◌, ◌≤◌, ◌⊎◌}
use Rattle.pad_steps.specs.declared.answers.Out.TheVariants as out
use Rattle.pad_steps.specs.declared.answers.Refusal.TheVariants as refusal
use Rattle.pad_steps.specs.declared.answers.Told.TheVariants as told
use Rattle.pad_steps.specs.declared.steps.DiskWord.TheVariants as word
use Rattle.pad_steps.specs.declared.steps.Step.TheVariants as step

-- the clock after a step
abbrev pub clock_after : Step → ℕ → ℕ
clock_after (step.Tick ticks) clock = clock + ticks
clock_after other clock = clock

-- what each step leaves of clock, drawn fill words and device
pub record Steady (p : Shared) (w : DiskWord) (now : ℕ) (x : Shared) : Type 0 where
  pub clock : x.clock ≡ now
  pub drawn : p.drawn ≤ x.drawn
  pub stopped : x.device ≡ Stopped → (p.device ≡ Stopped) ⊎ (is_failed w ≡ true)

not_stopped : {A : Type 0} → (d : Device) → d ≡ Stopped → is_off d ≡ true → A
not_stopped d e f = absurd (on (sym_ap e f))
  where
    sym_ap : d ≡ Stopped → is_off d ≡ true → is_off Stopped ≡ true
    sym_ap e f = rw e at f

    on : false ≡ true → ⊥
    on e = cc

module _ (p : Shared) (w : DiskWord) where
  same : Steady p w p.clock p
  same = record { clock = refl; drawn = omega arith; stopped = λ e. inl e }

  -- a state that differs in none of the three
  still : (x : Shared) → x.clock ≡ p.clock → x.drawn ≡ p.drawn → x.device ≡ p.device → Steady p w p.clock x
  still x c d e = record { clock = c; drawn = omega (arith, d); stopped = λ s. inl (rw e at s) }

  -- one that is off
  off_now : (x : Shared) → x.clock ≡ p.clock → x.drawn ≡ p.drawn → x.device ≡ Off → Steady p w p.clock x
  off_now x c d e = record { clock = c; drawn = omega (arith, d); stopped = λ s. not_stopped x.device s (ap is_off e) }

  steady_if : (c : ℕ) (b : Bool) (x y : Said) → Steady p w c x.shared → Steady p w c y.shared → Steady p w c (cond b x y).shared
  steady_if c true x y one other = one
  steady_if c false x y one other = other

  steady_own : (s : Session) (x : Said) → Steady p w p.clock x.shared → Steady p w p.clock (if_open p s x).shared
  steady_own s x one = steady_if p.clock (is_open s p.sessions) x (says p (out.Told s (told.No refusal.NoSession))) one same

  steady_submit : (o : Option Refusal) (s : Session) (limit : ℕ) (c : Command) → Steady p w p.clock (submit_by o p s limit c).shared
  steady_submit (Some r) s limit c = same
  steady_submit None s limit c = still _ refl refl refl

  steady_begin_entry : (a : Request Command) (e : Entry) (r : Option Refusal) → Steady p w p.clock (begin_entry p a e r).shared
  steady_begin_entry a e (Some r) = still _ refl refl refl
  steady_begin_entry a e None = still _ refl refl refl

  steady_begin_as : (a : Request Command) (e : Option Entry) → Steady p w p.clock (begin_as p a e).shared
  steady_begin_as a None = still _ refl refl refl
  steady_begin_as a (Some e) = steady_begin_entry a e (first_of (device_refusal p.device) (entry_refusal e))

  steady_begin_with : (o q : Option (Request Command)) → Steady p w p.clock (begin_with p o q).shared
  steady_begin_with (Some a) q = same
  steady_begin_with None None = same
  steady_begin_with None (Some a) = steady_begin_as a (entry_of a.command)

  ready_not : Ready ≡ Stopped → ⊥
  ready_not e = cc

  bad_not : (slot : ℕ) → Bad slot ≡ Stopped → ⊥
  bad_not slot e = cc

  steady_loads : (d : DiskWord) → w ≡ d → Steady p w p.clock (loads p d).shared
  steady_loads word.Quiet e = same
  steady_loads word.Done e = same
  steady_loads (word.Failed n) e = record { clock = refl; drawn = omega arith; stopped = λ s. inr (ap is_failed e) }
  steady_loads (word.Cut n) e = off_now _ refl refl refl
  steady_loads (word.Loaded rows) e = record { clock = refl; drawn = omega arith; stopped = λ s. absurd (ready_not s) }
  steady_loads (word.Bad slot) e = record { clock = refl; drawn = omega arith; stopped = λ s. absurd (bad_not slot s) }

  steady_reset : (a : Owner) (d : DiskWord) → w ≡ d → Steady p w p.clock (resets a d p).shared
  steady_reset a word.Quiet e = still _ refl refl refl
  steady_reset a word.Done e = still _ refl refl refl
  steady_reset a (word.Failed n) e = record { clock = refl; drawn = omega arith; stopped = λ s. inr (ap is_failed e) }
  steady_reset a (word.Cut n) e = off_now _ refl refl refl
  steady_reset a (word.Loaded rows) e = record { clock = refl; drawn = omega arith; stopped = λ s. absurd (ready_not s) }
  steady_reset a (word.Bad slot) e = record { clock = refl; drawn = omega arith; stopped = λ s. absurd (bad_not slot s) }

  steady_replaces : (a : Owner) (todo : List Change) (done : Shared → Said) (d : DiskWord) → w ≡ d → ((keys : KeyRows) → Steady p w p.clock (done (record p { keys = keys })).shared) → Steady p w p.clock (replaces p a todo done d).shared
  steady_replaces a todo done word.Quiet e k = k (changed todo p.keys)
  steady_replaces a todo done word.Done e k = k (changed todo p.keys)
  steady_replaces a todo done (word.Failed n) e k = record { clock = refl; drawn = omega arith; stopped = λ s. inr (ap is_failed e) }
  steady_replaces a todo done (word.Cut n) e k = off_now _ refl refl refl
  steady_replaces a todo done (word.Loaded rows) e k = k (changed todo p.keys)
  steady_replaces a todo done (word.Bad slot) e k = k (changed todo p.keys)

  steady_performs : (set : Setting) (held : List ℕ) (a : Owner) (v : Work) → Steady p w p.clock (performs set p held a v w).shared
  steady_performs set held a work.Waits = same
  steady_performs set held a (work.Refuse r accused) = still _ refl refl refl
  steady_performs set held a (work.Answer x) = still _ refl refl refl
  steady_performs set held a (work.Maintain on) = still _ refl refl refl
  steady_performs set held a (work.Keep slot row x from_part) = steady_replaces a (change_to (slot, row) ∷ []) (imports a x from_part) w refl (λ keys. still _ refl refl refl)
  steady_performs set held a (work.Erase slot) = steady_replaces a (erasure slot ∷ []) (deletes a) w refl (λ keys. still _ refl refl refl)
  steady_performs set held a work.EraseAll = steady_replaces a (erasures p.keys) (inits a) w refl (λ keys. still _ refl refl refl)
  steady_performs set held a (work.Release r first second draws) = record { clock = refl; drawn = omega arith; stopped = λ s. inl s }
  steady_performs set held a work.Load = steady_reset a w refl

  steady_finish : (set : Setting) (held : List ℕ) (o : Option (Request Command)) → Steady p w p.clock (finish_with set p held o w).shared
  steady_finish set held None = same
  steady_finish set held (Some a) = steady_performs set held (owner_of a) (work_of set p (length held) a.command)

  steady_after : (b : Bool) (x y : After) → Steady p w p.clock x.state.shared → Steady p w p.clock y.state.shared → Steady p w p.clock (cond b x y).state.shared
  steady_after true x y one other = one
  steady_after false x y one other = other

steady_seen : (set : Setting) (h : Flat) (w : DiskWord) (current : Running) (k : Key) (seen : Seen) → Steady h.shared w h.shared.clock (press_seen set.cipher h current k seen).state.shared
steady_seen set h w current k Ignored = same h.shared w
steady_seen set h w current k (Took s) = same h.shared w
steady_seen set h w current k (Ended s c) = still h.shared w _ refl refl refl

steady_press : (set : Setting) (h : Flat) (w : DiskWord) (o : Option Running) (k : Key) → Steady h.shared w h.shared.clock (press_in set.cipher h o k).state.shared
steady_press set h w None k = same h.shared w
steady_press set h w (Some current) k = steady_after h.shared w (has_key current.entry.active k) _ (record { state = h; outs = [] }) (steady_seen set h w current k (active_seen current.entry (length (entered current.entry h.presses)) k)) (same h.shared w)

pub steady : (set : Setting) (h : Flat) (s : Step) (w : DiskWord) → Steady h.shared w (clock_after s h.shared.clock) (next set h s w).state.shared
steady set h (step.Open s) w = steady_if h.shared w h.shared.clock (is_open s h.shared.sessions) _ _ (same h.shared w) (still h.shared w _ refl refl refl)
steady set h (step.Close s) w = steady_own h.shared w s _ (still h.shared w _ refl refl refl)
steady set h (step.Listen s c) w = steady_own h.shared w s _ (still h.shared w _ refl refl refl)
steady set h (step.Lock s) w = steady_own h.shared w s _ (still h.shared w _ refl refl refl)
steady set h (step.Unlock s) w = steady_own h.shared w s _ (steady_if h.shared w h.shared.clock (holds s h.shared.line) _ _ (still h.shared w _ refl refl refl) (same h.shared w))
steady set h (step.Submit s limit c) w = steady_submit h.shared w (submit_refusal set.pin_rules h.shared s c) s limit c
steady set h (step.Cancel s id) w = steady_own h.shared w s _ (steady_if h.shared w h.shared.clock (not (id == 0) && (length (pending_where (is_canceled h.shared s id) h.shared.requests) == 0)) _ _ (same h.shared w) (still h.shared w _ refl refl refl))
steady set h step.Begin w = steady_if h.shared w h.shared.clock (is_off h.shared.device) _ _ (same h.shared w) (steady_begin_with h.shared w (request_in_work h.shared.requests) (eligible (holder_of h.shared.line) h.shared.requests))
steady set h step.Finish w = steady_finish h.shared w set h.held (request_in_work h.shared.requests)
steady set h (step.Press k) w = steady_press set h w (running_entry h.shared) k
steady set h (step.Tick n) w = record { clock = refl; drawn = omega arith; stopped = λ s. inl s }
steady set h (step.Ask s q) w = steady_own h.shared w s _ (same h.shared w)
steady set h step.Off w = steady_if h.shared w h.shared.clock (is_off h.shared.device) _ _ (same h.shared w) (off_now h.shared w _ refl refl refl)
steady set h step.Boot w = steady_if h.shared w h.shared.clock (is_off h.shared.device) _ _ (steady_loads h.shared w w refl) (same h.shared w)
