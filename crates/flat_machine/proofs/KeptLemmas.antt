-- Each step of what is kept is the step of the state.
use Rattle.flat_machine.proofs.EntryStays.{Drops, Keeps, KeepsEntry, keeps_begin, keeps_cancel, keeps_close, keeps_finish, keeps_if, keeps_if_open, keeps_loads, keeps_open, keeps_power, keeps_submit, keeps_tick, keeps_unlock}
use Rattle.entry_core.specs.Entries.{active_seen, after_value, digit_in, entered}
use Rattle.flat_machine.specs.EntrySteps.{after_entry, press_in, press_seen}
use Rattle.flat_machine.specs.Kept.{KeptAfter, digits_of, kept_next, kept_of, kept_press_in, kept_said, kept_seen}
use Rattle.flat_machine.specs.Machine.{next}
use Rattle.flat_machine.specs.RequestSteps.{is_canceled, submit_refusal}
use Rattle.request_queue.specs.Requests.{pending_where, request_in_work}
use Rattle.flat_machine.specs.State.{After, Flat, Shared, Running, Said, after_said, is_off, running_entry}
use Rattle.flat_machine.specs.Settings.{Setting}
use Rattle.entry_core.specs.declared.seen.Seen.{Seen}
use Rattle.entry_core.specs.declared.seen.Seen.TheVariants.{Ended, Ignored, Took}
use Rattle.key_source.specs.Keys.{has_key}
use Rattle.key_source.specs.declared.Key.{Key}
use Rattle.pad_steps.specs.declared.steps.DiskWord.{DiskWord}
use Rattle.pad_steps.specs.declared.steps.Step.{Step}
use Rattle.std.proofs.Common.{ap, sym, ◌∙◌}
use Rattle.std.specs.Prelude.{Bool, List, None, Option, Some, [], cond, false, if◌then◌else◌, length, refl, true, ℕ, ◌∷◌, ◌≡◌}
use Rattle.pad_steps.specs.declared.steps.Step.TheVariants as step

abbrev pub kept_after : List ℕ → After → KeptAfter
kept_after seed a = record { state = kept_of seed a.state; outs = a.outs }

digits_of-none : (w : Option Running) → digits_of w [] ≡ []
digits_of-none None = refl
digits_of-none (Some w) = refl

kept_digits-drops : (b : Bool) (q : Shared) (ks : List Key) (ds : List ℕ) → b ≡ true → digits_of (running_entry q) (if b then [] else ks) ≡ (if b then [] else ds)
kept_digits-drops true q ks ds e = digits_of-none (running_entry q)
kept_digits-drops false q ks ds e = cc

kept_digits-keeps : (b : Bool) (w v : Option Running) (ks : List Key) → v ≡ w → digits_of v (if b then [] else ks) ≡ (if b then [] else digits_of w ks)
kept_digits-keeps true w v ks e = digits_of-none v
kept_digits-keeps false w v ks e = ap (λ (o : Option Running). digits_of o ks) e

kept_digits : (h : Flat) (s : Said) → KeepsEntry h.shared s → digits_of (running_entry s.shared) (if s.drops_presses then [] else h.presses) ≡ (if s.drops_presses then [] else digits_of (running_entry h.shared) h.presses)
kept_digits h s (Drops d) = kept_digits-drops s.drops_presses s.shared h.presses (digits_of (running_entry h.shared) h.presses) d
kept_digits h s (Keeps e) = kept_digits-keeps s.drops_presses (running_entry h.shared) (running_entry s.shared) h.presses e

-- a step that digits do not reach
said_kept : (seed : List ℕ) (h : Flat) (s : Said) → KeepsEntry h.shared s → kept_after seed (after_said h s) ≡ kept_said (kept_of seed h) s
said_kept seed h s k = ap (λ (ds : List ℕ). record { state = record { seed = seed; shared = s.shared; digits = ds; held = if s.drops_pin then [] else h.held }; outs = s.outs }) (kept_digits h s k)

seen_kept : (set : Setting) (seed : List ℕ) (h : Flat) (w : Running) (key : Key) (seen : Seen) → running_entry h.shared ≡ Some w
    → kept_after seed (press_seen set.cipher h w key seen) ≡ kept_seen set (kept_of seed h) w (entered w.entry (key ∷ h.presses)) seen
seen_kept set seed h w key Ignored is = rw is refl
seen_kept set seed h w key (Took s) is = rw is refl
seen_kept set seed h w key (Ended s c) is = rw (digits_of-none (running_entry (after_entry set.cipher h.shared w s c (entered w.entry (key ∷ h.presses))))) refl

kept_if : (seed : List ℕ) (b : Bool) (x y : After) (u v : KeptAfter) → kept_after seed x ≡ u → kept_after seed y ≡ v → kept_after seed (cond b x y) ≡ cond b u v
kept_if seed true x y u v e f = e
kept_if seed false x y u v e f = f

press_kept : (set : Setting) (seed : List ℕ) (h : Flat) (w : Option Running) (key : Key) → running_entry h.shared ≡ w → kept_after seed (press_in set.cipher h w key) ≡ kept_press_in set (kept_of seed h) w key
press_kept set seed h None key is = refl
press_kept set seed h (Some w) key is =
    let by_digits = λ (ds : List ℕ). if has_key w.entry.active key then kept_seen set (kept_of seed h) w (after_value w.entry (digit_in w.entry.kind key) key ds) (active_seen w.entry (length ds) key) else record { state = kept_of seed h; outs = [] } in
    kept_if seed (has_key w.entry.active key) _ _ _ _ (seen_kept set seed h w key (active_seen w.entry (length (entered w.entry h.presses)) key) is) refl
    ∙ sym (ap by_digits (ap (λ (o : Option Running). digits_of o h.presses) is))

pub next_kept : (set : Setting) (seed : List ℕ) (h : Flat) (s : Step) (w : DiskWord) → kept_after seed (next set h s w) ≡ kept_next set (kept_of seed h) s w
next_kept set seed h (step.Open s) w = said_kept seed h _ (keeps_open h.shared s)
next_kept set seed h (step.Close s) w = said_kept seed h _ (keeps_close h.shared s)
next_kept set seed h (step.Listen s c) w = said_kept seed h _ (keeps_if_open h.shared s _ (Keeps refl))
next_kept set seed h (step.Lock s) w = said_kept seed h _ (keeps_if_open h.shared s _ (Keeps refl))
next_kept set seed h (step.Unlock s) w = said_kept seed h _ (keeps_unlock h.shared s)
next_kept set seed h (step.Submit s limit c) w = said_kept seed h _ (keeps_submit h.shared s limit c (submit_refusal set.pin_rules h.shared s c))
next_kept set seed h (step.Cancel s id) w = said_kept seed h _ (keeps_if_open h.shared s _ (keeps_cancel h.shared s id (pending_where (is_canceled h.shared s id) h.shared.requests)))
next_kept set seed h step.Begin w = said_kept seed h _ (keeps_begin h.shared)
next_kept set seed h step.Finish w = said_kept seed h _ (keeps_finish set h.shared h.held (request_in_work h.shared.requests) w)
next_kept set seed h (step.Press key) w = press_kept set seed h (running_entry h.shared) key refl
next_kept set seed h (step.Tick n) w = said_kept seed h _ (keeps_tick h.shared n)
next_kept set seed h (step.Ask s q) w = said_kept seed h _ (keeps_if_open h.shared s _ (Keeps refl))
next_kept set seed h step.Off w = said_kept seed h _ (keeps_if h.shared (is_off h.shared.device) _ _ (Keeps refl) (keeps_power h.shared h.shared refl))
next_kept set seed h step.Boot w = said_kept seed h _ (keeps_if h.shared (is_off h.shared.device) _ _ (keeps_loads h.shared w) (Keeps refl))

pub kept_state : (set : Setting) (seed : List ℕ) (h : Flat) (s : Step) (w : DiskWord) → kept_of seed (next set h s w).state ≡ (kept_next set (kept_of seed h) s w).state
kept_state set seed h s w = ap (λ (a : KeptAfter). a.state) (next_kept set seed h s w)

pub kept_outs : (set : Setting) (seed : List ℕ) (h : Flat) (s : Step) (w : DiskWord) → (next set h s w).outs ≡ (kept_next set (kept_of seed h) s w).outs
kept_outs set seed h s w = ap (λ (a : KeptAfter). a.outs) (next_kept set seed h s w)
