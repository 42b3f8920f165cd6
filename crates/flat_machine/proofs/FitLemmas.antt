-- The digits that are kept fit the running entry after every step.
use Rattle.entry_core.specs.Entries.{Entry, active_seen, after_value, digit_in}
use Rattle.entry_core.specs.Presses.{FitEntry, after_press}
use Rattle.entry_core.specs.declared.seen.Seen.{Seen}
use Rattle.entry_core.specs.declared.seen.Seen.TheVariants.{Ended, Ignored, Took}
use Rattle.flat_machine.proofs.EntryStays.{Drops, Keeps, KeepsEntry, keeps_begin, keeps_cancel, keeps_close, keeps_finish, keeps_if, keeps_if_open, keeps_loads, keeps_open, keeps_power, keeps_submit, keeps_tick, keeps_unlock}
use Rattle.flat_machine.specs.EntrySteps.{after_entry}
use Rattle.flat_machine.specs.Kept.{FitEntryIn, FitRunning, Kept, kept_next, kept_press_in, kept_said, kept_seen}
use Rattle.flat_machine.specs.RequestSteps.{is_canceled, submit_refusal}
use Rattle.flat_machine.specs.Settings.{Setting}
use Rattle.flat_machine.specs.State.{Running, Said, is_off, running_entry}
use Rattle.key_source.specs.Keys.{has_key}
use Rattle.key_source.specs.declared.Key.{Key}
use Rattle.pad_steps.specs.declared.steps.DiskWord.{DiskWord}
use Rattle.pad_steps.specs.declared.steps.Step.{Step}
use Rattle.pad_steps.specs.declared.steps.Step.TheVariants as step
use Rattle.request_queue.specs.Requests.{pending_where, request_in_work}
use Rattle.std.proofs.Common.{subst, sym}
use Rattle.std.specs.Prelude.{Bool, List, None, Option, Some, [], false, if◌then◌else◌, length, refl, true, ℕ, ◌≡◌}

-- no digits fit every entry, and a press leaves digits that fit
abbrev pub NoneFit : Type 0
NoneFit = (entry : Entry) → FitEntry entry []

abbrev pub PressFits : Type 0
PressFits = (entry : Entry) (key : Key) (digits : List ℕ) → FitEntry entry digits → FitEntry entry (after_press entry key digits)

module _ (none : NoneFit) (press : PressFits) where
  none-fit_in : (w : Option Running) → FitEntryIn w []
  none-fit_in None = tt
  none-fit_in (Some w) = none w.entry

  fit-drops : (b : Bool) (w : Option Running) (digits : List ℕ) → b ≡ true → FitEntryIn w (if b then [] else digits)
  fit-drops true w digits is = none-fit_in w
  fit-drops false w digits is = cc

  fit-keeps : (b : Bool) (w : Option Running) (digits : List ℕ) → FitEntryIn w digits → FitEntryIn w (if b then [] else digits)
  fit-keeps true w digits fit = none-fit_in w
  fit-keeps false w digits fit = fit

  fit-said : (kept : Kept) (s : Said) → KeepsEntry kept.shared s → FitRunning kept → FitRunning (kept_said kept s).state
  fit-said kept s (Drops d) fit = fit-drops s.drops_presses (running_entry s.shared) kept.digits d
  fit-said kept s (Keeps e) fit = fit-keeps s.drops_presses (running_entry s.shared) kept.digits (subst (λ (w : Option Running). FitEntryIn w kept.digits) (sym e) fit)

  fit-seen : (set : Setting) (kept : Kept) (w : Running) (digits : List ℕ) (seen : Seen) → running_entry kept.shared ≡ Some w → FitEntry w.entry digits → FitRunning (kept_seen set kept w digits seen).state
  fit-seen set kept w digits Ignored is fit = subst (λ (o : Option Running). FitEntryIn o digits) (sym is) fit
  fit-seen set kept w digits (Took shown) is fit = subst (λ (o : Option Running). FitEntryIn o digits) (sym is) fit
  fit-seen set kept w digits (Ended shown completion) is fit = none-fit_in (running_entry (after_entry set.cipher kept.shared w shown completion digits))

  fit-active : (set : Setting) (kept : Kept) (w : Running) (key : Key) (b : Bool) → running_entry kept.shared ≡ Some w → has_key w.entry.active key ≡ b → FitEntry w.entry (if b then after_value w.entry (digit_in w.entry.kind key) key kept.digits else kept.digits) → FitRunning kept
      → FitRunning (if b then kept_seen set kept w (after_value w.entry (digit_in w.entry.kind key) key kept.digits) (active_seen w.entry (length kept.digits) key) else record { state = kept; outs = [] }).state
  fit-active set kept w key true is has fit before = fit-seen set kept w _ (active_seen w.entry (length kept.digits) key) is fit
  fit-active set kept w key false is has fit before = before

  fit-press : (set : Setting) (kept : Kept) (w : Option Running) (key : Key) → running_entry kept.shared ≡ w → FitRunning kept → FitRunning (kept_press_in set kept w key).state
  fit-press set kept None key is fit = fit
  fit-press set kept (Some w) key is fit =
      fit-active set kept w key (has_key w.entry.active key) is refl (press w.entry key kept.digits (subst (λ (o : Option Running). FitEntryIn o kept.digits) is fit)) fit

  pub next-fits : (set : Setting) (kept : Kept) (s : Step) (w : DiskWord) → FitRunning kept → FitRunning (kept_next set kept s w).state
  next-fits set kept (step.Open s) w fit = fit-said kept _ (keeps_open kept.shared s) fit
  next-fits set kept (step.Close s) w fit = fit-said kept _ (keeps_close kept.shared s) fit
  next-fits set kept (step.Listen s c) w fit = fit-said kept _ (keeps_if_open kept.shared s _ (Keeps refl)) fit
  next-fits set kept (step.Lock s) w fit = fit-said kept _ (keeps_if_open kept.shared s _ (Keeps refl)) fit
  next-fits set kept (step.Unlock s) w fit = fit-said kept _ (keeps_unlock kept.shared s) fit
  next-fits set kept (step.Submit s limit c) w fit = fit-said kept _ (keeps_submit kept.shared s limit c (submit_refusal set.pin_rules kept.shared s c)) fit
  next-fits set kept (step.Cancel s id) w fit = fit-said kept _ (keeps_if_open kept.shared s _ (keeps_cancel kept.shared s id (pending_where (is_canceled kept.shared s id) kept.shared.requests))) fit
  next-fits set kept step.Begin w fit = fit-said kept _ (keeps_begin kept.shared) fit
  next-fits set kept step.Finish w fit = fit-said kept _ (keeps_finish set kept.shared kept.held (request_in_work kept.shared.requests) w) fit
  next-fits set kept (step.Press key) w fit = fit-press set kept (running_entry kept.shared) key refl fit
  next-fits set kept (step.Tick n) w fit = fit-said kept _ (keeps_tick kept.shared n) fit
  next-fits set kept (step.Ask s q) w fit = fit-said kept _ (keeps_if_open kept.shared s _ (Keeps refl)) fit
  next-fits set kept step.Off w fit = fit-said kept _ (keeps_if kept.shared (is_off kept.shared.device) _ _ (Keeps refl) (keeps_power kept.shared kept.shared refl)) fit
  next-fits set kept step.Boot w fit = fit-said kept _ (keeps_if kept.shared (is_off kept.shared.device) _ _ (keeps_loads kept.shared w) (Keeps refl)) fit
