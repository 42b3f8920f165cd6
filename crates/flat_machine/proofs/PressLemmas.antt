-- There are no presses where no entry runs.
use Rattle.flat_machine.proofs.EntryStays.{Drops, Keeps, KeepsEntry, keeps_begin, keeps_cancel, keeps_close, keeps_finish, keeps_if, keeps_if_open, keeps_loads, keeps_open, keeps_power, keeps_submit, keeps_tick, keeps_unlock}
use Rattle.flat_machine.proofs.RequestRuns.{from_start}
use Rattle.entry_core.specs.Entries.{active_seen, entered}
use Rattle.flat_machine.specs.EntrySteps.{press_in, press_seen}
use Rattle.flat_machine.specs.Facts.{IsStart}
use Rattle.flat_machine.specs.Machine.{Act, next, run_from}
use Rattle.flat_machine.specs.RequestSteps.{is_canceled, submit_refusal}
use Rattle.request_queue.specs.Requests.{pending_where, request_in_work}
use Rattle.flat_machine.specs.State.{After, Flat, Shared, Running, Said, after_said, is_off, running_entry}
use Rattle.flat_machine.specs.Settings.{Setting}
use Rattle.entry_core.specs.declared.seen.Seen.{Seen}
use Rattle.entry_core.specs.declared.seen.Seen.TheVariants.{Ended, Ignored, Took}
use Rattle.key_source.specs.Keys.{has_key}
use Rattle.key_source.specs.declared.Key.{Key}
use Rattle.pad_steps.specs.declared.steps.DiskWord.{DiskWord}
use Rattle.pad_steps.specs.declared.steps.Step.{Step}
use Rattle.std.proofs.Common.{sym, ◌∙◌}
use Rattle.std.specs.Prelude.{Bool, List, None, Option, Some, [], cond, false, if◌then◌else◌, length, refl, true, ◌≡◌}
use Rattle.pad_steps.specs.declared.steps.Step.TheVariants as step

abbrev pub PressesGone : Flat → Type 0
PressesGone h = running_entry h.shared ≡ None → h.presses ≡ []

dropped : (b : Bool) (ks : List Key) → b ≡ true → (if b then [] else ks) ≡ []
dropped true ks e = refl
dropped false ks e = cc

kept_none : (b : Bool) (ks : List Key) → ks ≡ [] → (if b then [] else ks) ≡ []
kept_none true ks e = refl
kept_none false ks e = e

gone_said : (h : Flat) (s : Said) → KeepsEntry h.shared s → PressesGone h → PressesGone (after_said h s).state
gone_said h s (Drops d) gone none = dropped s.drops_presses h.presses d
gone_said h s (Keeps e) gone none = kept_none s.drops_presses h.presses (gone (sym e ∙ none))

runs_not_none : (p : Shared) (w : Running) → running_entry p ≡ Some w → running_entry p ≡ None → ⊥
runs_not_none p w runs none = some_none w (sym runs ∙ none)
  where
    some_none : (w : Running) → Some w ≡ None → ⊥
    some_none w e = cc

gone_if : (b : Bool) (x y : After) → PressesGone x.state → PressesGone y.state → PressesGone (cond b x y).state
gone_if true x y one other = one
gone_if false x y one other = other

gone_seen : (set : Setting) (h : Flat) (w : Running) (k : Key) (seen : Seen) → running_entry h.shared ≡ Some w → PressesGone (press_seen set.cipher h w k seen).state
gone_seen set h w k Ignored runs none = absurd (runs_not_none h.shared w runs none)
gone_seen set h w k (Took s) runs none = absurd (runs_not_none h.shared w runs none)
gone_seen set h w k (Ended s c) runs none = refl

gone_press : (set : Setting) (h : Flat) (o : Option Running) (k : Key) → running_entry h.shared ≡ o → PressesGone h → PressesGone (press_in set.cipher h o k).state
gone_press set h None k runs gone = gone
gone_press set h (Some w) k runs gone = gone_if (has_key w.entry.active k) _ (record { state = h; outs = [] }) (gone_seen set h w k (active_seen w.entry (length (entered w.entry h.presses)) k) runs) gone

next_gone : (set : Setting) (h : Flat) (s : Step) (w : DiskWord) → PressesGone h → PressesGone (next set h s w).state
next_gone set h (step.Open s) w gone = gone_said h _ (keeps_open h.shared s) gone
next_gone set h (step.Close s) w gone = gone_said h _ (keeps_close h.shared s) gone
next_gone set h (step.Listen s c) w gone = gone_said h _ (keeps_if_open h.shared s _ (Keeps refl)) gone
next_gone set h (step.Lock s) w gone = gone_said h _ (keeps_if_open h.shared s _ (Keeps refl)) gone
next_gone set h (step.Unlock s) w gone = gone_said h _ (keeps_unlock h.shared s) gone
next_gone set h (step.Submit s limit c) w gone = gone_said h _ (keeps_submit h.shared s limit c (submit_refusal set.pin_rules h.shared s c)) gone
next_gone set h (step.Cancel s id) w gone = gone_said h _ (keeps_if_open h.shared s _ (keeps_cancel h.shared s id (pending_where (is_canceled h.shared s id) h.shared.requests))) gone
next_gone set h step.Begin w gone = gone_said h _ (keeps_begin h.shared) gone
next_gone set h step.Finish w gone = gone_said h _ (keeps_finish set h.shared h.held (request_in_work h.shared.requests) w) gone
next_gone set h (step.Press k) w gone = gone_press set h (running_entry h.shared) k refl gone
next_gone set h (step.Tick n) w gone = gone_said h _ (keeps_tick h.shared n) gone
next_gone set h (step.Ask s q) w gone = gone_said h _ (keeps_if_open h.shared s _ (Keeps refl)) gone
next_gone set h step.Off w gone = gone_said h _ (keeps_if h.shared (is_off h.shared.device) _ _ (Keeps refl) (keeps_power h.shared h.shared refl)) gone
next_gone set h step.Boot w gone = gone_said h _ (keeps_if h.shared (is_off h.shared.device) _ _ (keeps_loads h.shared w) (Keeps refl)) gone

pub presses_of_entry : (set : Setting) (start : Flat) (acts : List Act) → IsStart start → running_entry (run_from set start acts).shared ≡ None → (run_from set start acts).presses ≡ []
presses_of_entry set start acts begins = from_start set PressesGone (next_gone set) (λ none. refl) (λ none. refl) start acts begins
