-- The held PIN in every run, and what a cut or Off leaves.
use Rattle.flat_machine.proofs.BoolLemmas.{both}
use Rattle.flat_machine.proofs.EntryCommands.{pass-request_in_work, pass_first, pin_of}
use Rattle.flat_machine.proofs.LengthLemmas.{length-entered-le}
use Rattle.flat_machine.proofs.LengthRuns.{submits_pass}
use Rattle.flat_machine.proofs.PinHeld.{pin_after}
use Rattle.flat_machine.proofs.PinShown.{pin_is_no_part}
use Rattle.flat_machine.proofs.PressWalk.{InWorkOf, running_request}
use Rattle.flat_machine.proofs.RequestRuns.{from_start}
use Rattle.flat_machine.proofs.SoundLemmas.{next_sound, opening_sound, ready_opening_sound}
use Rattle.entry_core.specs.Entries.{Entry, after_value, digit_in, entered, is_pin}
use Rattle.flat_machine.specs.Facts.{IsStart}
use Rattle.flat_machine.specs.Machine.{Act, next, run_from}
use Rattle.flat_machine.specs.PinFacts.{PinAfter, PinEntered, PinGoes, PinStays, passes_submit}
use Rattle.flat_machine.specs.RequestSteps.{invalid_if}
use Rattle.flat_machine.specs.Sound.{Sound, allowed}
use Rattle.pad_steps.specs.Accounts.{all_decimal}
use Rattle.flat_machine.specs.State.{Flat, Running, ends, is_off}
use Rattle.flat_machine.specs.Settings.{Setting}
use Rattle.key_source.specs.declared.Key.{Key}
use Rattle.pad_steps.specs.declared.commands.Command.{Command}
use Rattle.pad_steps.specs.declared.steps.DiskWord.{DiskWord}
use Rattle.pad_steps.specs.declared.steps.Step.{Step}
use Rattle.std.proofs.Common.{arith, subst, ◌∙◌}
use Rattle.std.proofs.lemmas.Bool.{lt-ltb, ltb-false}
use Rattle.std.proofs.lemmas.List.Folds.{list_all-append}
use Rattle.std.specs.Prelude.{Bool, IsTrue, List, [], false, if◌then◌else◌, is_some, length, nat_lt, not, refl, suc, take, true, zero, ℕ, ◌&&◌, ◌++◌, ◌-◌, ◌<◌, ◌==◌, ◌∷◌, ◌≡◌, ◌≤◌}
use Rattle.key_source.specs.declared.Key.TheVariants as keypad
use Rattle.pad_steps.specs.declared.commands.Command.TheVariants as command

-- the digits of a PIN entry are decimal digits

decimal_take : (n : ℕ) (ds : List ℕ) → all_decimal ds ≡ true → all_decimal (take n ds) ≡ true
decimal_take zero ds h = refl
decimal_take (suc n) [] h = refl
decimal_take (suc n) (d ∷ ds) h = both_pass (nat_lt d 10) (all_decimal ds) (all_decimal (take n ds)) h (decimal_take n ds)
  where
    both_pass : (a b c : Bool) → (a && b) ≡ true → (b ≡ true → c ≡ true) → (a && c) ≡ true
    both_pass true b c h f = f h
    both_pass false b c h f = cc

decimal_push : (b : Bool) (ds : List ℕ) (d : ℕ) → d < 10 → all_decimal ds ≡ true → all_decimal (if b then ds ++ d ∷ [] else ds) ≡ true
decimal_push true ds d l h = list_all-append (λ (n : ℕ). nat_lt n 10) ds (d ∷ []) ∙ rw (h, lt-ltb d 10 l) refl
decimal_push false ds d l h = h

decimal_key : (e : Entry) (k : Key) (ds : List ℕ) → is_pin e.kind ≡ true → all_decimal ds ≡ true → all_decimal (after_value e (digit_in e.kind k) k ds) ≡ true
decimal_key e (keypad.Digit d) ds is h = decimal_push (nat_lt (length ds) e.greatest) ds d.value d.small h
decimal_key e (keypad.Hex v) ds is h = rw (pin_is_no_part e.kind is) h
decimal_key e keypad.Enter ds is h = h
decimal_key e keypad.Cancel ds is h = refl
decimal_key e keypad.Clear ds is h = refl
decimal_key e keypad.Backspace ds is h = decimal_take (length ds - 1) ds h
decimal_key e keypad.Help ds is h = h
decimal_key e (keypad.Fdk n) ds is h = h

decimal-entered : (e : Entry) (ks : List Key) → is_pin e.kind ≡ true → all_decimal (entered e ks) ≡ true
decimal-entered e [] is = refl
decimal-entered e (k ∷ ks) is = decimal_key e k (entered e ks) is (decimal-entered e ks is)

-- a PIN entry in work has a greatest length of at most 16

greatest_if : (n : ℕ) (b : Bool) → n ≤ 16 → (if b then 16 else n) ≤ 16
greatest_if n true l = omega arith
greatest_if n false l = l

rules_passed : (n : ℕ) (b : Bool) → nat_lt 16 n ≡ b → not (is_some (invalid_if b)) ≡ true → n ≤ 16
rules_passed n true e h = cc
rules_passed n false e h = ltb-false 16 n e

pub record HeldFits (held : List ℕ) : Type 0 where
  pub few : length held ≤ 16
  pub decimal : all_decimal held ≡ true

abbrev SoundHeld : Setting → Flat → Type 0
SoundHeld set h = Sound (passes_submit set.pin_rules) h.shared × HeldFits h.held

module _ (set : Setting) (h : Flat) (sound : Sound (passes_submit set.pin_rules) h.shared) (before : HeldFits h.held) where
  pin_in_work_passes : (w : Running) (at : InWorkOf h.shared.requests w) → passes_submit set.pin_rules at.request.command ≡ true
  pin_in_work_passes w at = pass_first (passes_submit set.pin_rules at.request.command) (not (is_off h.shared.device)) (pass-request_in_work (allowed (passes_submit set.pin_rules) h.shared.device) h.shared.requests at.request sound at.work)

  greatest_fits : (w : Running) → InWorkOf h.shared.requests w → is_pin w.entry.kind ≡ true → w.entry.greatest ≤ 16
  greatest_fits w at is =
      let of_pin = pin_of at.request.command w.entry at.entry is in
      let passes : passes_submit set.pin_rules (command.GetPin of_pin.rules) ≡ true = subst (λ (x : Command). passes_submit set.pin_rules x ≡ true) of_pin.command (pin_in_work_passes w at) in
      rw of_pin.greatest (greatest_if of_pin.rules.max (of_pin.rules.max == 0) (rules_passed of_pin.rules.max (nat_lt 16 of_pin.rules.max) refl passes))

  held_after : (s : Step) (held : List ℕ) → PinAfter h s held → HeldFits held
  held_after s held (PinStays e) = rw e before
  held_after s held (PinGoes e) = rw e (record { few = omega arith; decimal = refl })
  held_after s held (PinEntered k w c is ends e) = rw e (record {
    few = omega (arith, length-entered-le w.entry (k ∷ h.presses), greatest_fits w (running_request h.shared w ends.runs) ends.of_pin);
    decimal = decimal-entered w.entry (k ∷ h.presses) ends.of_pin;
  })

next_held : (set : Setting) (h : Flat) (s : Step) (w : DiskWord) → SoundHeld set h → SoundHeld set (next set h s w).state
next_held set h s w both = (next_sound (passes_submit set.pin_rules) set h s w (submits_pass set.pin_rules s) both.0, held_after set h both.0 both.1 s (next set h s w).state.held (pin_after set h s w))

held_run : (set : Setting) (start : Flat) (acts : List Act) → IsStart start → HeldFits (run_from set start acts).held
held_run set start acts begins = (from_start set (SoundHeld set) (next_held set) (opening_sound (passes_submit set.pin_rules), record { few = omega arith; decimal = refl }) (ready_opening_sound (passes_submit set.pin_rules), record { few = omega arith; decimal = refl }) start acts begins).1

pub held_few : (set : Setting) (start : Flat) (acts : List Act) → IsStart start → length (run_from set start acts).held ≤ 16
held_few set start acts begins = (held_run set start acts begins).few

pub held_decimal : (set : Setting) (start : Flat) (acts : List Act) → IsStart start → IsTrue (all_decimal (run_from set start acts).held)
held_decimal set start acts begins = (held_run set start acts begins).decimal
