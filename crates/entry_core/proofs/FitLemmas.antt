-- A press leaves digits that fit the entry.
use Rattle.std.proofs.Common.{arith, subst, sym}
use Rattle.std.proofs.lemmas.Bool.Decides.{nat_tests}
use Rattle.std.proofs.lemmas.List.Elements.{All-append, All-cons, All-nil, All-push, All-take}
use Rattle.std.proofs.lemmas.List.{length-append, length-take}
use Rattle.std.specs.Prelude.{All, Bool, List, None, Option, Some, [], false, if◌then◌else◌, length, nat_le, nat_lt, refl, take, true, ℕ, ◌&&◌, ◌++◌, ◌+◌, ◌-◌, ◌<◌, ◌∷◌, ◌≡◌, ◌≤◌, ◌||◌}
use Rattle.entry_core.specs.Entries.{Entry, after_digit, after_other, after_value, digit_in, is_key_part}
use Rattle.entry_core.specs.Presses.{FitEntry, after_press, digit_bound}
use Rattle.key_source.specs.Keys.{bit_set, has_key}
use Rattle.key_source.specs.declared.Key.{Key}
use Rattle.key_source.specs.declared.Key.TheVariants as keypad
use Rattle.pad_steps.specs.declared.commands.EntryKind.{EntryKind}
use Rattle.pad_steps.specs.declared.commands.EntryKind.TheVariants as kinds

pub no_digits-fit : (entry : Entry) → FitEntry entry []
no_digits-fit entry = record { few = omega arith; small = All-nil (λ (digit : ℕ). digit < digit_bound entry.kind) }

fewer-fit : (entry : Entry) (digits : List ℕ) (n : ℕ) → FitEntry entry digits → FitEntry entry (take n digits)
fewer-fit entry digits n fit = record {
  few = omega (arith, length-take n digits, fit.few);
  small = All-take (λ (digit : ℕ). digit < digit_bound entry.kind) n digits fit.small;
}

other-fit : (entry : Entry) (key : Key) (digits : List ℕ) → FitEntry entry digits → FitEntry entry (after_other key digits)
other-fit entry (keypad.Digit digit) digits fit = fit
other-fit entry (keypad.Hex value) digits fit = fit
other-fit entry keypad.Enter digits fit = fit
other-fit entry keypad.Cancel digits fit = no_digits-fit entry
other-fit entry keypad.Clear digits fit = no_digits-fit entry
other-fit entry keypad.Backspace digits fit = fewer-fit entry digits (length digits - 1) fit
other-fit entry keypad.Help digits fit = fit
other-fit entry (keypad.Fdk number) digits fit = fit

one_more-fits : (entry : Entry) (digits : List ℕ) (digit : ℕ) (b : Bool) → nat_lt (length digits) entry.greatest ≡ b → digit < digit_bound entry.kind → FitEntry entry digits → FitEntry entry (if b then digits ++ digit ∷ [] else digits)
one_more-fits entry digits digit true below small fit =
    let room : length digits < entry.greatest = grind (arith, nat_tests, below) in
    record {
      few = omega (arith, length-append digits (digit ∷ []), room);
      small = All-append (λ (digit : ℕ). digit < digit_bound entry.kind) digits (digit ∷ []) fit.small (All-cons (λ (digit : ℕ). digit < digit_bound entry.kind) digit [] small (All-nil (λ (digit : ℕ). digit < digit_bound entry.kind)));
    }
one_more-fits entry digits digit false below small fit = fit

digit-fits : (entry : Entry) (digits : List ℕ) (digit : ℕ) → digit < digit_bound entry.kind → FitEntry entry digits → FitEntry entry (after_digit entry digits digit)
digit-fits entry digits digit small fit = one_more-fits entry digits digit (nat_lt (length digits) entry.greatest) refl small fit

decimal-small : (kind : EntryKind) (digit : ℕ) → digit < 10 → digit < digit_bound kind
decimal-small kinds.Pin digit small = small
decimal-small kinds.Figures digit small = small
decimal-small kinds.Part digit small = omega (arith, small)

-- a key from A to F that is in a set has one of the values 10 to 15
hex-small : (b : Bool) (value : ℕ) (bits others : ℕ) → (nat_le 10 value && nat_le value 15) ≡ b → (bit_set bits (if b then Some value else None) || bit_set others None) ≡ true → value < 16
hex-small true value bits others is has = grind (arith, nat_tests, is)
hex-small false value bits others is has = cc

hex-fits : (entry : Entry) (value : ℕ) (digits : List ℕ) → value < 16 → FitEntry entry digits → (part : Bool) → is_key_part entry.kind ≡ part → FitEntry entry (after_value entry (if part then Some value else None) (keypad.Hex value) digits)
hex-fits entry value digits small fit true is = digit-fits entry digits value (subst (λ (b : Bool). value < (if b then 16 else 10)) (sym is) small) fit
hex-fits entry value digits small fit false is = fit

active-fits : (entry : Entry) (key : Key) (digits : List ℕ) → has_key entry.active key ≡ true → FitEntry entry digits → FitEntry entry (after_value entry (digit_in entry.kind key) key digits)
active-fits entry (keypad.Digit digit) digits active fit = digit-fits entry digits digit.value (decimal-small entry.kind digit.value digit.small) fit
active-fits entry (keypad.Hex value) digits active fit =
    hex-fits entry value digits (hex-small (nat_le 10 value && nat_le value 15) value entry.active.keys entry.active.fdks refl active) fit (is_key_part entry.kind) refl
active-fits entry keypad.Enter digits active fit = fit
active-fits entry keypad.Cancel digits active fit = no_digits-fit entry
active-fits entry keypad.Clear digits active fit = no_digits-fit entry
active-fits entry keypad.Backspace digits active fit = fewer-fit entry digits (length digits - 1) fit
active-fits entry keypad.Help digits active fit = fit
active-fits entry (keypad.Fdk number) digits active fit = fit

press-fits : (entry : Entry) (key : Key) (digits : List ℕ) (b : Bool) → has_key entry.active key ≡ b → FitEntry entry digits → FitEntry entry (if b then after_value entry (digit_in entry.kind key) key digits else digits)
press-fits entry key digits true active fit = active-fits entry key digits active fit
press-fits entry key digits false active fit = fit

pub after_press-fits : (entry : Entry) (key : Key) (digits : List ℕ) → FitEntry entry digits → FitEntry entry (after_press entry key digits)
after_press-fits entry key digits fit = press-fits entry key digits (has_key entry.active key) refl fit
