-- The digits after presses, one after another.
use Rattle.std.proofs.Common.{ap}
use Rattle.std.specs.Prelude.{Bool, List, [], false, if◌then◌else◌, refl, true, ℕ, ◌∷◌, ◌≡◌}
use Rattle.entry_core.specs.Entries.{Entry, after_value, digit_in, entered}
use Rattle.entry_core.specs.Presses.{active_presses, after_presses}
use Rattle.key_source.specs.Keys.{has_key}
use Rattle.key_source.specs.declared.Key.{Key}

-- one press more, which is active or not
one_more : (active : Bool) (entry : Entry) (key : Key) (presses : List Key) (digits : List ℕ) → digits ≡ entered entry presses
    → (if active then after_value entry (digit_in entry.kind key) key digits else digits) ≡ entered entry (if active then key ∷ presses else presses)
one_more true entry key presses digits is = ap (λ (before : List ℕ). after_value entry (digit_in entry.kind key) key before) is
one_more false entry key presses digits is = is

pub after_presses-active : (entry : Entry) (presses : List Key) → after_presses entry presses ≡ entered entry (active_presses entry presses)
after_presses-active entry [] = refl
after_presses-active entry (key ∷ earlier) =
    one_more (has_key entry.active key) entry key (active_presses entry earlier) (after_presses entry earlier) (after_presses-active entry earlier)
