-- The digits that an entry has when it ends.
use Rattle.entry_core.specs.Entries.{Entry, active_seen, after_other, after_value, digit_in, shown_digit, terminator_seen, value_seen}
use Rattle.entry_core.specs.Presses.{EndsWith, after_press, press_seen}
use Rattle.entry_core.specs.declared.seen.Seen.TheVariants.{Ended, Ignored, Took}
use Rattle.key_source.specs.Keys.{has_key}
use Rattle.key_source.specs.declared.Key.{Key}
use Rattle.key_source.specs.declared.Key.TheVariants as keypad
use Rattle.pad_steps.specs.declared.answers.Completion.{Completion}
use Rattle.pad_steps.specs.declared.answers.Completion.TheVariants as completions
use Rattle.pad_steps.specs.declared.answers.Shown.{Shown}
use Rattle.pad_steps.specs.declared.answers.Shown.TheVariants as shows
use Rattle.std.proofs.Common.{arith, length-append, subst}
use Rattle.std.proofs.lemmas.Bool.{eqb-true, ltb-false}
use Rattle.std.specs.Prelude.{Bool, List, None, Option, Some, [], false, if◌then◌else◌, length, nat_lt, refl, true, ℕ, ◌&&◌, ◌++◌, ◌+◌, ◌==◌, ◌∷◌, ◌≡◌, ◌≤◌}

-- an end by a key that does nothing below the least length
by_key : (entry : Entry) (short : Bool) (digits : List ℕ) (shown said : Shown) (completion ending : Completion) → nat_lt (length digits) entry.least ≡ short
    → (if short then Ignored else Ended said ending) ≡ Ended shown completion → (entry.least ≤ length digits) × (ending ≡ completion)
by_key entry true digits shown said completion ending is ends = cc
by_key entry false digits shown said completion ending is ends =
    let same : ending ≡ completion = cc in
    (ltb-false (length digits) entry.least is, same)

by_other : (entry : Entry) (key : Key) (digits : List ℕ) (shown : Shown) (completion : Completion)
    → terminator_seen entry (length digits) key ≡ Ended shown completion → EndsWith entry completion (after_other key digits)
by_other entry (keypad.Digit digit) digits shown completion ends = cc
by_other entry (keypad.Hex value) digits shown completion ends = cc
by_other entry keypad.Enter digits shown completion ends =
    let enough = by_key entry (nat_lt (length digits) entry.least) digits shown (shows.Plain keypad.Enter) completion completions.Enter refl ends in
    subst (λ (c : Completion). EndsWith entry c digits) enough.1 enough.0
by_other entry keypad.Cancel digits shown completion ends =
    let same : completions.Cancel ≡ completion = cc in
    subst (λ (c : Completion). EndsWith entry c []) same refl
by_other entry keypad.Clear digits shown completion ends = cc
by_other entry keypad.Backspace digits shown completion ends = cc
by_other entry keypad.Help digits shown completion ends =
    let enough = by_key entry (nat_lt (length digits) entry.least) digits shown (shows.Plain keypad.Help) completion completions.Help refl ends in
    subst (λ (c : Completion). EndsWith entry c digits) enough.1 enough.0
by_other entry (keypad.Fdk number) digits shown completion ends =
    let enough = by_key entry (nat_lt (length digits) entry.least) digits shown (shows.Plain (keypad.Fdk number)) completion (completions.Fdk number) refl ends in
    subst (λ (c : Completion). EndsWith entry c digits) enough.1 enough.0

by_none : (entry : Entry) (terminates : Bool) (key : Key) (digits : List ℕ) (shown : Shown) (completion : Completion)
    → (if terminates then terminator_seen entry (length digits) key else Took (shows.Plain key)) ≡ Ended shown completion → EndsWith entry completion (after_other key digits)
by_none entry true key digits shown completion ends = by_other entry key digits shown completion ends
by_none entry false key digits shown completion ends = cc

and_second : (a b : Bool) → (a && b) ≡ true → b ≡ true
and_second true b both = both
and_second false b both = cc

by_itself : (entry : Entry) (last : Bool) (digits : List ℕ) (digit : ℕ) (shown said : Shown) (completion : Completion) → (entry.auto_end && (length digits + 1 == entry.greatest)) ≡ last
    → (if last then Ended said completions.Auto else Took said) ≡ Ended shown completion → EndsWith entry completion (digits ++ digit ∷ [])
by_itself entry true digits digit shown said completion is ends =
    let same : completions.Auto ≡ completion = cc in
    let all : length (digits ++ digit ∷ []) ≡ entry.greatest =
    omega (arith, length-append digits (digit ∷ []), eqb-true (length digits + 1) entry.greatest (and_second entry.auto_end (length digits + 1 == entry.greatest) is)) in
    subst (λ (c : Completion). EndsWith entry c (digits ++ digit ∷ [])) same all
by_itself entry false digits digit shown said completion is ends = cc

by_digit : (entry : Entry) (fits : Bool) (digits : List ℕ) (digit : ℕ) (shown said : Shown) (completion : Completion)
    → (if fits then (if entry.auto_end && (length digits + 1 == entry.greatest) then Ended said completions.Auto else Took said) else Ignored) ≡ Ended shown completion
    → EndsWith entry completion (if fits then digits ++ digit ∷ [] else digits)
by_digit entry true digits digit shown said completion ends =
    by_itself entry (entry.auto_end && (length digits + 1 == entry.greatest)) digits digit shown said completion refl ends
by_digit entry false digits digit shown said completion ends = cc

by_value : (entry : Entry) (value : Option ℕ) (key : Key) (digits : List ℕ) (shown : Shown) (completion : Completion)
    → value_seen entry value (length digits) key ≡ Ended shown completion → EndsWith entry completion (after_value entry value key digits)
by_value entry None key digits shown completion ends = by_none entry (has_key entry.terminate key) key digits shown completion ends
by_value entry (Some digit) key digits shown completion ends =
    by_digit entry (nat_lt (length digits) entry.greatest) digits digit shown (shown_digit entry.kind key) completion ends

by_press : (entry : Entry) (active : Bool) (key : Key) (digits : List ℕ) (shown : Shown) (completion : Completion)
    → (if active then active_seen entry (length digits) key else Ignored) ≡ Ended shown completion
    → EndsWith entry completion (if active then after_value entry (digit_in entry.kind key) key digits else digits)
by_press entry true key digits shown completion ends = by_value entry (digit_in entry.kind key) key digits shown completion ends
by_press entry false key digits shown completion ends = cc

pub press_ends : (entry : Entry) (digits : List ℕ) (key : Key) (shown : Shown) (completion : Completion)
    → press_seen entry (length digits) key ≡ Ended shown completion → EndsWith entry completion (after_press entry key digits)
press_ends entry digits key shown completion ends = by_press entry (has_key entry.active key) key digits shown completion ends
