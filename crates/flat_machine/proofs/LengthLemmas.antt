-- How many digits an entry has, and has when it ends.
use Rattle.entry_core.specs.Entries.{Entry, active_seen, after_other, after_value, digit_in, entered, shown_digit, terminator_seen, value_seen}
use Rattle.entry_core.specs.declared.seen.Seen.TheVariants.{Ended, Ignored, Took}
use Rattle.key_source.specs.Keys.{has_key}
use Rattle.key_source.specs.declared.Key.{Key}
use Rattle.pad_steps.specs.declared.answers.Completion.{Completion}
use Rattle.pad_steps.specs.declared.answers.Shown.{Shown}
use Rattle.std.proofs.Common.{arith, inl, inr, length-append, length-take}
use Rattle.std.proofs.lemmas.Bool.{eqb-true, ltb-false, ltb-true}
use Rattle.std.specs.Prelude.{Bool, List, None, Option, Some, [], cond, false, if◌then◌else◌, length, nat_lt, refl, true, ℕ, ◌&&◌, ◌++◌, ◌+◌, ◌-◌, ◌==◌, ◌∷◌, ◌≡◌, ◌≤◌, ◌⊎◌}
use Rattle.key_source.specs.declared.Key.TheVariants as keypad
use Rattle.pad_steps.specs.declared.answers.Completion.TheVariants as completion
use Rattle.pad_steps.specs.declared.answers.Shown.TheVariants as shown

le_if_push : (b : Bool) (ds : List ℕ) (v g : ℕ) → nat_lt (length ds) g ≡ b → length ds ≤ g → length (cond b (ds ++ v ∷ []) ds) ≤ g
le_if_push true ds v g e h = omega (arith, ltb-true (length ds) g e, length-append ds (v ∷ []))
le_if_push false ds v g e h = h

le_other : (k : Key) (ds : List ℕ) (g : ℕ) → length ds ≤ g → length (after_other k ds) ≤ g
le_other (keypad.Digit d) ds g h = h
le_other (keypad.Hex v) ds g h = h
le_other keypad.Enter ds g h = h
le_other keypad.Cancel ds g h = omega arith
le_other keypad.Clear ds g h = omega arith
le_other keypad.Backspace ds g h = omega (arith, h, length-take (length ds - 1) ds)
le_other keypad.Help ds g h = h
le_other (keypad.Fdk n) ds g h = h

le_value : (e : Entry) (o : Option ℕ) (k : Key) (ds : List ℕ) → length ds ≤ e.greatest → length (after_value e o k ds) ≤ e.greatest
le_value e None k ds h = le_other k ds e.greatest h
le_value e (Some v) k ds h = le_if_push (nat_lt (length ds) e.greatest) ds v e.greatest refl h

-- never more than the greatest length
pub length-entered-le : (e : Entry) (ks : List Key) → length (entered e ks) ≤ e.greatest
length-entered-le e [] = omega arith
length-entered-le e (k ∷ ks) = le_value e (digit_in e.kind k) k (entered e ks) (length-entered-le e ks)

-- an entry that ends has no digits, or its least number of them
abbrev pub Enough : Entry → List ℕ → Type 0
Enough e ds = (length ds ≡ 0) ⊎ (e.least ≤ length ds)

enough_by : (e : Entry) (b : Bool) (ds : List ℕ) (s t : Shown) (c d : Completion) → nat_lt (length ds) e.least ≡ b → (if b then Ignored else Ended t d) ≡ Ended s c → Enough e ds
enough_by e true ds s t c d is h = cc
enough_by e false ds s t c d is h = inr (ltb-false (length ds) e.least is)

enough_other : (e : Entry) (k : Key) (ds : List ℕ) (s : Shown) (c : Completion) → terminator_seen e (length ds) k ≡ Ended s c → Enough e (after_other k ds)
enough_other e (keypad.Digit d) ds s c h = cc
enough_other e (keypad.Hex v) ds s c h = cc
enough_other e keypad.Enter ds s c h = enough_by e (nat_lt (length ds) e.least) ds s (shown.Plain keypad.Enter) c completion.Enter refl h
enough_other e keypad.Cancel ds s c h = inl refl
enough_other e keypad.Clear ds s c h = cc
enough_other e keypad.Backspace ds s c h = cc
enough_other e keypad.Help ds s c h = enough_by e (nat_lt (length ds) e.least) ds s (shown.Plain keypad.Help) c completion.Help refl h
enough_other e (keypad.Fdk n) ds s c h = enough_by e (nat_lt (length ds) e.least) ds s (shown.Plain (keypad.Fdk n)) c (completion.Fdk n) refl h

enough_none : (e : Entry) (b : Bool) (k : Key) (ds : List ℕ) (s : Shown) (c : Completion) → (if b then terminator_seen e (length ds) k else Took (shown.Plain k)) ≡ Ended s c → Enough e (after_other k ds)
enough_none e true k ds s c h = enough_other e k ds s c h
enough_none e false k ds s c h = cc

and_second : (a b : Bool) → (a && b) ≡ true → b ≡ true
and_second true b h = h
and_second false b h = cc

enough_auto : (e : Entry) (b : Bool) (ds : List ℕ) (v : ℕ) (s t : Shown) (c : Completion) → (e.auto_end && (length ds + 1 == e.greatest)) ≡ b → e.least ≤ e.greatest → (if b then Ended t completion.Auto else Took t) ≡ Ended s c → Enough e (ds ++ v ∷ [])
enough_auto e true ds v s t c is le h = inr (omega (arith, le, length-append ds (v ∷ []), eqb-true (length ds + 1) e.greatest (and_second e.auto_end (length ds + 1 == e.greatest) is)))
enough_auto e false ds v s t c is le h = cc

enough_digit : (e : Entry) (b : Bool) (ds : List ℕ) (v : ℕ) (s t : Shown) (c : Completion) → nat_lt (length ds) e.greatest ≡ b → e.least ≤ e.greatest
    → (if b then (if e.auto_end && (length ds + 1 == e.greatest) then Ended t completion.Auto else Took t) else Ignored) ≡ Ended s c → Enough e (cond b (ds ++ v ∷ []) ds)
enough_digit e true ds v s t c is le h = enough_auto e (e.auto_end && (length ds + 1 == e.greatest)) ds v s t c refl le h
enough_digit e false ds v s t c is le h = cc

enough_value : (e : Entry) (o : Option ℕ) (k : Key) (ds : List ℕ) (s : Shown) (c : Completion) → e.least ≤ e.greatest → value_seen e o (length ds) k ≡ Ended s c → Enough e (after_value e o k ds)
enough_value e None k ds s c le h = enough_none e (has_key e.terminate k) k ds s c h
enough_value e (Some v) k ds s c le h = enough_digit e (nat_lt (length ds) e.greatest) ds v s (shown_digit e.kind k) c refl le h

pub ended_enough : (e : Entry) (ks : List Key) (k : Key) (s : Shown) (c : Completion) → e.least ≤ e.greatest → active_seen e (length (entered e ks)) k ≡ Ended s c → Enough e (entered e (k ∷ ks))
ended_enough e ks k s c le h = enough_value e (digit_in e.kind k) k (entered e ks) s c le h
