-- What a digit of a PIN does not change.
use Rattle.entry_core.specs.Entries.{Entry, active_seen, after_digit, after_other, after_value, digit_in, digit_seen, entered, is_pin, is_secret, shown_digit, value_seen}
use Rattle.flat_machine.specs.Twins.{AlikeKeys, AlikePresses}
use Rattle.key_source.specs.Keys.{has_key}
use Rattle.key_source.specs.declared.Key.{Key}
use Rattle.pad_steps.specs.declared.answers.Shown.{Shown}
use Rattle.pad_steps.specs.declared.commands.EntryKind.{EntryKind}
use Rattle.std.proofs.Common.{ap, arith, inl, inr, length-append, length-take, subst, sym, ◌∙◌}
use Rattle.std.specs.Prelude.{Bool, List, None, Option, Some, [], cond, false, is_some, length, nat_lt, refl, true, ℕ, ◌&&◌, ◌++◌, ◌-◌, ◌∷◌, ◌≡◌}
use Rattle.key_source.specs.declared.Key.TheVariants as keypad
use Rattle.pad_steps.specs.declared.answers.Shown.TheVariants as shown
use Rattle.pad_steps.specs.declared.commands.EntryKind.TheVariants as entry_kind

and_parts : (x y z : Bool) → (x && y && z) ≡ true → (x ≡ true) × (y ≡ true) × (z ≡ true)
and_parts true true true h = (refl, refl, refl)
and_parts true true false h = cc
and_parts true false z h = cc
and_parts false y z h = cc

length-if_push : (b : Bool) (xs ys : List ℕ) (m n : ℕ) → length ys ≡ length xs → length (cond b (ys ++ n ∷ []) ys) ≡ length (cond b (xs ++ m ∷ []) xs)
length-if_push true xs ys m n e = omega (arith, length-append xs (m ∷ []), length-append ys (n ∷ []))
length-if_push false xs ys m n e = e

length-after_digit : (e : Entry) (xs ys : List ℕ) (m n : ℕ) → length ys ≡ length xs → length (after_digit e ys n) ≡ length (after_digit e xs m)
length-after_digit e xs ys m n same = rw same (length-if_push (nat_lt (length xs) e.greatest) xs ys m n same)

length-after_other : (k : Key) (xs ys : List ℕ) → length ys ≡ length xs → length (after_other k ys) ≡ length (after_other k xs)
length-after_other (keypad.Digit d) xs ys same = same
length-after_other (keypad.Hex v) xs ys same = same
length-after_other keypad.Enter xs ys same = same
length-after_other keypad.Cancel xs ys same = refl
length-after_other keypad.Clear xs ys same = refl
length-after_other keypad.Backspace xs ys same = omega (arith, same, length-take (length xs - 1) xs, length-take (length ys - 1) ys)
length-after_other keypad.Help xs ys same = same
length-after_other (keypad.Fdk n) xs ys same = same

length-after_value : (e : Entry) (o : Option ℕ) (k : Key) (xs ys : List ℕ) → length ys ≡ length xs → length (after_value e o k ys) ≡ length (after_value e o k xs)
length-after_value e None k xs ys same = length-after_other k xs ys same
length-after_value e (Some v) k xs ys same = length-after_digit e xs ys v v same

-- two keys that act alike but for the value of a digit
pub record ActsAlike (e : Entry) (a b : Key) : Type 0 where
  pub active : has_key e.active b ≡ has_key e.active a
  pub seen : (n : ℕ) → active_seen e n b ≡ active_seen e n a
  pub count : (xs ys : List ℕ) → length ys ≡ length xs → length (after_value e (digit_in e.kind b) b ys) ≡ length (after_value e (digit_in e.kind a) a xs)

acts_same : (e : Entry) (a : Key) → ActsAlike e a a
acts_same e a = record { active = refl; seen = λ n. refl; count = λ xs ys same. length-after_value e (digit_in e.kind a) a xs ys same }

pub shown_pin : (s : EntryKind) (k : Key) → is_pin s ≡ true → shown_digit s k ≡ shown.Masked
shown_pin entry_kind.Pin k is = refl
shown_pin entry_kind.Figures k is = cc
shown_pin entry_kind.Part k is = cc

value_seen-pin : (e : Entry) (o : Option ℕ) (n : ℕ) (k : Key) → is_some o ≡ true → is_pin e.kind ≡ true → value_seen e o n k ≡ digit_seen e n shown.Masked
value_seen-pin e None n k some is = cc
value_seen-pin e (Some v) n k some is = ap (λ (s : Shown). digit_seen e n s) (shown_pin e.kind k is)

length-after_digits : (e : Entry) (o q : Option ℕ) (a b : Key) (xs ys : List ℕ) → is_some o ≡ true → is_some q ≡ true → length ys ≡ length xs → length (after_value e q b ys) ≡ length (after_value e o a xs)
length-after_digits e None q a b xs ys so sq same = cc
length-after_digits e (Some v) None a b xs ys so sq same = cc
length-after_digits e (Some v) (Some u) a b xs ys so sq same = length-after_digit e xs ys v u same

acts_secret : (e : Entry) (a b : Key) → is_secret e a ≡ true → is_secret e b ≡ true → ActsAlike e a b
acts_secret e a b sa sb =
    let pa = and_parts (is_pin e.kind) (is_some (digit_in e.kind a)) (has_key e.active a) sa in
    let pb = and_parts (is_pin e.kind) (is_some (digit_in e.kind b)) (has_key e.active b) sb in
    record {
      active = pb.2 ∙ sym pa.2;
      seen = λ n. value_seen-pin e (digit_in e.kind b) n b pb.1 pb.0 ∙ sym (value_seen-pin e (digit_in e.kind a) n a pa.1 pa.0);
      count = λ xs ys same. length-after_digits e (digit_in e.kind a) (digit_in e.kind b) a b xs ys pa.1 pb.1 same;
    }

pub acts_alike : (e : Entry) (a b : Key) → AlikeKeys e a b → ActsAlike e a b
acts_alike e a b (inl same) = subst (λ (k : Key). ActsAlike e a k) same (acts_same e a)
acts_alike e a b (inr secret) = acts_secret e a b secret.0 secret.1

-- entries that are alike have as many digits
pub length-entered : (e : Entry) (xs ys : List Key) → AlikePresses e xs ys → length (entered e ys) ≡ length (entered e xs)
length-entered e [] [] alike = refl
length-entered e (a ∷ xs) (b ∷ ys) alike = (acts_alike e a b alike.0).count (entered e xs) (entered e ys) (length-entered e xs ys alike.1)
length-entered e [] (b ∷ ys) alike = absurd alike
length-entered e (a ∷ xs) [] alike = absurd alike

-- outside PINs nothing is secret
true_is_false : true ≡ false → ⊥
true_is_false h = cc

plain_key : (e : Entry) (a b : Key) → is_pin e.kind ≡ false → AlikeKeys e a b → b ≡ a
plain_key e a b plain (inl same) = sym same
plain_key e a b plain (inr secret) =
    let pa = and_parts (is_pin e.kind) (is_some (digit_in e.kind a)) (has_key e.active a) secret.0 in
    absurd (true_is_false (sym pa.0 ∙ plain))

two_lists : (a b : Key) (xs ys : List Key) → b ≡ a → ys ≡ xs → b ∷ ys ≡ a ∷ xs
two_lists a b xs ys e f = rw (e, f) refl

pub plain_presses : (e : Entry) (xs ys : List Key) → is_pin e.kind ≡ false → AlikePresses e xs ys → ys ≡ xs
plain_presses e [] [] plain alike = refl
plain_presses e (a ∷ xs) (b ∷ ys) plain alike = two_lists a b xs ys (plain_key e a b plain alike.0) (plain_presses e xs ys plain alike.1)
plain_presses e [] (b ∷ ys) plain alike = absurd alike
plain_presses e (a ∷ xs) [] plain alike = absurd alike
