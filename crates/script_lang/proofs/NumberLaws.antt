-- Numbers in decimal digits, and sessions.
use Rattle.std.proofs.Common.{◌≡◌, ◌≤◌, ◌<◌, ℕ, suc, ◌+◌, List, [], ◌∷◌, length, Some, Bool, true, false, eqb, refl, sym, ap, ◌∙◌, arith, zero, ◌*◌, ◌-◌, ◌^◌, get_or, rules}
use Rattle.std.specs.Prelude.{◌&&◌, nat_le, nat_lt}
use Rattle.std.proofs.lemmas.Bool.Decides.{nat_tests}
use Rattle.script_lang.specs.Reading.{◌>>=◌, decimal_value, decimal_number, digits_onto, has_plain_front, within, read_number, read_session}
use Rattle.std.specs.Fmt.{decimal}
use Rattle.std.specs.Str.{all_ascii_digits}
use Rattle.std.proofs.lemmas.Str.Parse.{IsNumeralModel, numerals_by_fold}
use Rattle.std.proofs.lemmas.Fmt.{digits_decimal, digits_value-decimal, decimal-digits_value, first_decimal, decimal_nonempty, length-decimal-le, decimal_digit}
use Rattle.pad_words.specs.declared.numbers.Session.{Session}
use Rattle.pad_words.specs.Numbers.{session_of, session_if, session_some, is_session}
use Rattle.script_lang.specs.Spelling.{number_word, session_word}
use Rattle.script_lang.proofs.Options.{bind_some, both_true, chosen_some, guard_some, some_is}
use Rattle.script_lang.proofs.Readers.{Always, IsField}

abbrev read_on : ℕ → List ℕ → ℕ
read_on n [] = n
read_on n (c ∷ cs) = read_on (10 * n + (c - 48)) cs

own : IsNumeralModel (λ ds. all_ascii_digits ds ≡ true) (read_on 0)
own = numerals_by_fold _ (search rules) read_on (search rules)

decimal_value-some : (c v : ℕ) → decimal_value c ≡ Some v → ((nat_le 48 c && nat_le c 57) ≡ true) × (c - 48 ≡ v)
decimal_value-some c v e = chosen_some (nat_le 48 c && nat_le c 57) (c - 48) v e

onto_takes : (ds : List ℕ) (n m : ℕ) → digits_onto 10 decimal_value n ds ≡ Some m → (all_ascii_digits ds ≡ true) × (read_on n ds ≡ m)
unfolding digits_onto
onto_takes [] n m e = (refl, some_is n m e)
onto_takes (c ∷ cs) n m e =
    let v = bind_some (decimal_value c) (λ v. digits_onto 10 decimal_value (10 * n + v) cs) m e in
    let d = decimal_value-some c v.0 v.1 in
    let rest = onto_takes cs (10 * n + v.0) m v.2 in
    (rw (d.0, rest.0) refl, ap (λ (v : ℕ). read_on (10 * n + v) cs) d.1 ∙ rest.1)

onto_again : (ds : List ℕ) (n : ℕ) → all_ascii_digits ds ≡ true → digits_onto 10 decimal_value n ds ≡ Some (read_on n ds)
unfolding digits_onto
onto_again [] n e = refl
onto_again (c ∷ cs) n e =
    let b = both_true (nat_le 48 c && nat_le c 57) (all_ascii_digits cs) e in
    rw b.0 (onto_again cs (10 * n + (c - 48)) b.1)

front_takes : (ds : List ℕ) → has_plain_front ds ≡ true → (0 < length ds) × (get_or ds 0 0 ≡ 48 → length ds ≡ 1)
unfolding has_plain_front
front_takes [] e = absurd cc
front_takes (c ∷ []) e = (omega arith, λ h. refl)
front_takes (c ∷ d ∷ cs) e = (omega arith, λ (h : c ≡ 48). let f : false ≡ true = rw h at e in absurd cc)

front_again : (ds : List ℕ) → 0 < length ds → 48 < get_or ds 0 0 → has_plain_front ds ≡ true
unfolding has_plain_front
front_again [] some high = absurd (omega arith)
front_again (c ∷ []) some high = refl
front_again (c ∷ d ∷ cs) some high = let e : eqb c 48 ≡ false = grind (arith, nat_tests) in rw e refl

front_decimal : (n : ℕ) → n < 2 ^ 64 → has_plain_front (decimal n) ≡ true
unfolding has_plain_front
front_decimal zero small = rw (decimal_digit 0 (omega arith)) refl
front_decimal (suc n) small = front_again (decimal (suc n)) (decimal_nonempty (suc n) small) (first_decimal (suc n) (omega arith) small)

abbrev pub Within : ℕ → ℕ → ℕ → Type 0
Within low high n = (low ≤ n) × (n ≤ high)

within_takes : (low high n m : ℕ) → within low high n ≡ Some m → Within low high m × (n ≡ m)
within_takes low high n m e =
    let g = chosen_some (nat_le low n && nat_le n high) n m e in
    let b = both_true (nat_le low n) (nat_le n high) g.0 in
    rw (← g.1) ((grind (arith, nat_tests), grind (arith, nat_tests)), refl)

within_again : (low high n : ℕ) → Within low high n → within low high n ≡ Some n
within_again low high n h =
    let a : nat_le low n ≡ true = grind (arith, nat_tests) in
    let b : nat_le n high ≡ true = grind (arith, nat_tests) in
    rw (a, b) refl

pub number_field : (low high : ℕ) → high < 10000000000 → IsField (read_number low high) (Within low high) number_word
unfolding read_number
number_field low high small = record {
  takes = λ text n e.
      let g = guard_some (has_plain_front text && nat_le (length text) 10) (decimal_number text >>= within low high) n e in
      let b = both_true (has_plain_front text) (nat_le (length text) 10) g.0 in
      let v = bind_some (decimal_number text) (within low high) n g.1 in
      let t = onto_takes text 0 v.0 v.1 in
      let w = within_takes low high v.0 n v.2 in
      let f = front_takes text b.0 in
      let is : read_on 0 text ≡ n = t.1 ∙ w.1 in
      (w.0, sym (ap decimal (sym is) ∙ decimal-digits_value own text t.0 f.0 f.1 (omega (arith, is, w.0))));
  again = λ text n h is.
      let fits : n < 2 ^ 64 = omega (arith, h) in
      let len : length (decimal n) ≤ 10 = length-decimal-le 10 n (omega arith) (omega (arith, h)) fits in
      let short : nat_le (length (decimal n)) 10 ≡ true = grind (arith, nat_tests) in
      let value : decimal_number (decimal n) ≡ Some n = onto_again (decimal n) 0 (digits_decimal own n fits) ∙ ap (λ (m : ℕ). Some m) (digits_value-decimal own n fits) in
      rw (is, front_decimal n fits, short, value) (within_again low high n h);
}

session_number : (v : ℕ) (b : Bool) (e : (nat_lt 0 v && nat_le v 16) ≡ b) (s : Session) → session_if v b e ≡ Some s → v ≡ s.number
session_number v true e s is = ap (λ (s : Session). s.number) (some_is (record { number = v; valid = is_session v e }) s is)
session_number v false e s is = absurd cc

pub session_field : IsField read_session Always session_word
unfolding read_session
session_field = record {
  takes = λ text s e.
      let n = bind_some (read_number 1 16 text) session_of s e in
      let is : n.0 ≡ s.number = session_number n.0 (nat_lt 0 n.0 && nat_le n.0 16) refl s n.2 in
      (tt, ((number_field 1 16 (omega arith)).takes text n.0 n.1).1 ∙ ap decimal is);
  again = λ text s h is. rw ((number_field 1 16 (omega arith)).again text s.number (omega (arith, s.valid), s.valid.1) is) (sym (session_some s));
}

pub digits_decimal_all : (n : ℕ) → n < 2 ^ 64 → all_ascii_digits (decimal n) ≡ true
digits_decimal_all n small = digits_decimal own n small

-- ---- ranges of the grammar

pub byte_number_field : IsField (read_number 0 255) (Within 0 255) number_word
byte_number_field = number_field 0 255 (omega arith)

pub limit_field : IsField (read_number 0 1000000) (Within 0 1000000) number_word
limit_field = number_field 0 1000000 (omega arith)

pub ticks_field : IsField (read_number 1 1000000) (Within 1 1000000) number_word
ticks_field = number_field 1 1000000 (omega arith)

pub id_field : IsField (read_number 0 4294967295) (Within 0 4294967295) number_word
id_field = number_field 0 4294967295 (omega arith)
