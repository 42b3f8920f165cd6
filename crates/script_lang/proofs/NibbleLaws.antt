-- Half bytes: one, and lists of them.
use Rattle.std.proofs.Common.{◌≡◌, ℕ, List, [], ◌∷◌, length, Option, Some, None, Bool, true, false, cond, eqb, refl, sym, ap, subst, ◌∙◌, arith, inl, inr}
use Rattle.std.specs.Prelude.{IsTrue, bytes_eq, codes, nat_le, slice_index, ◌&&◌}
use Rattle.std.proofs.lemmas.Bool.{eqb-true}
use Rattle.std.proofs.lemmas.Bool.Decides.{nat_tests}
use Rattle.pad_steps.specs.Accounts.{all_decimal}
use Rattle.script_lang.specs.Words.{Digits, IsWord, Word, hex_value, hex_values}
use Rattle.script_lang.specs.Reading.{◌>>=◌, read_nibble, read_nibbles, read_nibbles_or_dash, read_offset, read_table, where_decimal}
use Rattle.script_lang.specs.Spelling.{nibble_word, nibbles_word}
use Rattle.script_lang.proofs.Fits.{DecimalsFit, IsNibble, NibblesFit}
use Rattle.script_lang.proofs.HexLaws.{digits_len, digits_more, digits_small, hex_value-small}
use Rattle.script_lang.proofs.NameLaws.{not_dash}
use Rattle.script_lang.proofs.Options.{bind_some, both_true, cases_some, chosen_some, guard_some, same_bytes, some_is}
use Rattle.script_lang.proofs.Readers.{IsField}

one_takes : (text : List ℕ) (v : ℕ) → length text ≡ 1 → hex_value (slice_index text 0) ≡ Some v → IsNibble v × (hex_values text ≡ Some (v ∷ []))
unfolding hex_values
one_takes [] v one e = absurd (omega (arith, one))
one_takes (c ∷ []) v one e = (hex_value-small c v e, rw e refl)
one_takes (c ∷ d ∷ cs) v one e = absurd (omega (arith, one))

one_again : (text : List ℕ) (v : ℕ) → hex_values text ≡ Some (v ∷ []) → (length text ≡ 1) × (hex_value (slice_index text 0) ≡ Some v)
unfolding hex_values
one_again [] v e = absurd cc
one_again (c ∷ cs) v e =
    let d = digits_more (hex_value c) (hex_values cs) (v ∷ []) e in
    let one : length (c ∷ cs) ≡ 1 = sym (digits_len (c ∷ cs) (v ∷ []) e) in
    (one, d.2 ∙ ap (λ (ds : List ℕ). Some (slice_index ds 0)) d.4)

pub nibble_field : IsField read_nibble IsNibble nibble_word
unfolding read_nibble
nibble_field = record {
  takes = λ text v e. let g = guard_some (eqb (length text) 1) _ v e in one_takes text v (eqb-true (length text) 1 g.0) g.1;
  again = λ text v fits says. let s = one_again text v says in rw (s.0, s.1) refl;
}

pub nibbles_field : (low high : ℕ) → IsField (read_nibbles low high) (NibblesFit low high) Digits
unfolding read_nibbles
nibbles_field low high = record {
  takes = λ text vs e.
      let g = guard_some (nat_le low (length text) && nat_le (length text) high) _ vs e in
      let t = both_true (nat_le low (length text)) (nat_le (length text) high) g.0 in
      let len = digits_len text vs g.1 in
      ((grind (arith, nat_tests, t.0, len), grind (arith, nat_tests, t.1, len), digits_small text vs g.1), g.1);
  again = λ text vs fits says.
      let len = digits_len text vs says in
      let least : nat_le low (length text) ≡ true = grind (arith, nat_tests, fits.0, len) in
      let most : nat_le (length text) high ≡ true = grind (arith, nat_tests, fits.1, len) in
      rw (least, most) says;
}

some_takes : (high : ℕ) (text vs : List ℕ) → NibblesFit 1 high vs → hex_values text ≡ Some vs → NibblesFit 0 high vs × IsWord text (nibbles_word vs)
some_takes high text [] fits says = absurd (omega (arith, fits.0))
some_takes high text (v ∷ vs) fits says = ((omega arith, fits.1, fits.2), says)

-- a dash is no digit
dash_none : (b : Bool) → cond b (hex_values (codes "-")) None ≡ None
unfolding hex_values
dash_none true = refl
dash_none false = refl

no_dash : (high : ℕ) → read_nibbles 1 high (codes "-") ≡ None
unfolding read_nibbles
no_dash high = dash_none (nat_le 1 (length (codes "-")) && nat_le (length (codes "-")) high)

dash_again : (high : ℕ) (text vs : List ℕ) → NibblesFit 0 high vs → IsWord text (nibbles_word vs) → read_nibbles_or_dash high text ≡ Some vs
unfolding read_nibbles_or_dash
dash_again high text [] fits is = rw is refl
dash_again high text (v ∷ vs) fits says =
    let found = (nibbles_field 1 high).again text (v ∷ vs) (omega arith, fits.1, fits.2) says in
    rw (not_dash (read_nibbles 1 high) text (v ∷ vs) (bytes_eq text (codes "-")) refl (no_dash high) found) found

pub nibbles_or_dash_field : (high : ℕ) → IsField (read_nibbles_or_dash high) (NibblesFit 0 high) nibbles_word
unfolding read_nibbles_or_dash
nibbles_or_dash_field high = record {
  takes = λ text vs e.
      let P : List ℕ → Type 0 = λ vs. NibblesFit 0 high vs × IsWord text (nibbles_word vs) in
      elim (cases_some (bytes_eq text (codes "-")) (Some []) _ vs e) [
        | inl a ↦ subst P (some_is [] vs a.1) ((omega arith, omega arith, tt), same_bytes text (codes "-") a.0)
        | inr b ↦ let t = (nibbles_field 1 high).takes text vs b.1 in some_takes high text vs t.0 t.1
      ];
  again = dash_again high;
}

-- ---- decimal digits

decimal_some : (values : List ℕ) → all_decimal values ≡ true → where_decimal values ≡ Some values
decimal_some values e = rw e refl

decimal_field : (f : List ℕ → Option (List ℕ)) (F : List ℕ → Type 0) (word : List ℕ → Word) → IsField f F word → IsField (λ text. f text >>= where_decimal) (λ vs. F vs × IsTrue (all_decimal vs)) word
decimal_field f F word field = record {
  takes = λ text vs e.
      let m = bind_some (f text) where_decimal vs e in
      let g = chosen_some (all_decimal m.0) m.0 vs m.2 in
      let t = field.takes text m.0 m.1 in
      subst (λ (vs : List ℕ). (F vs × IsTrue (all_decimal vs)) × IsWord text (word vs)) g.1 ((t.0, g.0), t.1);
  again = λ text vs fits says. ap (λ (o : Option (List ℕ)). o >>= where_decimal) (field.again text vs fits.0 says) ∙ decimal_some vs fits.1;
}

pub offset_field : IsField read_offset (DecimalsFit 0 16) nibbles_word
unfolding read_offset
offset_field = decimal_field (read_nibbles_or_dash 16) (NibblesFit 0 16) nibbles_word (nibbles_or_dash_field 16)

pub table_field : IsField read_table (DecimalsFit 16 16) Digits
unfolding read_table
table_field = decimal_field (read_nibbles 16 16) (NibblesFit 16 16) Digits (nibbles_field 16 16)
