-- Names of keys, and fields that may be `-`.
use Rattle.std.proofs.Common.{◌≡◌, ℕ, List, Option, Some, None, Bool, true, false, refl, sym, ap, subst, ◌∙◌, inl, inr}
use Rattle.std.specs.Prelude.{bytes_eq, codes}
use Rattle.pad_words.specs.Names.{is_key_name}
use Rattle.script_lang.specs.Words.{Word, IsWord}
use Rattle.script_lang.specs.Reading.{read_name, read_optional}
use Rattle.script_lang.specs.Spelling.{name_word, optional_word}
use Rattle.script_lang.proofs.Fits.{NameFits, OptionFits}
use Rattle.script_lang.proofs.Options.{cases_some, chosen_some, mapped_some, same_bytes, some_is}
use Rattle.script_lang.proofs.Readers.{IsField}

pub name_field : IsField read_name NameFits name_word
unfolding read_name
name_field = record {
  takes = λ text name e. let g = chosen_some (is_key_name text) text name e in (subst NameFits g.1 g.0, g.1);
  again = λ text name fits is. rw (is, fits) refl;
}

-- what is read, where the reader reads no `-`, is no `-`
pub not_dash : {A : Type 0} (f : List ℕ → Option A) (text : List ℕ) (x : A) (b : Bool) → bytes_eq text (codes "-") ≡ b → f (codes "-") ≡ None → f text ≡ Some x → b ≡ false
not_dash f text x true e no_dash is = let g : None ≡ Some x = sym no_dash ∙ ap f (sym (same_bytes text (codes "-") e)) ∙ is in absurd cc
not_dash f text x false e no_dash is = refl

-- a field that may be `-`, where its own reader reads no `-`
pub optional_field : {A : Type 0} (f : List ℕ → Option A) (Fits : A → Type 0) (word : A → Word) → IsField f Fits word → f (codes "-") ≡ None → IsField (read_optional f) (OptionFits Fits) (optional_word word)
optional_field {A} f Fits word field no_dash = record {
  takes = λ text o e.
      let P : Option A → Type 0 = λ o. OptionFits Fits o × IsWord text (optional_word word o) in
      elim (cases_some (bytes_eq text (codes "-")) (Some None) _ o e) [
        | inl a ↦ subst P (some_is None o a.1) (tt, same_bytes text (codes "-") a.0)
        | inr b ↦ let x = mapped_some (f text) (λ x. Some x) o b.1 in subst P x.2 (field.takes text x.0 x.1)
      ];
  again = again;
}
  where
    again : (text : List ℕ) (o : Option A) → OptionFits Fits o → IsWord text (optional_word word o) → read_optional f text ≡ Some o
    again text None fits is = rw is refl
    again text (Some x) fits is =
        let found = field.again text x fits is in
        rw (not_dash f text x (bytes_eq text (codes "-")) refl no_dash found, found) refl

pub optional_name_field : IsField (read_optional read_name) (OptionFits NameFits) (optional_word name_word)
unfolding read_name
optional_name_field = optional_field read_name NameFits name_word name_field refl
