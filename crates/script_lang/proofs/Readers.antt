-- Readers of the words that spell a value: a field and what is read after it.
use Rattle.std.proofs.Common.{◌≡◌, ℕ, List, [], length, Option, Some, eqb, refl, ap, ◌∙◌}
use Rattle.std.specs.Prelude.{IsTrue}
use Rattle.std.specs.List.{list_all}
use Rattle.std.proofs.lemmas.List.{nil_from_length}
use Rattle.std.proofs.lemmas.Bool.{eqb-true}
use Rattle.script_lang.specs.Words.{FirstWord, IsWord, Word, is_no_space, word_text}
use Rattle.script_lang.specs.Reading.{◌>>=◌, next_word, with_field, ended}
use Rattle.std.specs.Option.{option_map}
use Rattle.script_lang.proofs.Fronts.{IsEnd, next_word-again, next_word-takes}
use Rattle.script_lang.proofs.Options.{bind_some, chosen_some, mapped_some}

-- what is read of a word is the value that the word spells
pub record IsField {A : Type 0} (f : List ℕ → Option A) (Fits : A → Type 0) (word : A → Word) : Type 0 where
  pub takes : (text : List ℕ) (x : A) → f text ≡ Some x → Fits x × IsWord text (word x)
  pub again : (text : List ℕ) (x : A) → Fits x → IsWord text (word x) → f text ≡ Some x

abbrev pub Spaceless : List ℕ → Type 0
Spaceless text = IsTrue (list_all is_no_space text)

-- a word whose printed text can be read
abbrev pub Prints : Word → Type 0
Prints w = Spaceless (word_text w) × IsWord (word_text w) w

-- what is read of these bytes is the value that they say, and they begin where a word ended
pub record Reads {B : Type 0} (k : List ℕ → Option B) (S : B → List ℕ → Type 0) : Type 0 where
  pub takes : (bytes : List ℕ) (y : B) → k bytes ≡ Some y → S y bytes
  pub again : (bytes : List ℕ) (y : B) → S y bytes → k bytes ≡ Some y
  pub ends : (bytes : List ℕ) (y : B) → S y bytes → IsEnd bytes

-- the next word spells a value, and the rest is read after it
abbrev pub Then : {A B : Type 0} → (A → Type 0) → (A → Word) → (A → B → List ℕ → Type 0) → B → List ℕ → Type 0
Then {A} {B} Fits word S y bytes = (a : A) × Fits a × (rest : List ℕ) × FirstWord bytes (word a) rest × S a y rest

pub first_ends : (bytes : List ℕ) (w : Word) (rest : List ℕ) → FirstWord bytes w rest → IsEnd bytes
first_ends bytes w rest f = rw f.parts refl

pub next_word-first : (bytes : List ℕ) (w : Word) (rest : List ℕ) (f : FirstWord bytes w rest) → IsEnd rest → next_word bytes ≡ Some (f.text, rest)
next_word-first bytes w rest f end = ap next_word f.parts ∙ next_word-again f.text rest f.spaceless end

pub with_field_reads : {A B : Type 0} (f : List ℕ → Option A) (Fits : A → Type 0) (word : A → Word) (k : A → List ℕ → Option B) (S : A → B → List ℕ → Type 0)
    → IsField f Fits word → ((a : A) → Reads (k a) (S a)) → Reads (with_field f k) (Then Fits word S)
with_field_reads {A} {B} f Fits word k S field rest = record {
  takes = λ bytes y e.
      let w = bind_some (next_word bytes) (λ w. f w.0 >>= λ x. k x w.1) y e in
      let x = bind_some (f w.0.0) (λ x. k x w.0.1) y w.2 in
      let t = next_word-takes bytes w.0 w.1 in
      let fit = field.takes w.0.0 x.0 x.1 in
      (x.0, fit.0, w.0.1, record { text = w.0.0; parts = t.0; spaceless = t.1; spelled = fit.1 }, (rest x.0).takes w.0.1 y x.2);
  again = λ bytes y s.
      let at : next_word bytes ≡ Some (s.3.text, s.2) = next_word-first bytes (word s.0) s.2 s.3 ((rest s.0).ends s.2 y s.4) in
      let x : f s.3.text ≡ Some s.0 = field.again s.3.text s.0 s.1 s.3.spelled in
      ap (λ (o : Option (List ℕ × List ℕ)). o >>= λ w. f w.0 >>= λ x. k x w.1) at ∙ ap (λ (o : Option A). o >>= λ x. k x s.2) x ∙ (rest s.0).again s.2 y s.4;
  ends = λ bytes y s. first_ends bytes (word s.0) s.2 s.3;
}

-- this value, and no byte is left
abbrev pub Ended : {B : Type 0} → B → B → List ℕ → Type 0
Ended x y bytes = (x ≡ y) × (bytes ≡ [])

pub ended_reads : {B : Type 0} (x : B) → Reads (ended x) (Ended x)
ended_reads x = record {
  takes = λ bytes y e. let g = chosen_some (eqb (length bytes) 0) x y e in (g.1, nil_from_length bytes (eqb-true _ _ g.0));
  again = λ bytes y s. rw (s.1, s.0) refl;
  ends = λ bytes y s. rw s.1 tt;
}

-- every value has a word
abbrev pub Always : {A : Type 0} → A → Type 0
Always x = Unit {0}

pub one_reads : {A B : Type 0} (f : List ℕ → Option A) (F : A → Type 0) (word : A → Word) (make : A → B) → IsField f F word → Reads (with_field f (λ a. ended (make a))) (Then F word (λ a. Ended (make a)))
one_reads f F word make field = with_field_reads f F word (λ a. ended (make a)) (λ a. Ended (make a)) field (λ a. ended_reads (make a))

pub two_reads : {A C B : Type 0} (f : List ℕ → Option A) (F : A → Type 0) (word : A → Word) (g : List ℕ → Option C) (G : C → Type 0) (word2 : C → Word) (make : A → C → B) → IsField f F word → IsField g G word2
    → Reads (with_field f (λ a. with_field g (λ b. ended (make a b)))) (Then F word (λ a. Then G word2 (λ b. Ended (make a b))))
two_reads f F word g G word2 make first second =
    with_field_reads f F word (λ a. with_field g (λ b. ended (make a b))) (λ a. Then G word2 (λ b. Ended (make a b))) first (λ a. one_reads g G word2 (make a) second)

-- a reader whose value is put into a larger one
abbrev pub Mapped : {A B : Type 0} → (A → B) → (A → List ℕ → Type 0) → B → List ℕ → Type 0
Mapped {A} {B} g S y bytes = (x : A) × S x bytes × (g x ≡ y)

pub mapped_reads : {A B : Type 0} (g : A → B) (k : List ℕ → Option A) (S : A → List ℕ → Type 0) → Reads k S → Reads (λ r. option_map g (k r)) (Mapped g S)
mapped_reads g k S reads = record {
  takes = λ bytes y e. let x = mapped_some (k bytes) g y e in (x.0, reads.takes bytes x.0 x.1, x.2);
  again = λ bytes y s. rw (reads.again bytes s.0 s.1) (ap (λ y. Some y) s.2);
  ends = λ bytes y s. reads.ends bytes s.0 s.1;
}
