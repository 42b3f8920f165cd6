-- Rows by their first word.
use Rattle.std.proofs.Common.{◌≡◌, ℕ, List, [], ◌∷◌, ◌++◌, Option, Some, refl, sym, ap, subst, ◌∙◌}
use Rattle.std.specs.Prelude.{IsTrue}
use Rattle.std.specs.List.{list_all}
use Rattle.script_lang.specs.Words.{Word, IsWord, Says, is_no_space}
use Rattle.script_lang.specs.Reading.{◌>>=◌, alone, next_word, with_field, ended}
use Rattle.std.specs.Option.{option_map}
use Rattle.script_lang.proofs.Fronts.{IsEnd, next_word-takes}
use Rattle.script_lang.proofs.Options.{bind_some, mapped_some}
use Rattle.script_lang.proofs.Readers.{Always, IsField, Reads, ended_reads, first_ends, next_word-first, one_reads, two_reads}

-- the words begin with this one, and the bytes are the others
abbrev pub After : Word → List ℕ → List Word → Type 0
After first bytes [] = ⊥
After first bytes (w ∷ ws) = (w ≡ first) × Says bytes ws

-- the value is one that is read, and the bytes are its words
abbrev pub Spelled : {B : Type 0} → (B → Type 0) → (B → List Word) → B → List ℕ → Type 0
Spelled Fits words y bytes = Fits y × Says bytes (words y)

-- what the row of a first word reads is spelled by that word and the bytes behind it
abbrev pub RowTakes : {B : Type 0} → (B → Type 0) → (B → List Word) → Word → (List ℕ → Option B) → Type 0
RowTakes {B} Fits words first row = (bytes : List ℕ) (y : B) → row bytes ≡ Some y → Fits y × After first bytes (words y)

after_says : (first : Word) (text bytes rest : List ℕ) (ws : List Word) → bytes ≡ 32 ∷ (text ++ rest) → IsTrue (list_all is_no_space text) → IsWord text first → After first rest ws → Says bytes ws
after_says first text bytes rest [] parts spaceless spelled after = absurd after
after_says first text bytes rest (w ∷ ws) parts spaceless spelled after = (rest, record { text = text; parts = parts; spaceless = spaceless; spelled = subst (IsWord text) (sym after.0) spelled }, after.1)

pub says_end : (ws : List Word) (bytes : List ℕ) → Says bytes ws → IsEnd bytes
says_end [] bytes s = rw s tt
says_end (w ∷ ws) bytes s = first_ends bytes w s.0 s.1

-- ---- the first word is a field, and its row reads the rest

module _ {V B : Type 0} (read : List ℕ → Option V) (word : V → Word) (rows : V → List ℕ → Option B) (first : IsField read Always word) where
  pub rows_take : (Fits : B → Type 0) (words : B → List Word) → ((verb : V) → RowTakes Fits words (word verb) (rows verb)) → (bytes : List ℕ) (y : B) → with_field read rows bytes ≡ Some y → Spelled Fits words y bytes
  rows_take Fits words each bytes y e =
      let w = bind_some (next_word bytes) (λ w. read w.0 >>= λ verb. rows verb w.1) y e in
      let verb = bind_some (read w.0.0) (λ verb. rows verb w.0.1) y w.2 in
      let t = next_word-takes bytes w.0 w.1 in
      let c = each verb.0 w.0.1 y verb.2 in
      (c.0, after_says (word verb.0) w.0.0 bytes w.0.1 (words y) t.0 t.1 (first.takes w.0.0 verb.0 verb.1).1 c.1)

  pub row_at : (verb : V) (ws : List Word) (bytes : List ℕ) (s : Says bytes (word verb ∷ ws)) → with_field read rows bytes ≡ rows verb s.0
  row_at verb ws bytes s =
      ap (λ (o : Option (List ℕ × List ℕ)). o >>= λ w. read w.0 >>= λ verb. rows verb w.1) (next_word-first bytes (word verb) s.0 s.1 (says_end ws s.0 s.2))
      ∙ ap (λ (o : Option V). o >>= λ verb. rows verb s.0) (first.again s.1.text verb tt s.1.spelled)

-- a field, to the line's end
pub alone_reads : {A : Type 0} (f : List ℕ → Option A) (F : A → Type 0) (word : A → Word) → IsField f F word → Reads (alone f) (Spelled F (λ a. word a ∷ []))
alone_reads {A} f F word field = record {
  takes = λ bytes a e.
      let s = (one_reads f F word (λ (a : A). a) field).takes bytes a e in
      subst (λ a. Spelled F (λ a. word a ∷ []) a bytes) s.4.0 (s.1, (s.2, s.3, s.4.1));
  again = λ bytes a s. (one_reads f F word (λ (a : A). a) field).again bytes a (a, s.0, s.1.0, s.1.1, (refl, s.1.2));
  ends = λ bytes a s. says_end (word a ∷ []) bytes s.1;
}

-- ---- rows that read a part, no field, one, two

pub row_mapped : {A B : Type 0} (read : List ℕ → Option A) (F : A → Type 0) (parts : A → List Word) (make : A → B) (Fits : B → Type 0) (words : B → List Word) (first : Word) → Reads read (Spelled F parts)
    → ((x : A) → F x → Fits (make x)) → ((x : A) → words (make x) ≡ first ∷ parts x) → RowTakes Fits words first (λ bytes. option_map make (read bytes))
row_mapped read F parts make Fits words first reads fits is bytes y e =
    let x = mapped_some (read bytes) make y e in
    let s = reads.takes bytes x.0 x.1 in
    subst (λ y. Fits y × After first bytes (words y)) x.2 (fits x.0 s.0, rw (is x.0) (refl, s.1))

pub row_none : {B : Type 0} (Fits : B → Type 0) (words : B → List Word) (first : Word) (x : B) → Fits x → words x ≡ first ∷ [] → RowTakes Fits words first (ended x)
row_none Fits words first x fits is bytes y e =
    let s = (ended_reads x).takes bytes y e in
    subst (λ y. Fits y × After first bytes (words y)) s.0 (fits, rw is (refl, s.1))

pub row_one : {A B : Type 0} (f : List ℕ → Option A) (F : A → Type 0) (word : A → Word) (make : A → B) (Fits : B → Type 0) (words : B → List Word) (first : Word) → IsField f F word
    → ((a : A) → F a → Fits (make a)) → ((a : A) → words (make a) ≡ first ∷ word a ∷ []) → RowTakes Fits words first (with_field f (λ a. ended (make a)))
row_one f F word make Fits words first field fits is bytes y e =
    let s = (one_reads f F word make field).takes bytes y e in
    subst (λ y. Fits y × After first bytes (words y)) s.4.0 (fits s.0 s.1, rw (is s.0) (refl, (s.2, s.3, s.4.1)))

pub one_again : {A B : Type 0} (f : List ℕ → Option A) (F : A → Type 0) (word : A → Word) (make : A → B) → IsField f F word
    → (bytes : List ℕ) (a : A) → F a → Says bytes (word a ∷ []) → with_field f (λ a. ended (make a)) bytes ≡ Some (make a)
one_again f F word make field bytes a fits s = (one_reads f F word make field).again bytes (make a) (a, fits, s.0, s.1, (refl, s.2))

pub row_two : {A C B : Type 0} (f : List ℕ → Option A) (F : A → Type 0) (word : A → Word) (g : List ℕ → Option C) (G : C → Type 0) (word2 : C → Word) (make : A → C → B) (Fits : B → Type 0) (words : B → List Word) (first : Word)
    → IsField f F word → IsField g G word2 → ((a : A) (b : C) → F a → G b → Fits (make a b)) → ((a : A) (b : C) → words (make a b) ≡ first ∷ word a ∷ word2 b ∷ [])
    → RowTakes Fits words first (with_field f (λ a. with_field g (λ b. ended (make a b))))
row_two f F word g G word2 make Fits words front first second fits is bytes y e =
    let s = (two_reads f F word g G word2 make first second).takes bytes y e in
    subst (λ y. Fits y × After front bytes (words y)) s.4.4.0 (fits s.0 s.4.0 s.1 s.4.1, rw (is s.0 s.4.0) (refl, (s.2, s.3, (s.4.2, s.4.3, s.4.4.1))))

pub two_again : {A C B : Type 0} (f : List ℕ → Option A) (F : A → Type 0) (word : A → Word) (g : List ℕ → Option C) (G : C → Type 0) (word2 : C → Word) (make : A → C → B) → IsField f F word → IsField g G word2
    → (bytes : List ℕ) (a : A) (b : C) → F a → G b → Says bytes (word a ∷ word2 b ∷ []) → with_field f (λ a. with_field g (λ b. ended (make a b))) bytes ≡ Some (make a b)
two_again f F word g G word2 make first second bytes a b fa fb s =
    (two_reads f F word g G word2 make first second).again bytes (make a b) (a, fa, s.0, s.1, (b, fb, s.2.0, s.2.1, (refl, s.2.2)))
