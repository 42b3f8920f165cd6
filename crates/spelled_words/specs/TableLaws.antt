-- Laws of tables: a test of each row shows that the reader and the writer agree.
use Rattle.std.specs.Prelude.{Bool, IsTrue, List, None, Option, Some, [], bytes_eq, false, true, ℕ, ◌&&◌, ◌||◌, ◌≡◌, ◌∷◌}
use Rattle.std.specs.List.{list_all, list_any}
use Rattle.std.proofs.Common.{ap, cond, eqb, refl, length, subst, sym, ◌∙◌}
use Rattle.std.proofs.lemmas.Bool.{agree_below, agree_below_at, and_parts}
use Rattle.std.proofs.lemmas.Slice.Eq.{bytes_eq-Decides}
use denote.Enum.Bare.{Bare, same_true, sameb}
use denote.Enum.Declared.{Declared, rowss, tag_of}
use denote.Enum.Enum.{tag_below}
use Rattle.spelled_words.specs.Tables.{Agrees, has_word, value_of, word_of}

-- ---- a test that each row passes

row_cases : {A : Type 0} (test : A × List ℕ → Bool) (row : A × List ℕ) (word : List ℕ) (here more : Bool) (found : Option A) (value : A) (P : A → Type 0)
    → bytes_eq word row.1 ≡ here → cond here (Some row.0) found ≡ Some value → (test row && more) ≡ true → (test row ≡ true → word ≡ row.1 → P row.0) → (found ≡ Some value → more ≡ true → P value) → P value
row_cases test row word true more found value P e is all first later = let one : row.0 ≡ value = cc in subst P one (first (and_parts (test row) more all).0 ((bytes_eq-Decides word row.1).0 e))
row_cases test row word false more found value P e is all first later = later is (and_parts (test row) more all).1

-- it is passed by a word that is read, beside its value
pub value_passes : {A : Type 0} (test : A × List ℕ → Bool) (table : List (A × List ℕ)) (word : List ℕ) (value : A) → value_of table word ≡ Some value → list_all test table ≡ true → test (value, word) ≡ true
value_passes test [] word value is all = absurd cc
value_passes test (row ∷ table) word value is all =
    row_cases test row word (bytes_eq word row.1) (list_all test table) (value_of table word) value (λ value. test (value, word) ≡ true) refl is all
    (λ pass same. subst (λ word. test (row.0, word) ≡ true) (sym same) pass)
    (λ is all. value_passes test table word value is all)

-- it is passed by this word, beside a value that is the same under this equality
abbrev pub PassesWith : {A : Type 0} → (A → A → Bool) → (A × List ℕ → Bool) → A → List ℕ → Type 0
PassesWith {A} same test value word = (found : A) × (same value found ≡ true) × (test (found, word) ≡ true)

word_cases : {A : Type 0} (same : A → A → Bool) (test : A × List ℕ → Bool) (row : A × List ℕ) (value : A) (here more : Bool) (word : List ℕ)
    → same value row.0 ≡ here → (here || more) ≡ true → test row ≡ true → (more ≡ true → PassesWith same test value word) → PassesWith same test value (cond here row.1 word)
word_cases same test row value true more word is has pass later = (row.0, is, pass)
word_cases same test row value false more word is has pass later = later has

-- it is passed by a word that is written
pub word_passes : {A : Type 0} (same : A → A → Bool) (test : A × List ℕ → Bool) (table : List (A × List ℕ)) (value : A)
    → IsTrue (has_word same table value) → list_all test table ≡ true → PassesWith same test value (word_of same table value)
word_passes same test [] value has all = absurd cc
word_passes same test (row ∷ table) value has all =
    let parts = and_parts (test row) (list_all test table) all in
    word_cases same test row value (same value row.0) (has_word same table value) (word_of same table value) refl has parts.0 (λ has. word_passes same test table value has parts.1)

-- ---- agreement

-- what was read is this value, under this equality
abbrev pub is_read : {A : Type 0} → (A → A → Bool) → Option A → A → Bool
is_read same None value = false
is_read same (Some found) value = same found value

pub is_read-some : {A : Type 0} (same : A → A → Bool) → ((a b : A) → same a b ≡ true → a ≡ b) → (found : Option A) (value : A) → is_read same found value ≡ true → found ≡ Some value
is_read-some same equal None value e = absurd cc
is_read-some {A} same equal (Some found) value e = ap (λ (x : A). Some x) (equal found value e)

-- the row's word is read as its value, and its value is written as its word
abbrev pub row_agrees : {A : Type 0} → (A → A → Bool) → List (A × List ℕ) → A × List ℕ → Bool
row_agrees same table row = is_read same (value_of table row.1) row.0 && has_word same table row.0 && bytes_eq (word_of same table row.0) row.1

pub Agrees-from_rows : {A : Type 0} (same : A → A → Bool) (table : List (A × List ℕ)) → ((a b : A) → same a b ≡ true → a ≡ b) → list_all (row_agrees same table) table ≡ true → Agrees same table
Agrees-from_rows {A} same table equal all = record {
  again = λ value has.
      let row = word_passes same (row_agrees same table) table value has all in
      let read = (and_parts _ _ (and_parts _ _ row.2).0).0 in
      is_read-some same equal (value_of table (word_of same table value)) row.0 read ∙ ap (λ (x : A). Some x) (sym (equal value row.0 row.1));
  written = λ word value is.
      let row = and_parts _ _ (value_passes (row_agrees same table) table word value is all) in
      ((and_parts _ _ row.0).1, sym ((bytes_eq-Decides (word_of same table value) word).0 row.1));
}

-- ---- enums without fields

-- the table has a row for each variant, and each row agrees
abbrev pub covers : (D : Declared) → List (D.D × List ℕ) → Bool
covers D table = agree_below (λ tag. list_any (λ (row : D.D × List ℕ). eqb tag (tag_of D row.0)) table) (λ tag. true) (length (rowss D.parts)) && list_all (row_agrees (sameb D) table) table

pub covers_agree : (D : Declared) (table : List (D.D × List ℕ)) → Bare D.parts → covers D table ≡ true → Agrees (sameb D) table
covers_agree D table bare all = Agrees-from_rows (sameb D) table (same_true D bare) (and_parts _ _ all).1

pub covers_all : (D : Declared) (table : List (D.D × List ℕ)) → covers D table ≡ true → (value : D.D) → IsTrue (has_word (sameb D) table value)
covers_all D table all value = agree_below_at (λ tag. list_any (λ (row : D.D × List ℕ). eqb tag (tag_of D row.0)) table) (λ tag. true) (length (rowss D.parts)) (tag_of D value) (and_parts _ _ all).0 (tag_below (rowss D.parts) (D.to value))
