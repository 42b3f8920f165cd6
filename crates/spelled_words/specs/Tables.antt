-- A table of spelled words, each value beside its word: what it reads, what it writes, and that both agree.
use Rattle.std.specs.Prelude.{Bool, IsTrue, List, None, Option, Some, [], bytes_eq, if◌then◌else◌, ℕ, ◌≡◌, ◌∷◌}
use Rattle.std.specs.List.{list_any}
use Rattle.spelled_words.specs.declared.Spelled.{Spelled}

-- the value whose word this is
abbrev pub value_of : {A : Type 0} → List (A × List ℕ) → List ℕ → Option A
value_of [] word = None
value_of (row ∷ rows) word = if bytes_eq word row.1 then Some row.0 else value_of rows word

-- the word of this value, under this equality; empty where it has none
abbrev pub word_of : {A : Type 0} → (A → A → Bool) → List (A × List ℕ) → A → List ℕ
word_of same [] value = []
word_of same (row ∷ rows) value = if same value row.0 then row.1 else word_of same rows value

-- a row has this value, under this equality
abbrev pub has_word : {A : Type 0} → (A → A → Bool) → List (A × List ℕ) → A → Bool
has_word {A} same table value = list_any (λ (row : A × List ℕ). same value row.0) table

-- each value beside the bytes of its word, as the code's table has them
abbrev pub rows : {A : Type 0} → List (Spelled A) → List (A × List ℕ)
rows [] = []
rows (row ∷ table) = (row.0, row.1.now) ∷ rows table

-- the reader and the writer agree: a value that has a word is written and read again, and a word that is read is that of its value
pub record Agrees {A : Type 0} (same : A → A → Bool) (table : List (A × List ℕ)) : Type 0 where
  pub again : (value : A) → IsTrue (has_word same table value) → value_of table (word_of same table value) ≡ Some value
  pub written : (word : List ℕ) (value : A) → value_of table word ≡ Some value → IsTrue (has_word same table value) × (word ≡ word_of same table value)
