-- The words of keys: what is written of a key is read as the key, and what is read is its word.
use Rattle.std.proofs.Common.{Bool, List, None, Option, Some, ap, arith, eqb, false, refl, subst, sym, true, ℕ, ◌+◌, ◌-◌, ◌<◌, ◌∙◌, ◌≡◌}
use Rattle.std.specs.Prelude.{IsTrue, is_none, nat_le, nat_lt, ◌&&◌}
use Rattle.std.specs.List.{list_all}
use Rattle.std.proofs.lemmas.Bool.{agree_below_at, and_parts, cond-false, eqb-true}
use Rattle.std.proofs.lemmas.Bool.Decides.{nat_tests}
use Rattle.pad_words.specs.Numbers.{digit_some}
use Rattle.spelled_words.specs.TableLaws.{Agrees-from_rows, is_read, is_read-some, value_passes, word_passes}
use Rattle.spelled_words.specs.Tables.{Agrees, has_word, value_of, word_of}
use Rattle.key_source.specs.Keys.{fdk_bit, is_key, key_bit}
use Rattle.key_source.specs.KeyWords.{fdk_at, fdk_words, key_at, key_found, key_text, key_words, read_key, word_at}
use Rattle.key_source.specs.declared.Key.{Key}
use Rattle.key_source.specs.declared.Key.TheVariants as keypad

key_words_agree : Agrees eqb key_words
key_words_agree = Agrees-from_rows eqb key_words eqb-true refl

fdk_words_agree : Agrees eqb fdk_words
fdk_words_agree = Agrees-from_rows eqb fdk_words eqb-true refl

-- ---- what is written is read

read-key_word : (place : ℕ) (fdk : Option ℕ) → place < 21 → read_key (word_at (Some place) fdk) ≡ key_at place
unfolding read_key
read-key_word place fdk few =
    let has : IsTrue (has_word eqb key_words place) = agree_below_at (has_word eqb key_words) (λ place. true) 21 place refl few in
    rw (key_words_agree.again place has) refl

is_none-none : {A : Type 0} (o : Option A) → is_none o ≡ true → o ≡ None
is_none-none None e = refl
is_none-none (Some x) e = absurd cc

read-fdk_word : (place : ℕ) → place < 32 → read_key (word_at None (Some place)) ≡ fdk_at place
unfolding read_key
read-fdk_word place few =
    let has : IsTrue (has_word eqb fdk_words place) = agree_below_at (has_word eqb fdk_words) (λ place. true) 32 place refl few in
    let other = word_passes eqb (λ (row : ℕ × List ℕ). is_none (value_of key_words row.1)) fdk_words place has refl in
    rw (is_none-none (value_of key_words (word_of eqb fdk_words place)) other.2, fdk_words_agree.again place has) refl

pub key_again : (key : Key) → IsTrue (is_key key) → read_key (key_text key) ≡ Some key
unfolding key_text read_key
key_again (keypad.Digit digit) is =
    let few : nat_lt digit.value 10 ≡ true = grind (arith, nat_tests, digit.small) in
    read-key_word digit.value None (omega arith) ∙ rw (← digit_some digit, few) refl
key_again (keypad.Hex value) is =
    let range = and_parts (nat_le 10 value) (nat_le value 15) is in
    let few : value < 21 = grind (arith, nat_tests, range.1) in
    let letter : nat_lt value 10 ≡ false = grind (arith, nat_tests, range.0) in
    let last : nat_lt value 16 ≡ true = grind (arith, nat_tests, range.1) in
    rw is (read-key_word value None few ∙ cond-false (nat_lt value 10) _ _ letter ∙ rw last refl)
key_again keypad.Enter is = refl
key_again keypad.Cancel is = refl
key_again keypad.Clear is = refl
key_again keypad.Backspace is = refl
key_again keypad.Help is = refl
key_again (keypad.Fdk number) is =
    let range = and_parts (nat_le 1 number) (nat_le number 32) is in
    let few : nat_lt (number - 1) 32 ≡ true = grind (arith, nat_tests, range.1, range.0) in
    let below : number - 1 < 32 = grind (arith, nat_tests, range.1, range.0) in
    let back : number - 1 + 1 ≡ number = grind (arith, nat_tests, range.0) in
    rw is (read-fdk_word (number - 1) below ∙ rw (few, back) refl)

-- ---- what is read is written so

-- the test of a key at a place that is found
abbrev at_place : Option Key → (Key → Bool) → Bool
at_place None test = false
at_place (Some key) test = test key

found_takes : (word : List ℕ) (key : Key) (place fdk : Option ℕ) → value_of key_words word ≡ place → value_of fdk_words word ≡ fdk → key_found place fdk ≡ Some key → IsTrue (is_key key) × (word ≡ key_text key)
unfolding key_text
found_takes word key (Some place) fdk is other e =
    let test : ℕ → Key → Bool = λ place key. is_key key && is_read eqb (key_bit key) place in
    let row : at_place (key_at place) (test place) ≡ true = value_passes (λ (row : ℕ × List ℕ). at_place (key_at row.0) (test row.0)) key_words word place is refl in
    let parts = and_parts _ _ (subst (λ (o : Option Key). at_place o (test place) ≡ true) e row) in
    (parts.0, (key_words_agree.written word place is).1 ∙ sym (ap (λ (o : Option ℕ). word_at o (fdk_bit key)) (is_read-some eqb eqb-true (key_bit key) place parts.1)))
found_takes word key None (Some place) is other e =
    let test : ℕ → Key → Bool = λ place key. is_key key && is_none (key_bit key) && is_read eqb (fdk_bit key) place in
    let row : at_place (fdk_at place) (test place) ≡ true = value_passes (λ (row : ℕ × List ℕ). at_place (fdk_at row.0) (test row.0)) fdk_words word place other refl in
    let parts = and_parts _ _ (subst (λ (o : Option Key). at_place o (test place) ≡ true) e row) in
    let kinds = and_parts _ _ parts.0 in
    (kinds.0, (fdk_words_agree.written word place other).1 ∙ sym (rw (is_none-none (key_bit key) kinds.1, is_read-some eqb eqb-true (fdk_bit key) place parts.1) refl))
found_takes word key None None is other e = absurd cc

pub key_takes : (word : List ℕ) (key : Key) → read_key word ≡ Some key → IsTrue (is_key key) × (word ≡ key_text key)
unfolding read_key
key_takes word key e = found_takes word key (value_of key_words word) (value_of fdk_words word) refl refl e

-- ---- every word of a key

found_passes : (test : List ℕ → Bool) (word : List ℕ) (key : Key) (place fdk : Option ℕ) → list_all (λ (row : ℕ × List ℕ). test row.1) key_words ≡ true → list_all (λ (row : ℕ × List ℕ). test row.1) fdk_words ≡ true
    → value_of key_words word ≡ place → value_of fdk_words word ≡ fdk → key_found place fdk ≡ Some key → test word ≡ true
found_passes test word key (Some place) fdk all fdks is other e = value_passes (λ (row : ℕ × List ℕ). test row.1) key_words word place is all
found_passes test word key None (Some place) all fdks is other e = value_passes (λ (row : ℕ × List ℕ). test row.1) fdk_words word place other fdks
found_passes test word key None None all fdks is other e = absurd cc

-- a test that each word of the tables passes is passed by the word of each key
pub key_text-passes : (test : List ℕ → Bool) → list_all (λ (row : ℕ × List ℕ). test row.1) key_words ≡ true → list_all (λ (row : ℕ × List ℕ). test row.1) fdk_words ≡ true → (key : Key) → IsTrue (is_key key) → test (key_text key) ≡ true
unfolding read_key
key_text-passes test all fdks key is = found_passes test (key_text key) key (value_of key_words (key_text key)) (value_of fdk_words (key_text key)) all fdks refl refl (key_again key is)
