-- Words of few values.
use Rattle.std.proofs.Common.{◌≡◌, ℕ, List, Option, Some, Bool, true, false, cond, refl, subst, inl, inr, ap, ◌∙◌}
use Rattle.std.specs.Prelude.{IsTrue, bytes_eq}
use denote.Enum.Bare.{Bare, sameb}
use denote.Enum.Declared.{Declared}
use mathlib.Core.Bool.{beq}
use Rattle.pad_words.specs.contracts.Direction.{the_type as direction_type}
use Rattle.pad_steps.specs.contracts.commands.Algorithm.{the_type as algorithm_type}
use Rattle.pad_steps.specs.contracts.commands.Form.{the_type as form_type}
use Rattle.pad_steps.specs.contracts.commands.Verify.{the_type as verify_type}
use Rattle.pad_steps.specs.declared.steps.Classes.{Classes}
use Rattle.script_lang.specs.contracts.kinds.CommandVerb.{the_type as command_verb_type}
use Rattle.script_lang.specs.contracts.kinds.KeepVerb.{the_type as keep_verb_type}
use Rattle.script_lang.specs.contracts.kinds.LineVerb.{the_type as line_verb_type}
use Rattle.script_lang.specs.contracts.kinds.QuestionVerb.{the_type as question_verb_type}
use Rattle.script_lang.specs.contracts.kinds.SourceKind.{the_type as source_kind_type}
use Rattle.pad_words.specs.declared.Direction.{Direction}
use Rattle.pad_steps.specs.declared.commands.Algorithm.{Algorithm}
use Rattle.pad_steps.specs.declared.commands.Form.{Form}
use Rattle.pad_steps.specs.declared.commands.Verify.{Verify}
use Rattle.script_lang.specs.declared.kinds.CommandVerb.{CommandVerb}
use Rattle.script_lang.specs.declared.kinds.LineVerb.{LineVerb}
use Rattle.script_lang.specs.declared.kinds.QuestionVerb.{QuestionVerb}
use Rattle.script_lang.specs.declared.kinds.SourceKind.{SourceKind}
use Rattle.std.specs.List.{list_all}
use Rattle.spelled_words.specs.TableLaws.{Agrees-from_rows, covers, covers_agree, covers_all, word_passes}
use Rattle.spelled_words.specs.Tables.{Agrees, has_word, value_of, word_of}
use Rattle.script_lang.specs.Words.{Exact, algorithm_text, algorithm_words, classes_text, classes_words, command_verb_text, command_verbs, direction_text, direction_words, end_text, end_words, form_text, form_words, is_no_space, keep_verb_text, keep_verbs, line_verb_text, line_verbs, question_verb_text, question_verbs, same_classes, source_kind_text, source_kinds, switch_text, switch_words, verify_text, verify_words, zero_text, zero_words}
use Rattle.script_lang.specs.Reading.{read_algorithm, read_classes, read_command_verb, read_direction, read_end, read_form, read_keep_verb, read_line_verb, read_question_verb, read_source_kind, read_switch, read_verify, read_zero}
use Rattle.script_lang.specs.Spelling.{algorithm_word, classes_word, command_verb_word, direction_word, end_word, form_word, keep_verb_word, line_verb_word, question_verb_word, source_kind_word, switch_word, verify_word, zero_word}
use Rattle.script_lang.proofs.Options.{both_true, cases_some, same_bytes, some_is}
use Rattle.script_lang.proofs.Readers.{Always, IsField, Prints}

-- the value of the first pair with this word
pub word_cases : {A : Type 0} (text word : List ℕ) (x : A) (more : Option A) (y : A) (P : A → Type 0) → cond (bytes_eq text word) (Some x) more ≡ Some y → (text ≡ word → P x) → (more ≡ Some y → P y) → P y
word_cases text word x more y P e here else =
    elim (cases_some (bytes_eq text word) (Some x) more y e) [ inl a ↦ subst P (some_is x y a.1) (here (same_bytes text word a.0)) | inr b ↦ else b.1 ]

-- ---- tables

-- a table of which every value has a word is a field
word_field : {A : Type 0} (same : A → A → Bool) (table : List (A × List ℕ)) → Agrees same table → ((value : A) → IsTrue (has_word same table value)) → IsField (value_of table) Always (λ value. Exact (word_of same table value))
word_field same table agrees has = record {
  takes = λ text value e. (tt, (agrees.written text value e).1);
  again = λ text value h is. ap (value_of table) is ∙ agrees.again value (has value);
}

-- a table without a space in its words
word_prints : {A : Type 0} (same : A → A → Bool) (table : List (A × List ℕ)) → ((value : A) → IsTrue (has_word same table value)) → list_all (λ (row : A × List ℕ). list_all is_no_space row.1) table ≡ true → (value : A) → Prints (Exact (word_of same table value))
word_prints {A} same table has all value = ((word_passes same (λ (row : A × List ℕ). list_all is_no_space row.1) table value (has value) all).2, refl)

-- a table with a row for each variant of an enum
pub enum_field : (D : Declared) (table : List (D.D × List ℕ)) → Bare D.parts → covers D table ≡ true → IsField (value_of table) Always (λ value. Exact (word_of (sameb D) table value))
enum_field D table bare all = word_field (sameb D) table (covers_agree D table bare all) (covers_all D table all)

enum_prints : (D : Declared) (table : List (D.D × List ℕ)) → covers D table ≡ true → list_all (λ (row : D.D × List ℕ). list_all is_no_space row.1) table ≡ true → (value : D.D) → Prints (Exact (word_of (sameb D) table value))
enum_prints D table all = word_prints (sameb D) table (covers_all D table all)

beq-equal : (a b : Bool) → beq a b ≡ true → a ≡ b
beq-equal true true e = refl
beq-equal true false e = absurd cc
beq-equal false true e = absurd cc
beq-equal false false e = refl

end_has_word : (auto_end : Bool) → IsTrue (has_word beq end_words auto_end)
end_has_word true = refl
end_has_word false = refl

pub end_field : IsField read_end Always end_word
unfolding read_end end_text
end_field = word_field beq end_words (Agrees-from_rows beq end_words beq-equal refl) end_has_word

pub end_prints : (auto_end : Bool) → Prints (end_word auto_end)
unfolding end_text
end_prints = word_prints beq end_words end_has_word refl

switch_has_word : (on : Bool) → IsTrue (has_word beq switch_words on)
switch_has_word true = refl
switch_has_word false = refl

pub switch_field : IsField read_switch Always switch_word
unfolding read_switch switch_text
switch_field = word_field beq switch_words (Agrees-from_rows beq switch_words beq-equal refl) switch_has_word

pub switch_prints : (on : Bool) → Prints (switch_word on)
unfolding switch_text
switch_prints = word_prints beq switch_words switch_has_word refl

zero_has_word : (no_zero : Bool) → IsTrue (has_word beq zero_words no_zero)
zero_has_word true = refl
zero_has_word false = refl

pub zero_field : IsField read_zero Always zero_word
unfolding read_zero zero_text
zero_field = word_field beq zero_words (Agrees-from_rows beq zero_words beq-equal refl) zero_has_word

pub zero_prints : (no_zero : Bool) → Prints (zero_word no_zero)
unfolding zero_text
zero_prints = word_prints beq zero_words zero_has_word refl

same_classes-equal : (a b : Classes) → same_classes a b ≡ true → a ≡ b
same_classes-equal a b e =
    let parts = both_true (beq a.service b.service) (beq a.execute b.execute) e in
    λ i. record { service = beq-equal a.service b.service parts.0 i; execute = beq-equal a.execute b.execute parts.1 i }

has_both : (service execute : Bool) → let classes : Classes = record { service = service; execute = execute } in IsTrue (has_word same_classes classes_words classes)
has_both true true = refl
has_both true false = refl
has_both false true = refl
has_both false false = refl

classes_have_word : (classes : Classes) → IsTrue (has_word same_classes classes_words classes)
classes_have_word classes = has_both classes.service classes.execute

pub classes_field : IsField read_classes Always classes_word
unfolding read_classes classes_text
classes_field = word_field same_classes classes_words (Agrees-from_rows same_classes classes_words same_classes-equal refl) classes_have_word

pub classes_print : (classes : Classes) → Prints (classes_word classes)
unfolding classes_text
classes_print = word_prints same_classes classes_words classes_have_word refl

pub verify_field : IsField read_verify Always verify_word
unfolding read_verify verify_text
verify_field = enum_field verify_type verify_words tt refl

pub verify_prints : (mode : Verify) → Prints (verify_word mode)
unfolding verify_text
verify_prints = enum_prints verify_type verify_words refl refl

pub form_field : IsField read_form Always form_word
unfolding read_form form_text
form_field = enum_field form_type form_words tt refl

pub form_prints : (form : Form) → Prints (form_word form)
unfolding form_text
form_prints = enum_prints form_type form_words refl refl

pub algorithm_field : IsField read_algorithm Always algorithm_word
unfolding read_algorithm algorithm_text
algorithm_field = enum_field algorithm_type algorithm_words tt refl

pub algorithm_prints : (algorithm : Algorithm) → Prints (algorithm_word algorithm)
unfolding algorithm_text
algorithm_prints = enum_prints algorithm_type algorithm_words refl refl

pub direction_field : IsField read_direction Always direction_word
unfolding read_direction direction_text
direction_field = enum_field direction_type direction_words tt refl

pub direction_prints : (direction : Direction) → Prints (direction_word direction)
unfolding direction_text
direction_prints = enum_prints direction_type direction_words refl refl

pub line_verb_field : IsField read_line_verb Always line_verb_word
unfolding read_line_verb line_verb_text
line_verb_field = enum_field line_verb_type line_verbs tt refl

pub keep_verb_field : IsField read_keep_verb Always keep_verb_word
unfolding read_keep_verb keep_verb_text
keep_verb_field = enum_field keep_verb_type keep_verbs tt refl

pub line_verb_prints : (verb : LineVerb) → Prints (line_verb_word verb)
unfolding line_verb_text
line_verb_prints = enum_prints line_verb_type line_verbs refl refl

pub command_verb_field : IsField read_command_verb Always command_verb_word
unfolding read_command_verb command_verb_text
command_verb_field = enum_field command_verb_type command_verbs tt refl

pub command_verb_prints : (verb : CommandVerb) → Prints (command_verb_word verb)
unfolding command_verb_text
command_verb_prints = enum_prints command_verb_type command_verbs refl refl

pub question_verb_field : IsField read_question_verb Always question_verb_word
unfolding read_question_verb question_verb_text
question_verb_field = enum_field question_verb_type question_verbs tt refl

pub question_verb_prints : (verb : QuestionVerb) → Prints (question_verb_word verb)
unfolding question_verb_text
question_verb_prints = enum_prints question_verb_type question_verbs refl refl

pub source_kind_field : IsField read_source_kind Always source_kind_word
unfolding read_source_kind source_kind_text
source_kind_field = enum_field source_kind_type source_kinds tt refl

pub source_kind_prints : (kind : SourceKind) → Prints (source_kind_word kind)
unfolding source_kind_text
source_kind_prints = enum_prints source_kind_type source_kinds refl refl
