-- The laws of what a session asks.
use Rattle.std.proofs.Common.{◌≡◌, ℕ, List, [], ◌∷◌, Some, refl, ◌∙◌, arith}
use Rattle.pad_steps.specs.declared.steps.Question.{Question}
use Rattle.pad_steps.specs.declared.steps.Question.TheVariants as question
use Rattle.script_lang.specs.Words.{Says, Word}
use Rattle.script_lang.specs.Reading.{question_after, read_name, read_number, read_question, read_question_verb, with_field}
use Rattle.script_lang.specs.Spelling.{name_word, number_word, question_verb_word, question_words}
use Rattle.script_lang.specs.declared.kinds.QuestionVerb.{QuestionVerb}
use Rattle.script_lang.specs.declared.kinds.QuestionVerb.TheVariants as question_verb
use Rattle.script_lang.proofs.Fits.{NameFits, QuestionFits}
use Rattle.script_lang.proofs.NameLaws.{name_field}
use Rattle.script_lang.proofs.NumberLaws.{Within, id_field}
use Rattle.script_lang.proofs.Readers.{Reads, ended_reads}
use Rattle.script_lang.proofs.RowLaws.{RowTakes, Spelled, one_again, row_at, row_none, row_one, rows_take, says_end}
use Rattle.script_lang.proofs.WordLaws.{question_verb_field}

rows_take_questions : (verb : QuestionVerb) → RowTakes QuestionFits question_words (question_verb_word verb) (question_after verb)
rows_take_questions question_verb.Status = row_none QuestionFits question_words (question_verb_word question_verb.Status) question.Status tt refl
rows_take_questions question_verb.Key = row_one read_name NameFits name_word (λ name. question.Key name) QuestionFits question_words (question_verb_word question_verb.Key) name_field (λ name f. f) (λ name. refl)
rows_take_questions question_verb.Names = row_none QuestionFits question_words (question_verb_word question_verb.Names) question.Names tt refl
rows_take_questions question_verb.Reply = row_one (read_number 0 4294967295) (Within 0 4294967295) number_word (λ id. question.Reply id) QuestionFits question_words (question_verb_word question_verb.Reply) id_field (λ id f. f.1) (λ id. refl)

question_takes : (bytes : List ℕ) (asked : Question) → read_question bytes ≡ Some asked → Spelled QuestionFits question_words asked bytes
unfolding read_question
question_takes = rows_take read_question_verb question_verb_word question_after question_verb_field QuestionFits question_words rows_take_questions

question_row : (verb : QuestionVerb) (ws : List Word) (bytes : List ℕ) (s : Says bytes (question_verb_word verb ∷ ws)) → with_field read_question_verb question_after bytes ≡ question_after verb s.0
question_row = row_at read_question_verb question_verb_word question_after question_verb_field

question_again : (bytes : List ℕ) (asked : Question) → QuestionFits asked → Says bytes (question_words asked) → read_question bytes ≡ Some asked
unfolding read_question
question_again bytes question.Status fits s = question_row question_verb.Status [] bytes s ∙ (ended_reads question.Status).again s.0 question.Status (refl, s.2)
question_again bytes (question.Key name) fits s = question_row question_verb.Key (name_word name ∷ []) bytes s ∙ one_again read_name NameFits name_word (λ name. question.Key name) name_field s.0 name fits s.2
question_again bytes question.Names fits s = question_row question_verb.Names [] bytes s ∙ (ended_reads question.Names).again s.0 question.Names (refl, s.2)
question_again bytes (question.Reply id) fits s = question_row question_verb.Reply (number_word id ∷ []) bytes s ∙ one_again (read_number 0 4294967295) (Within 0 4294967295) number_word (λ id. question.Reply id) id_field s.0 id (omega arith, fits) s.2

pub question_reads : Reads read_question (Spelled QuestionFits question_words)
question_reads = record { takes = question_takes; again = λ bytes asked s. question_again bytes asked s.0 s.1; ends = λ bytes asked s. says_end (question_words asked) bytes s.1 }
