-- The laws of the lines that arm a call: what is read is spelled so, and what is spelled so is read.
use Rattle.std.proofs.Common.{◌≡◌, ℕ, List, [], ◌∷◌, Some, refl, subst, ◌∙◌, arith}
use Rattle.disk_core.specs.declared.disk.Keep.{Keep}
use Rattle.disk_core.specs.declared.disk.Keep.TheVariants as kept
use Rattle.disk_core.specs.declared.disk.Strike.TheVariants as struck
use Rattle.script_lang.specs.Words.{Says, Word}
use Rattle.script_lang.specs.Reading.{keep_after, read_byte, read_cut, read_fail, read_keep, read_keep_verb, read_number, with_field}
use Rattle.script_lang.specs.Spelling.{byte_word, keep_verb_word, keep_words, line_verb_word, line_words, number_word}
use Rattle.script_lang.specs.declared.kinds.KeepVerb.{KeepVerb}
use Rattle.script_lang.specs.declared.kinds.KeepVerb.TheVariants as keep_verb
use Rattle.script_lang.specs.declared.kinds.Line.TheVariants as line
use Rattle.script_lang.specs.declared.kinds.LineVerb.TheVariants as line_verb
use Rattle.script_lang.proofs.Fits.{IsByte, KeepFits, LineFits}
use Rattle.script_lang.proofs.HexLaws.{byte_field}
use Rattle.script_lang.proofs.NumberLaws.{Within, number_field}
use Rattle.script_lang.proofs.Readers.{IsField, Mapped, Reads, Then, ended_reads, mapped_reads, with_field_reads}
use Rattle.script_lang.proofs.RowLaws.{After, RowTakes, Spelled, one_again, row_at, row_none, row_one, rows_take, says_end}
use Rattle.script_lang.proofs.WordLaws.{keep_verb_field}

-- ---- what a cut makes of bytes

rows_take_keeps : (verb : KeepVerb) → RowTakes KeepFits keep_words (keep_verb_word verb) (keep_after verb)
rows_take_keeps keep_verb.Old = row_none KeepFits keep_words (keep_verb_word keep_verb.Old) kept.Old tt refl
rows_take_keeps keep_verb.New = row_none KeepFits keep_words (keep_verb_word keep_verb.New) kept.New tt refl
rows_take_keeps keep_verb.Fill = row_one read_byte IsByte byte_word (λ byte. kept.Fill byte) KeepFits keep_words (keep_verb_word keep_verb.Fill) byte_field (λ byte f. f) (λ byte. refl)

keep_takes : (bytes : List ℕ) (keep : Keep) → read_keep bytes ≡ Some keep → Spelled KeepFits keep_words keep bytes
unfolding read_keep
keep_takes = rows_take read_keep_verb keep_verb_word keep_after keep_verb_field KeepFits keep_words rows_take_keeps

keep_row : (verb : KeepVerb) (ws : List Word) (bytes : List ℕ) (s : Says bytes (keep_verb_word verb ∷ ws)) → with_field read_keep_verb keep_after bytes ≡ keep_after verb s.0
keep_row = row_at read_keep_verb keep_verb_word keep_after keep_verb_field

keep_again : (bytes : List ℕ) (keep : Keep) → KeepFits keep → Says bytes (keep_words keep) → read_keep bytes ≡ Some keep
unfolding read_keep
keep_again bytes kept.Old fits s = keep_row keep_verb.Old [] bytes s ∙ (ended_reads kept.Old).again s.0 kept.Old (refl, s.2)
keep_again bytes kept.New fits s = keep_row keep_verb.New [] bytes s ∙ (ended_reads kept.New).again s.0 kept.New (refl, s.2)
keep_again bytes (kept.Fill byte) fits s = keep_row keep_verb.Fill (byte_word byte ∷ []) bytes s ∙ one_again read_byte IsByte byte_word (λ byte. kept.Fill byte) byte_field s.0 byte fits s.2

keep_reads : Reads read_keep (Spelled KeepFits keep_words)
keep_reads = record { takes = keep_takes; again = λ bytes keep s. keep_again bytes keep s.0 s.1; ends = λ bytes keep s. says_end (keep_words keep) bytes s.1 }

-- ---- lines

call_field : IsField (read_number 1 1000) (Within 1 1000) number_word
call_field = number_field 1 1000 (omega arith)

cut_reads : Reads read_cut (Then (Within 1 1000) number_word (λ call. Mapped (λ (keep : Keep). line.Arm call (struck.Cut keep)) (Spelled KeepFits keep_words)))
unfolding read_cut
cut_reads = with_field_reads _ _ _ _ _ call_field (λ call. mapped_reads (λ (keep : Keep). line.Arm call (struck.Cut keep)) read_keep (Spelled KeepFits keep_words) keep_reads)

pub cut_takes : RowTakes LineFits line_words (line_verb_word line_verb.Cut) read_cut
cut_takes bytes y e =
    let s = cut_reads.takes bytes y e in
    let t = s.4 in
    subst (λ y. LineFits y × After (line_verb_word line_verb.Cut) bytes (line_words y)) t.2 ((s.1.0, s.1.1, t.1.0), (refl, (s.2, s.3, t.1.1)))

pub fail_takes : RowTakes LineFits line_words (line_verb_word line_verb.Fail) read_fail
unfolding read_fail
fail_takes = row_one (read_number 1 1000) (Within 1 1000) number_word (λ call. line.Arm call struck.Fail) LineFits line_words (line_verb_word line_verb.Fail) call_field (λ call f. (f.0, f.1, tt)) (λ call. refl)

-- the words behind the first one are read again
pub cut_again : (bytes : List ℕ) (call : ℕ) (keep : Keep) → Within 1 1000 call → KeepFits keep → Says bytes (number_word call ∷ keep_words keep) → read_cut bytes ≡ Some (line.Arm call (struck.Cut keep))
cut_again bytes call keep within fits s = cut_reads.again bytes (line.Arm call (struck.Cut keep)) (call, within, s.0, s.1, (keep, (fits, s.2), refl))

pub fail_again : (bytes : List ℕ) (call : ℕ) → Within 1 1000 call → Says bytes (number_word call ∷ []) → read_fail bytes ≡ Some (line.Arm call struck.Fail)
unfolding read_fail
fail_again bytes call within s = one_again (read_number 1 1000) (Within 1 1000) number_word (λ call. line.Arm call struck.Fail) call_field bytes call within s
