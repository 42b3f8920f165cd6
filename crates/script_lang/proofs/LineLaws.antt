-- The laws of each kind of line: what is read is spelled so, and what is spelled so is read.
use Rattle.std.proofs.Common.{◌≡◌, ℕ, List, [], ◌∷◌, Option, Some, true, refl, sym, ap, subst, ◌∙◌, arith, None, Bool, eqb, false, cond, suc, inl, inr, ◌+◌}
use Rattle.std.proofs.lemmas.Bool.{eqb-true}
use Rattle.key_source.specs.KeyWordLaws.{key_again, key_takes}
use Rattle.key_source.specs.KeyWords.{read_key}
use Rattle.std.specs.Option.{option_map}
use Rattle.pad_words.specs.declared.numbers.Session.{Session}
use Rattle.script_lang.specs.Words.{Says, Word}
use Rattle.script_lang.specs.Reading.{◌>>=◌, line_after, line_of, next_word, of_session, read_ask, read_cancel, read_classes, read_command, read_line_verb, read_listen, read_number, read_only_session, read_press, read_question, read_session, read_submit, read_tick, where_spelled, with_field, word_len}
use Rattle.script_lang.specs.Spelling.{LineSays, Spells, classes_word, command_words, is_blank, is_spelled, keep_words, key_word, line_verb_word, line_words, number_word, question_words, session_word, step_words}
use Rattle.pad_steps.specs.declared.commands.Command.{Command}
use Rattle.pad_steps.specs.declared.steps.Question.{Question}
use Rattle.pad_steps.specs.declared.steps.Step.{Step}
use Rattle.pad_steps.specs.declared.steps.Step.TheVariants as step
use Rattle.script_lang.specs.declared.kinds.Line.{Line}
use Rattle.script_lang.specs.declared.kinds.LineVerb.{LineVerb}
use Rattle.script_lang.specs.declared.kinds.LineVerb.TheVariants as line_verb
use Rattle.disk_core.specs.declared.disk.Strike.TheVariants as struck
use Rattle.script_lang.specs.declared.kinds.Line.TheVariants as line
use Rattle.script_lang.proofs.ArmingLaws.{cut_again, cut_takes, fail_again, fail_takes}
use Rattle.script_lang.proofs.CommandLaws.{command_reads}
use Rattle.script_lang.proofs.Fits.{CommandFits, KeyFits, LineFits, LineFits-from_arm, QuestionFits, StepFits, StepFits-from_line}
use Rattle.script_lang.proofs.NumberLaws.{Within, id_field, limit_field, session_field, ticks_field}
use Rattle.script_lang.proofs.Options.{bind_some, both_true, cases_some, chosen_some, some_is}
use Rattle.script_lang.proofs.QuestionLaws.{question_reads}
use Rattle.script_lang.proofs.Readers.{Always, IsField, Mapped, Reads, Then, ended_reads, mapped_reads, with_field_reads}
use Rattle.script_lang.proofs.RowLaws.{After, RowTakes, Spelled, alone_reads, one_again, row_at, row_mapped, row_none, row_one, row_two, rows_take, two_again}
use Rattle.script_lang.proofs.WordLaws.{classes_field, line_verb_field}

-- ---- rows

key_field : IsField read_key KeyFits key_word
key_field = record { takes = key_takes; again = λ text key fits is. ap read_key is ∙ key_again key fits }

only_session : Reads read_only_session (Spelled Always (λ s. session_word s ∷ []))
unfolding read_only_session
only_session = alone_reads read_session Always session_word session_field

session_takes : (verb : LineVerb) (make : Session → Step) → ((s : Session) → StepFits (make s)) → ((s : Session) → step_words (make s) ≡ line_verb_word verb ∷ session_word s ∷ []) → RowTakes LineFits line_words (line_verb_word verb) (of_session make)
session_takes verb make fits is = row_mapped read_only_session Always (λ s. session_word s ∷ []) (λ s. line.Do (make s)) LineFits line_words (line_verb_word verb) only_session (λ s f. fits s) is

session_again : (make : Session → Step) (bytes : List ℕ) (s : Session) → Says bytes (session_word s ∷ []) → of_session make bytes ≡ Some (line.Do (make s))
session_again make bytes s says = ap (option_map (λ (s : Session). line.Do (make s))) (only_session.again bytes s (tt, says))

submit_reads : Reads read_submit (Then Always session_word (λ s. Then (Within 0 1000000) number_word (λ limit. Mapped (λ (c : Command). line.Do (step.Submit s limit c)) (Spelled CommandFits command_words))))
unfolding read_submit
submit_reads = with_field_reads _ _ _ _ _ session_field (λ s. with_field_reads _ _ _ _ _ limit_field (λ limit. mapped_reads (λ (c : Command). line.Do (step.Submit s limit c)) read_command (Spelled CommandFits command_words) command_reads))

submit_takes : RowTakes LineFits line_words (line_verb_word line_verb.Submit) read_submit
submit_takes bytes y e =
    let s = submit_reads.takes bytes y e in
    let t = s.4 in
    subst (λ y. LineFits y × After (line_verb_word line_verb.Submit) bytes (line_words y)) t.4.2 ((t.1.1, t.4.1.0), (refl, (s.2, s.3, (t.2, t.3, t.4.1.1))))

ask_reads : Reads read_ask (Then Always session_word (λ s. Mapped (λ (asked : Question). line.Do (step.Ask s asked)) (Spelled QuestionFits question_words)))
unfolding read_ask
ask_reads = with_field_reads _ _ _ _ _ session_field (λ s. mapped_reads (λ (asked : Question). line.Do (step.Ask s asked)) read_question (Spelled QuestionFits question_words) question_reads)

ask_takes : RowTakes LineFits line_words (line_verb_word line_verb.Ask) read_ask
ask_takes bytes y e =
    let s = ask_reads.takes bytes y e in
    subst (λ y. LineFits y × After (line_verb_word line_verb.Ask) bytes (line_words y)) s.4.2 (s.4.1.0, (refl, (s.2, s.3, s.4.1.1)))

pub rows_take_lines : (verb : LineVerb) → RowTakes LineFits line_words (line_verb_word verb) (line_after verb)
unfolding read_listen read_cancel read_press read_tick
rows_take_lines line_verb.Auto = row_none LineFits line_words (line_verb_word line_verb.Auto) line.Auto tt refl
rows_take_lines line_verb.Open = session_takes line_verb.Open (λ s. step.Open s) (λ s. tt) (λ s. refl)
rows_take_lines line_verb.Close = session_takes line_verb.Close (λ s. step.Close s) (λ s. tt) (λ s. refl)
rows_take_lines line_verb.Listen = row_two read_session Always session_word read_classes Always classes_word (λ s c. line.Do (step.Listen s c)) LineFits line_words (line_verb_word line_verb.Listen) session_field classes_field (λ s c f g. tt) (λ s c. refl)
rows_take_lines line_verb.Lock = session_takes line_verb.Lock (λ s. step.Lock s) (λ s. tt) (λ s. refl)
rows_take_lines line_verb.Unlock = session_takes line_verb.Unlock (λ s. step.Unlock s) (λ s. tt) (λ s. refl)
rows_take_lines line_verb.Submit = submit_takes
rows_take_lines line_verb.Cancel = row_two read_session Always session_word (read_number 0 4294967295) (Within 0 4294967295) number_word (λ s id. line.Do (step.Cancel s id)) LineFits line_words (line_verb_word line_verb.Cancel) session_field id_field (λ s id f g. g.1) (λ s id. refl)
rows_take_lines line_verb.Begin = row_none LineFits line_words (line_verb_word line_verb.Begin) (line.Do step.Begin) tt refl
rows_take_lines line_verb.Finish = row_none LineFits line_words (line_verb_word line_verb.Finish) (line.Do step.Finish) tt refl
rows_take_lines line_verb.Press = row_one read_key KeyFits key_word (λ k. line.Do (step.Press k)) LineFits line_words (line_verb_word line_verb.Press) key_field (λ k f. f) (λ k. refl)
rows_take_lines line_verb.Tick = row_one (read_number 1 1000000) (Within 1 1000000) number_word (λ n. line.Do (step.Tick n)) LineFits line_words (line_verb_word line_verb.Tick) ticks_field (λ n f. f) (λ n. refl)
rows_take_lines line_verb.Ask = ask_takes
rows_take_lines line_verb.Off = row_none LineFits line_words (line_verb_word line_verb.Off) (line.Do step.Off) tt refl
rows_take_lines line_verb.Boot = row_none LineFits line_words (line_verb_word line_verb.Boot) (line.Do step.Boot) tt refl
rows_take_lines line_verb.Cut = cut_takes
rows_take_lines line_verb.Fail = fail_takes

-- a line behind its first word
pub line_row : (verb : LineVerb) (ws : List Word) (bytes : List ℕ) (s : Says bytes (line_verb_word verb ∷ ws)) → with_field read_line_verb line_after bytes ≡ line_after verb s.0
line_row = row_at read_line_verb line_verb_word line_after line_verb_field

pub row_again : (l : Line) (bytes : List ℕ) → LineFits l → Says bytes (line_words l) → with_field read_line_verb line_after bytes ≡ Some l
unfolding read_listen read_cancel read_press read_tick
row_again line.Blank bytes fits h = absurd fits
row_again line.Auto bytes fits h = line_row line_verb.Auto [] bytes h ∙ (ended_reads line.Auto).again h.0 line.Auto (refl, h.2)
row_again (line.Do (step.Open s)) bytes fits h = line_row line_verb.Open (session_word s ∷ []) bytes h ∙ session_again (λ s. step.Open s) h.0 s h.2
row_again (line.Do (step.Close s)) bytes fits h = line_row line_verb.Close (session_word s ∷ []) bytes h ∙ session_again (λ s. step.Close s) h.0 s h.2
row_again (line.Do (step.Listen s c)) bytes fits h = line_row line_verb.Listen (session_word s ∷ classes_word c ∷ []) bytes h
    ∙ two_again read_session Always session_word read_classes Always classes_word (λ s c. line.Do (step.Listen s c)) session_field classes_field h.0 s c tt tt h.2
row_again (line.Do (step.Lock s)) bytes fits h = line_row line_verb.Lock (session_word s ∷ []) bytes h ∙ session_again (λ s. step.Lock s) h.0 s h.2
row_again (line.Do (step.Unlock s)) bytes fits h = line_row line_verb.Unlock (session_word s ∷ []) bytes h ∙ session_again (λ s. step.Unlock s) h.0 s h.2
row_again (line.Do (step.Submit s limit c)) bytes fits h = line_row line_verb.Submit (session_word s ∷ number_word limit ∷ command_words c) bytes h
    ∙ submit_reads.again h.0 (line.Do (step.Submit s limit c)) (s, tt, h.2.0, h.2.1, (limit, (omega arith, fits.0), h.2.2.0, h.2.2.1, (c, (fits.1, h.2.2.2), refl)))
row_again (line.Do (step.Cancel s id)) bytes fits h = line_row line_verb.Cancel (session_word s ∷ number_word id ∷ []) bytes h
    ∙ two_again read_session Always session_word (read_number 0 4294967295) (Within 0 4294967295) number_word (λ s id. line.Do (step.Cancel s id)) session_field id_field h.0 s id tt (omega arith, fits) h.2
row_again (line.Do step.Begin) bytes fits h = line_row line_verb.Begin [] bytes h ∙ (ended_reads (line.Do step.Begin)).again h.0 (line.Do step.Begin) (refl, h.2)
row_again (line.Do step.Finish) bytes fits h = line_row line_verb.Finish [] bytes h ∙ (ended_reads (line.Do step.Finish)).again h.0 (line.Do step.Finish) (refl, h.2)
row_again (line.Do (step.Press k)) bytes fits h = line_row line_verb.Press (key_word k ∷ []) bytes h
    ∙ one_again read_key KeyFits key_word (λ k. line.Do (step.Press k)) key_field h.0 k fits h.2
row_again (line.Do (step.Tick n)) bytes fits h = line_row line_verb.Tick (number_word n ∷ []) bytes h
    ∙ one_again (read_number 1 1000000) (Within 1 1000000) number_word (λ n. line.Do (step.Tick n)) ticks_field h.0 n fits h.2
row_again (line.Do (step.Ask s asked)) bytes fits h = line_row line_verb.Ask (session_word s ∷ question_words asked) bytes h
    ∙ ask_reads.again h.0 (line.Do (step.Ask s asked)) (s, tt, h.2.0, h.2.1, (asked, (fits, h.2.2), refl))
row_again (line.Do step.Off) bytes fits h = line_row line_verb.Off [] bytes h ∙ (ended_reads (line.Do step.Off)).again h.0 (line.Do step.Off) (refl, h.2)
row_again (line.Do step.Boot) bytes fits h = line_row line_verb.Boot [] bytes h ∙ (ended_reads (line.Do step.Boot)).again h.0 (line.Do step.Boot) (refl, h.2)
row_again (line.Arm call struck.Fail) bytes fits h = line_row line_verb.Fail (number_word call ∷ []) bytes h ∙ fail_again h.0 call (fits.0, fits.1) h.2
row_again (line.Arm call (struck.Cut keep)) bytes fits h = line_row line_verb.Cut (number_word call ∷ keep_words keep) bytes h ∙ cut_again h.0 call keep (fits.0, fits.1) fits.2 h.2

-- ---- lines

-- a line that is not blank is read as its words are, behind a space
pub of_rows : (bytes : List ℕ) → line_of bytes ≡ cond (is_blank bytes) (Some line.Blank) (with_field read_line_verb line_after (32 ∷ bytes) >>= where_spelled)
unfolding line_of next_word
of_rows bytes = refl

-- no verb begins a blank line
blank_none : (bytes : List ℕ) → is_blank bytes ≡ true → with_field read_line_verb line_after (32 ∷ bytes) ≡ None
unfolding next_word read_line_verb
blank_none [] e = refl
blank_none (c ∷ cs) e = let one : 1 + word_len cs ≡ suc (word_len cs) = omega arith in rw (eqb-true c 35 (both_true (eqb c 35) _ e).0, one) refl

not_blank : (bytes : List ℕ) (l : Line) (b : Bool) → is_blank bytes ≡ b → with_field read_line_verb line_after (32 ∷ bytes) ≡ Some l → b ≡ false
not_blank bytes l true e row = let none : None ≡ Some l = sym (blank_none bytes e) ∙ row in absurd cc
not_blank bytes l false e row = refl

-- a line that has words is said by them
line_says : (bytes : List ℕ) (l : Line) → LineFits l → Says (32 ∷ bytes) (line_words l) → LineSays bytes l
line_says bytes line.Blank fits says = absurd fits
line_says bytes line.Auto fits says = says
line_says bytes (line.Do s) fits says = says
line_says bytes (line.Arm call strike) fits says = says

rows_say : (bytes : List ℕ) (l : Line) → (with_field read_line_verb line_after (32 ∷ bytes) >>= where_spelled) ≡ Some l → Spells bytes l
rows_say bytes l e =
    let m = bind_some (with_field read_line_verb line_after (32 ∷ bytes)) where_spelled l e in
    let spelled = chosen_some (is_spelled m.0) m.0 l m.2 in
    let says = rows_take read_line_verb line_verb_word line_after line_verb_field LineFits line_words rows_take_lines (32 ∷ bytes) m.0 m.1 in
    subst (Spells bytes) spelled.1 (spelled.0, line_says bytes m.0 says.0 says.1)

pub line_takes : (bytes : List ℕ) (l : Line) → line_of bytes ≡ Some l → Spells bytes l
line_takes bytes l e = elim (cases_some (is_blank bytes) (Some line.Blank) _ l (sym (of_rows bytes) ∙ e)) [ inl a ↦ subst (Spells bytes) (some_is line.Blank l a.1) (refl, a.0) | inr b ↦ rows_say bytes l b.1 ]

spelled_some : (l : Line) → is_spelled l ≡ true → where_spelled l ≡ Some l
spelled_some l e = rw e refl

words_again : (bytes : List ℕ) (l : Line) → LineFits l → is_spelled l ≡ true → Says (32 ∷ bytes) (line_words l) → line_of bytes ≡ Some l
words_again bytes l fits spelled says =
    let row = row_again l (32 ∷ bytes) fits says in
    of_rows bytes ∙ ap (λ (b : Bool). cond b (Some line.Blank) (with_field read_line_verb line_after (32 ∷ bytes) >>= where_spelled)) (not_blank bytes l (is_blank bytes) refl row)
    ∙ ap (λ (o : Option Line). o >>= where_spelled) row ∙ spelled_some l spelled

pub line_again : (bytes : List ℕ) (l : Line) → Spells bytes l → line_of bytes ≡ Some l
line_again bytes line.Blank spells = of_rows bytes ∙ rw spells.1 refl
line_again bytes line.Auto spells = words_again bytes line.Auto tt spells.0 spells.1
line_again bytes (line.Do s) spells = words_again bytes (line.Do s) (StepFits-from_line s spells.0) spells.0 spells.1
line_again bytes (line.Arm call strike) spells = words_again bytes (line.Arm call strike) (LineFits-from_arm call strike spells.0) spells.0 spells.1
