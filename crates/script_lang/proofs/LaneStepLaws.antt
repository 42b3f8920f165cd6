-- The steps of lanes: what is read of each is spelled so, and what is spelled so is read.
use Rattle.std.proofs.Common.{◌≡◌, ℕ, List, [], ◌∷◌, Option, Some, None, Bool, true, false, cond, eqb, refl, sym, ap, subst, inl, inr, ◌⊎◌, ◌∙◌}
use Rattle.std.specs.Prelude.{IsTrue, ◌&&◌}
use Rattle.std.proofs.lemmas.Bool.{eqb-true}
use Rattle.std.specs.Option.{option_map}
use Rattle.pad_words.specs.declared.numbers.Session.{Session}
use Rattle.pad_steps.specs.declared.steps.Question.{Question}
use Rattle.pad_steps.specs.declared.steps.Question.TheVariants as question
use Rattle.pad_steps.specs.declared.steps.Step.{Step}
use Rattle.pad_steps.specs.declared.steps.Step.TheVariants as step
use Rattle.pad_steps.specs.Formed.{is_well_formed}
use Rattle.script_lang.specs.declared.kinds.Line.{Line}
use Rattle.script_lang.specs.declared.kinds.Line.TheVariants as line
use Rattle.script_lang.specs.declared.kinds.LineVerb.TheVariants as line_verb
use Rattle.script_lang.specs.declared.kinds.QuestionVerb.{QuestionVerb}
use Rattle.script_lang.specs.declared.kinds.QuestionVerb.TheVariants as question_verb
use Rattle.script_lang.specs.declared.lane_kinds.LaneStep.{LaneStep}
use Rattle.script_lang.specs.declared.lane_kinds.LaneStep.TheVariants as lane_step
use Rattle.script_lang.specs.declared.lane_kinds.LaneVerb.{LaneVerb}
use Rattle.script_lang.specs.declared.lane_kinds.LaneVerb.TheVariants as lane_verb
use Rattle.script_lang.specs.Words.{Says, Word, line_verb_text}
use Rattle.script_lang.specs.Spelling.{is_blank, question_verb_word, session_word, step_words}
use Rattle.script_lang.specs.Reading.{◌>>=◌, ended, line_after, line_of, next_word, question_after, read_ask, read_cancel, read_line_verb, read_number, read_question, read_question_verb, read_session, where_spelled, with_field}
use Rattle.script_lang.specs.LaneSpelling.{awaited_word, is_lane_step, is_plain, lane_id_word, lane_step_words, lane_verb_text, lane_verb_word, nth_word, reply_words}
use Rattle.script_lang.specs.LaneReading.{await_after, first_of, own_after, plain_of, read_await, read_lane_ask, read_lane_cancel, read_lane_id, read_lane_step, read_lane_verb, read_nth, read_own_step, read_plain, read_reply, reply_after}
use Rattle.script_lang.proofs.Fits.{StepFits-from_line}
use Rattle.script_lang.proofs.LaneWordLaws.{IdCounted, IsNth, awaited_field, lane_id_field, lane_verb_field, nth_field}
use Rattle.script_lang.proofs.LineLaws.{line_again, line_row, line_takes, of_rows, row_again}
use Rattle.script_lang.proofs.NumberLaws.{session_field}
use Rattle.script_lang.proofs.Options.{bind_some, both_true, chosen_some, guard_some}
use Rattle.script_lang.proofs.Readers.{Always, Ended, Mapped, Reads, Then, ended_reads, mapped_reads, next_word-first, with_field_reads}
use Rattle.script_lang.proofs.RowLaws.{After, RowTakes, Spelled, alone_reads, row_at, row_two, rows_take, says_end, two_again}
use Rattle.script_lang.proofs.WordLaws.{question_verb_field}

-- a step that lines of a lane script spell
abbrev pub StepSpelled : LaneStep → Type 0
StepSpelled s = IsTrue (is_lane_step s)

-- ---- replies

reply_row : (verb : QuestionVerb) → RowTakes IsNth reply_words (question_verb_word verb) (reply_after verb)
reply_row question_verb.Reply bytes k e = let s = (alone_reads read_nth IsNth nth_word nth_field).takes bytes k e in (s.0, (refl, s.1))
reply_row other bytes k e = absurd cc

reply_takes : (bytes : List ℕ) (k : ℕ) → read_reply bytes ≡ Some k → Spelled IsNth reply_words k bytes
unfolding read_reply
reply_takes = rows_take read_question_verb question_verb_word reply_after question_verb_field IsNth reply_words reply_row

reply_again : (bytes : List ℕ) (k : ℕ) → Spelled IsNth reply_words k bytes → read_reply bytes ≡ Some k
unfolding read_reply
reply_again bytes k s =
    row_at read_question_verb question_verb_word reply_after question_verb_field question_verb.Reply (nth_word k ∷ []) bytes s.1
    ∙ (alone_reads read_nth IsNth nth_word nth_field).again s.1.0 k (s.0, s.1.2)

reply_reads : Reads read_reply (Spelled IsNth reply_words)
reply_reads = record { takes = reply_takes; again = reply_again; ends = λ bytes k s. says_end (reply_words k) bytes s.1 }

-- ---- steps that stand in lane scripts alone

ask_reads : Reads read_lane_ask (Then Always session_word (λ s. Mapped (λ (k : ℕ). lane_step.AskReply s k) (Spelled IsNth reply_words)))
unfolding read_lane_ask
ask_reads = with_field_reads _ _ _ _ _ session_field (λ s. mapped_reads (λ (k : ℕ). lane_step.AskReply s k) read_reply (Spelled IsNth reply_words) reply_reads)

ask_takes : RowTakes StepSpelled lane_step_words (lane_verb_word lane_verb.Ask) read_lane_ask
ask_takes bytes y e =
    let s = ask_reads.takes bytes y e in
    subst (λ y. StepSpelled y × After (lane_verb_word lane_verb.Ask) bytes (lane_step_words y)) s.4.2 (s.4.1.0, (refl, (s.2, s.3, s.4.1.1)))

-- what is said behind `entry` or a session
abbrev AwaitSays : Option Session → LaneStep → List ℕ → Type 0
AwaitSays None = Ended lane_step.AwaitEntry
AwaitSays (Some s) = Mapped (λ (k : ℕ). lane_step.AwaitReply s k) (Spelled IsNth reply_words)

awaited_reads : (o : Option Session) → Reads (await_after o) (AwaitSays o)
awaited_reads None = ended_reads lane_step.AwaitEntry
awaited_reads (Some s) = mapped_reads (λ (k : ℕ). lane_step.AwaitReply s k) read_reply (Spelled IsNth reply_words) reply_reads

await_reads : Reads read_await (Then Always awaited_word AwaitSays)
unfolding read_await
await_reads = with_field_reads _ _ _ _ _ awaited_field awaited_reads

await_says : (y : LaneStep) (bytes : List ℕ) → Then Always awaited_word AwaitSays y bytes → StepSpelled y × After (lane_verb_word lane_verb.Await) bytes (lane_step_words y)
await_says y bytes (None, always, rest, first, s) =
    subst (λ y. StepSpelled y × After (lane_verb_word lane_verb.Await) bytes (lane_step_words y)) s.0 (refl, (refl, (rest, first, s.1)))
await_says y bytes (Some session, always, rest, first, s) =
    subst (λ y. StepSpelled y × After (lane_verb_word lane_verb.Await) bytes (lane_step_words y)) s.2 (s.1.0, (refl, (rest, first, s.1.1)))

own_row : (verb : LaneVerb) → RowTakes StepSpelled lane_step_words (lane_verb_word verb) (own_after verb)
unfolding read_lane_cancel
own_row lane_verb.Cancel = row_two read_session Always session_word read_lane_id IdCounted lane_id_word (λ s id. lane_step.Cancel s id) StepSpelled lane_step_words (lane_verb_word lane_verb.Cancel) session_field lane_id_field (λ s id f g. g) (λ s id. refl)
own_row lane_verb.Ask = ask_takes
own_row lane_verb.Await = λ bytes y e. await_says y bytes (await_reads.takes bytes y e)

own_takes : (bytes : List ℕ) (y : LaneStep) → read_own_step bytes ≡ Some y → Spelled StepSpelled lane_step_words y bytes
unfolding read_own_step
own_takes = rows_take read_lane_verb lane_verb_word own_after lane_verb_field StepSpelled lane_step_words own_row

own_at : (verb : LaneVerb) (ws : List Word) (bytes : List ℕ) (s : Says bytes (lane_verb_word verb ∷ ws)) → read_own_step bytes ≡ own_after verb s.0
unfolding read_own_step
own_at = row_at read_lane_verb lane_verb_word own_after lane_verb_field

-- a step that stands in lane scripts alone
abbrev IsOwn : LaneStep → Type 0
IsOwn (lane_step.Plain s) = ⊥
IsOwn other = Unit {0}

own_again : (y : LaneStep) (bytes : List ℕ) → IsOwn y → StepSpelled y → Says bytes (lane_step_words y) → read_own_step bytes ≡ Some y
unfolding read_lane_cancel
own_again (lane_step.Plain s) bytes own fits h = absurd own
own_again (lane_step.Cancel s id) bytes own fits h = own_at lane_verb.Cancel (session_word s ∷ lane_id_word id ∷ []) bytes h
    ∙ two_again read_session Always session_word read_lane_id IdCounted lane_id_word (λ s id. lane_step.Cancel s id) session_field lane_id_field h.0 s id tt fits h.2
own_again (lane_step.AskReply s k) bytes own fits h = own_at lane_verb.Ask (session_word s ∷ reply_words k) bytes h
    ∙ ask_reads.again h.0 (lane_step.AskReply s k) (s, tt, h.2.0, h.2.1, (k, (fits, h.2.2), refl))
own_again lane_step.AwaitEntry bytes own fits h = own_at lane_verb.Await (awaited_word None ∷ []) bytes h
    ∙ await_reads.again h.0 lane_step.AwaitEntry (None, tt, h.2.0, h.2.1, (refl, h.2.2))
own_again (lane_step.AwaitReply s k) bytes own fits h = own_at lane_verb.Await (awaited_word (Some s) ∷ reply_words k) bytes h
    ∙ await_reads.again h.0 (lane_step.AwaitReply s k) (Some s, tt, h.2.0, h.2.1, (k, (fits, h.2.2), refl))

-- ---- no line of a script spells them

bind_none : {A B C : Type 0} (o : Option A) (k : A → Option B) (p : B → Option C) → ((x : A) → (k x >>= p) ≡ None) → ((o >>= k) >>= p) ≡ None
bind_none (Some x) k p none = none x
bind_none None k p none = refl

field_none : {A B C : Type 0} (f : List ℕ → Option A) (k : A → List ℕ → Option B) (p : B → Option C) → ((x : A) (bytes : List ℕ) → (k x bytes >>= p) ≡ None) → (bytes : List ℕ) → (with_field f k bytes >>= p) ≡ None
field_none f k p none bytes = bind_none (next_word bytes) (λ w. f w.0 >>= λ x. k x w.1) p (λ w. bind_none (f w.0) (λ x. k x w.1) p (λ x. none x w.1))

chosen_none : {B C : Type 0} (b : Bool) (x : B) (p : B → Option C) → p x ≡ None → (cond b (Some x) None >>= p) ≡ None
chosen_none true x p none = none
chosen_none false x p none = refl

ended_none : {B C : Type 0} (x : B) (p : B → Option C) → p x ≡ None → (bytes : List ℕ) → (ended x bytes >>= p) ≡ None
ended_none x p none bytes = chosen_none _ x p none

mapped_none : {A B C : Type 0} (o : Option A) (g : A → B) (p : B → Option C) → (o >>= λ x. p (g x)) ≡ None → (option_map g o >>= p) ≡ None
mapped_none (Some x) g p none = none
mapped_none None g p none = refl

-- a row without a plain step is no plain line
line_none : (b : Bool) (row : Option Line) → (row >>= plain_of) ≡ None → (cond b (Some line.Blank) (row >>= where_spelled) >>= plain_of) ≡ None
line_none true row none = refl
line_none false None none = refl
line_none false (Some l) none = chosen_none _ l plain_of none

row_none_plain : (bs : List ℕ) → (with_field read_line_verb line_after (32 ∷ bs) >>= plain_of) ≡ None → read_plain bs ≡ None
row_none_plain bs none = ap (λ (o : Option Line). o >>= plain_of) (of_rows bs) ∙ line_none (is_blank bs) _ none

cancel_none : (bytes : List ℕ) → (read_cancel bytes >>= plain_of) ≡ None
unfolding read_cancel
cancel_none = field_none read_session _ plain_of (λ s. field_none (read_number 0 4294967295) _ plain_of (λ id. ended_none (line.Do (step.Cancel s id)) plain_of refl))

asked_none : (s : Session) (bytes : List ℕ) → (with_field (read_number 0 4294967295) (λ id. ended (question.Reply id)) bytes >>= λ (asked : Question). plain_of (line.Do (step.Ask s asked))) ≡ None
asked_none s = field_none (read_number 0 4294967295) (λ id. ended (question.Reply id)) (λ (asked : Question). plain_of (line.Do (step.Ask s asked))) (λ id. ended_none (question.Reply id) (λ (asked : Question). plain_of (line.Do (step.Ask s asked))) refl)

ask_none : (bytes : List ℕ) (s : Session) (k : ℕ) → Says bytes (session_word s ∷ reply_words k) → (read_ask bytes >>= plain_of) ≡ None
unfolding read_ask read_question
ask_none bytes s k h =
    let ask : Session → List ℕ → Option Line = λ s bytes. option_map (λ (asked : Question). line.Do (step.Ask s asked)) (with_field read_question_verb question_after bytes) in
    let g : Question → Line = λ asked. line.Do (step.Ask s asked) in
    let session = row_at read_session session_word ask session_field s (reply_words k) bytes h in
    let verb = row_at read_question_verb question_verb_word question_after question_verb_field question_verb.Reply (nth_word k ∷ []) h.0 h.2 in
    ap (λ (o : Option Line). o >>= plain_of) (session ∙ ap (option_map g) verb) ∙ mapped_none _ g plain_of (asked_none s h.2.0)

await_none : (bytes : List ℕ) (ws : List Word) → Says bytes (lane_verb_word lane_verb.Await ∷ ws) → with_field read_line_verb line_after bytes ≡ None
unfolding lane_verb_text read_line_verb
await_none bytes ws h =
    ap (λ (o : Option (List ℕ × List ℕ)). o >>= λ w. read_line_verb w.0 >>= λ verb. line_after verb w.1) (next_word-first bytes (lane_verb_word lane_verb.Await) h.0 h.1 (says_end ws h.0 h.2))
    ∙ ap (λ (text : List ℕ). read_line_verb text >>= λ verb. line_after verb h.0) h.1.spelled

own_none : (y : LaneStep) (bs : List ℕ) → IsOwn y → Says (32 ∷ bs) (lane_step_words y) → read_plain bs ≡ None
unfolding lane_verb_text line_verb_text
own_none (lane_step.Plain s) bs own h = absurd own
own_none (lane_step.Cancel s id) bs own h = row_none_plain bs (ap (λ (o : Option Line). o >>= plain_of) (line_row line_verb.Cancel (session_word s ∷ lane_id_word id ∷ []) (32 ∷ bs) h) ∙ cancel_none h.0)
own_none (lane_step.AskReply s k) bs own h = row_none_plain bs (ap (λ (o : Option Line). o >>= plain_of) (line_row line_verb.Ask (session_word s ∷ reply_words k) (32 ∷ bs) h) ∙ ask_none h.0 s k h.2)
own_none lane_step.AwaitEntry bs own h = row_none_plain bs (ap (λ (o : Option Line). o >>= plain_of) (await_none (32 ∷ bs) (awaited_word None ∷ []) h))
own_none (lane_step.AwaitReply s k) bs own h = row_none_plain bs (ap (λ (o : Option Line). o >>= plain_of) (await_none (32 ∷ bs) (awaited_word (Some s) ∷ reply_words k) h))

-- ---- steps

pub both_hold : (a b : Bool) → a ≡ true → b ≡ true → (a && b) ≡ true
both_hold a b e f = rw (e, f) refl

plain_says : (bs : List ℕ) (l : Line) (y : LaneStep) → line_of bs ≡ Some l → plain_of l ≡ Some y → Spelled StepSpelled lane_step_words y (32 ∷ bs)
plain_says bs (line.Do s) y read e =
    let spells = line_takes bs (line.Do s) read in
    let plain = chosen_some (is_plain s) (lane_step.Plain s) y e in
    subst (λ y. Spelled StepSpelled lane_step_words y (32 ∷ bs)) plain.1 (both_hold (is_well_formed s) (is_plain s) spells.0 plain.0, spells.1)
plain_says bs other y read e = absurd cc

first_some : {A : Type 0} (o p : Option A) (y : A) → first_of o p ≡ Some y → (o ≡ Some y) ⊎ (p ≡ Some y)
first_some (Some x) p y e = inl e
first_some None p y e = inr e

pub step_takes : (bytes : List ℕ) (y : LaneStep) → read_lane_step bytes ≡ Some y → Spelled StepSpelled lane_step_words y bytes
unfolding read_lane_step
step_takes [] y e = absurd cc
step_takes (b ∷ bs) y e =
    let g = guard_some (eqb b 32) (first_of (read_plain bs) (read_own_step (b ∷ bs))) y e in
    elim (first_some (read_plain bs) (read_own_step (b ∷ bs)) y g.1) [
      | inl plain ↦ let l = bind_some (line_of bs) plain_of y plain in subst (λ (b : ℕ). Spelled StepSpelled lane_step_words y (b ∷ bs)) (sym (eqb-true b 32 g.0)) (plain_says bs l.0 y l.1 l.2)
      | inr own ↦ own_takes (b ∷ bs) y own
    ]

first_own : {A : Type 0} (o p : Option A) (y : A) → o ≡ None → p ≡ Some y → first_of o p ≡ Some y
first_own o p y none some = rw (none, some) refl

own_step_again : (bs : List ℕ) (y : LaneStep) → IsOwn y → StepSpelled y → Says (32 ∷ bs) (lane_step_words y) → read_lane_step (32 ∷ bs) ≡ Some y
unfolding read_lane_step
own_step_again bs y own fits h = first_own (read_plain bs) (read_own_step (32 ∷ bs)) y (own_none y bs own h) (own_again y (32 ∷ bs) own fits h)

plain_again : (bs : List ℕ) (s : Step) → is_well_formed s ≡ true → is_plain s ≡ true → Says (32 ∷ bs) (step_words s) → read_plain bs ≡ Some (lane_step.Plain s)
plain_again bs s formed plain h = ap (λ (o : Option Line). o >>= plain_of) (line_again bs (line.Do s) (formed, h)) ∙ rw plain refl

step_again_at : (bs : List ℕ) (y : LaneStep) → StepSpelled y → Says (32 ∷ bs) (lane_step_words y) → read_lane_step (32 ∷ bs) ≡ Some y
unfolding read_lane_step
step_again_at bs (lane_step.Plain s) fits h =
    let both = both_true (is_well_formed s) (is_plain s) fits in
    ap (λ (o : Option LaneStep). first_of o (read_own_step (32 ∷ bs))) (plain_again bs s both.0 both.1 h)
step_again_at bs other fits h = own_step_again bs other tt fits h

-- no step is spelled by nothing
pub nothing_says : (y : LaneStep) → StepSpelled y → Says [] (lane_step_words y) → ⊥
unfolding next_word read_own_step
nothing_says (lane_step.Plain s) fits h =
    let row = row_again (line.Do s) [] (StepFits-from_line s (both_true (is_well_formed s) (is_plain s) fits).0) h in
    let none : None ≡ Some (line.Do s) = row in absurd cc
nothing_says other fits h = let none : None ≡ Some other = own_again other [] tt fits h in absurd cc

step_again : (bytes : List ℕ) (y : LaneStep) → Spelled StepSpelled lane_step_words y bytes → read_lane_step bytes ≡ Some y
step_again [] y h = absurd (nothing_says y h.0 h.1)
step_again (b ∷ bs) y h =
    let space : b ≡ 32 = says_end (lane_step_words y) (b ∷ bs) h.1 in
    subst (λ (b : ℕ). read_lane_step (b ∷ bs) ≡ Some y) (sym space) (step_again_at bs y h.0 (subst (λ (b : ℕ). Says (b ∷ bs) (lane_step_words y)) space h.1))

pub step_reads : Reads read_lane_step (Spelled StepSpelled lane_step_words)
step_reads = record { takes = step_takes; again = step_again; ends = λ bytes y h. says_end (lane_step_words y) bytes h.1 }
