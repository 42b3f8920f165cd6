-- The lines of lane scripts: what is read is spelled so, what is spelled so is read, and what `read_lane_line` promises.
use Rattle.std.proofs.Common.{◌≡◌, ℕ, List, [], ◌∷◌, ◌++◌, Option, Some, None, Result, Ok, Err, Bool, true, false, cond, eqb, suc, ◌+◌, refl, sym, ap, subst, inl, inr, ◌∙◌, arith, drop}
use Rattle.std.specs.Prelude.{IfOk, IsTrue}
use Rattle.std.specs.Fmt.{decimal}
use Rattle.std.specs.Option.{option_map}
use Rattle.std.proofs.lemmas.Bool.{eqb-true}
use Rattle.pad_steps.specs.Formed.{is_well_formed}
use Rattle.pad_steps.specs.declared.steps.Step.{Step}
use Rattle.script_lang.specs.declared.kinds.Line.TheVariants as line
use Rattle.script_lang.specs.declared.kinds.LineFault.{LineFault}
use Rattle.script_lang.specs.declared.kinds.LineFault.TheVariants as fault
use Rattle.script_lang.specs.declared.lane_kinds.LaneLine.{LaneLine}
use Rattle.script_lang.specs.declared.lane_kinds.LaneLine.TheVariants as lane_line
use Rattle.script_lang.specs.declared.lane_kinds.LaneStep.{LaneStep}
use Rattle.script_lang.specs.declared.lane_kinds.LaneStep.TheVariants as lane_step
use Rattle.script_lang.specs.Words.{Says}
use Rattle.script_lang.specs.Spelling.{Spells, is_blank, step_words}
use Rattle.script_lang.specs.Reading.{Gives, next_word, with_field, word_len}
use Rattle.script_lang.specs.LaneSpelling.{HasFormedStep, HasLane, SpellsLane, is_lane, is_lane_step, is_plain, lane_step_words, lane_word}
use Rattle.script_lang.specs.LaneReading.{lane_line_of, read_lane, read_lane_step, read_marked}
use Rattle.script_lang.proofs.LaneStepLaws.{StepSpelled, both_hold, nothing_says, step_reads}
use Rattle.script_lang.proofs.LaneWordLaws.{IsLane, lane_field, lane_within}
use Rattle.script_lang.proofs.Options.{both_true, cases_some, some_is}
use Rattle.script_lang.proofs.Readers.{Mapped, Reads, Then, mapped_reads, with_field_reads}
use Rattle.script_lang.proofs.RowLaws.{Spelled, says_end}
use Rattle.script_lang.proofs.NumberLaws.{digits_decimal_all}
use Rattle.script_lang.proofs.WordPrints.{digits_spaceless}

-- ---- lines

-- a lane's word, and its step
abbrev read_at : List ℕ → Option LaneLine
read_at = with_field read_lane (λ lane bytes. option_map (λ (s : LaneStep). lane_line.At lane s) (read_lane_step bytes))

at_reads : Reads read_at (Then IsLane lane_word (λ lane. Mapped (λ (s : LaneStep). lane_line.At lane s) (Spelled StepSpelled lane_step_words)))
at_reads = with_field_reads _ _ _ _ _ lane_field (λ lane. mapped_reads (λ (s : LaneStep). lane_line.At lane s) read_lane_step (Spelled StepSpelled lane_step_words) step_reads)

-- a line that is not blank is read as its words are, behind a space
of_words : (bytes : List ℕ) → lane_line_of bytes ≡ cond (is_blank bytes) (Some lane_line.Blank) (read_at (32 ∷ bytes))
unfolding lane_line_of next_word
of_words bytes = refl

-- no lane's word begins a blank line
blank_none : (bytes : List ℕ) → is_blank bytes ≡ true → read_at (32 ∷ bytes) ≡ None
unfolding next_word read_marked
blank_none [] e = refl
blank_none (c ∷ cs) e = let one : 1 + word_len cs ≡ suc (word_len cs) = omega arith in rw (eqb-true c 35 (both_true (eqb c 35) _ e).0, one) refl

not_blank : (bytes : List ℕ) (l : LaneLine) (b : Bool) → is_blank bytes ≡ b → read_at (32 ∷ bytes) ≡ Some l → b ≡ false
not_blank bytes l true e at = let none : None ≡ Some l = sym (blank_none bytes e) ∙ at in absurd cc
not_blank bytes l false e at = refl

at_says : (bytes : List ℕ) (l : LaneLine) → read_at (32 ∷ bytes) ≡ Some l → SpellsLane bytes l
at_says bytes l e =
    let s = at_reads.takes (32 ∷ bytes) l e in
    subst (SpellsLane bytes) s.4.2 (both_hold (is_lane s.0) (is_lane_step s.4.0) s.1 s.4.1.0, (s.2, s.3, s.4.1.1))

pub lane_line_takes : (bytes : List ℕ) (l : LaneLine) → lane_line_of bytes ≡ Some l → SpellsLane bytes l
lane_line_takes bytes l e = elim (cases_some (is_blank bytes) (Some lane_line.Blank) _ l (sym (of_words bytes) ∙ e)) [
  | inl a ↦ subst (SpellsLane bytes) (some_is lane_line.Blank l a.1) (refl, a.0)
  | inr b ↦ at_says bytes l b.1
]

pub lane_line_again : (bytes : List ℕ) (l : LaneLine) → SpellsLane bytes l → lane_line_of bytes ≡ Some l
lane_line_again bytes lane_line.Blank spells = of_words bytes ∙ rw spells.1 refl
lane_line_again bytes (lane_line.At lane s) spells =
    let both = both_true (is_lane lane) (is_lane_step s) spells.0 in
    let at = at_reads.again (32 ∷ bytes) (lane_line.At lane s) (lane, both.0, spells.1.0, spells.1.1, (s, (both.1, spells.1.2), refl)) in
    of_words bytes ∙ ap (λ (b : Bool). cond b (Some lane_line.Blank) (read_at (32 ∷ bytes))) (not_blank bytes (lane_line.At lane s) (is_blank bytes) refl at) ∙ at

pub one_lane_line : (bytes : List ℕ) (l m : LaneLine) → SpellsLane bytes l → SpellsLane bytes m → l ≡ m
one_lane_line bytes l m h k = some_is l m (sym (lane_line_again bytes l h) ∙ lane_line_again bytes m k)

-- a line of a script behind a lane's word and a space
pub plain_spelled : (lane : ℕ) (bytes : List ℕ) (s : Step) → IsTrue (is_lane lane) → IsTrue (is_plain s) → Spells bytes (line.Do s) → SpellsLane (64 ∷ (decimal lane ++ 32 ∷ bytes)) (lane_line.At lane (lane_step.Plain s))
plain_spelled lane bytes s is plain spells =
    let within = lane_within lane is in
    let digits = digits_spaceless (decimal lane) (digits_decimal_all lane (omega (arith, within.1))) in
    (both_hold (is_lane lane) (is_lane_step (lane_step.Plain s)) is (both_hold (is_well_formed s) (is_plain s) spells.0 plain), (32 ∷ bytes, record { text = 64 ∷ decimal lane; parts = refl; spaceless = digits; spelled = refl }, spells.1))

-- what stands behind a lane's word begins with a space
space_behind : (s : Step) (bytes : List ℕ) → StepSpelled (lane_step.Plain s) → Says bytes (step_words s) → (rest : List ℕ) × (bytes ≡ 32 ∷ rest) × Says (32 ∷ rest) (step_words s)
space_behind s [] fits says = absurd (nothing_says (lane_step.Plain s) fits says)
space_behind s (b ∷ bs) fits says =
    let space : b ≡ 32 = says_end (step_words s) (b ∷ bs) says in
    (bs, ap (λ (b : ℕ). b ∷ bs) space, subst (λ (b : ℕ). Says (b ∷ bs) (step_words s)) space says)

pub plain_behind : (lane : ℕ) (bytes : List ℕ) (s : Step) → SpellsLane bytes (lane_line.At lane (lane_step.Plain s)) → (rest : List ℕ) × (bytes ≡ 64 ∷ (decimal lane ++ 32 ∷ rest)) × Spells rest (line.Do s)
plain_behind lane bytes s spells =
    let fits = (both_true (is_lane lane) (is_lane_step (lane_step.Plain s)) spells.0).1 in
    let first = spells.1.1 in
    let behind = space_behind s spells.1.0 fits spells.1.2 in
    let tail : bytes ≡ first.text ++ spells.1.0 = ap (drop 1) first.parts in
    (behind.0, tail ∙ ap (λ (text : List ℕ). text ++ spells.1.0) first.spelled ∙ ap (λ (rest : List ℕ). (64 ∷ decimal lane) ++ rest) behind.1, ((both_true (is_well_formed s) (is_plain s) fits).0, behind.2))

-- ---- promises

pub lane_found : (bytes : List ℕ) (r : Result LaneLine LineFault) → Gives r (lane_line_of bytes) → IfOk r (λ l. SpellsLane bytes l)
lane_found bytes (Ok l) given = lane_line_takes bytes l given
lane_found bytes (Err e) given = tt

none_some : (o : Option LaneLine) (l : LaneLine) → o ≡ None → o ≡ Some l → ⊥
none_some o l none some = let e : None ≡ Some l = sym none ∙ some in absurd cc

pub lane_outside : (bytes : List ℕ) (r : Result LaneLine LineFault) → Gives r (lane_line_of bytes) → r ≡ Err fault.Outside → (l : LaneLine) → SpellsLane bytes l → ⊥
lane_outside bytes r given e = let none = subst (λ (r : Result LaneLine LineFault). Gives r (lane_line_of bytes)) e given in λ l spells. none_some (lane_line_of bytes) l none (lane_line_again bytes l spells)

spelled_lane : (bytes : List ℕ) (l : LaneLine) → SpellsLane bytes l → HasLane l
spelled_lane bytes lane_line.Blank spells = tt
spelled_lane bytes (lane_line.At lane s) spells = lane_within lane (both_true (is_lane lane) (is_lane_step s) spells.0).0

pub lane_given : (bytes : List ℕ) (r : Result LaneLine LineFault) → Gives r (lane_line_of bytes) → IfOk r (λ l. HasLane l)
lane_given bytes (Ok l) given = spelled_lane bytes l (lane_line_takes bytes l given)
lane_given bytes (Err e) given = tt

spelled_formed : (bytes : List ℕ) (l : LaneLine) → SpellsLane bytes l → HasFormedStep l
spelled_formed bytes lane_line.Blank spells = tt
spelled_formed bytes (lane_line.At lane (lane_step.Plain s)) spells = (both_true (is_well_formed s) (is_plain s) (both_true (is_lane lane) (is_lane_step (lane_step.Plain s)) spells.0).1).0
spelled_formed bytes (lane_line.At lane other) spells = tt

pub formed_given : (bytes : List ℕ) (r : Result LaneLine LineFault) → Gives r (lane_line_of bytes) → IfOk r (λ l. HasFormedStep l)
formed_given bytes (Ok l) given = spelled_formed bytes l (lane_line_takes bytes l given)
formed_given bytes (Err e) given = tt
