-- Runs one after another, and the store's history in twins.
use Rattle.flat_machine.proofs.BoolLemmas.{both}
use Rattle.flat_machine.proofs.TwinRuns.{heads, twin_next, twin_shape}
use Rattle.flat_machine.proofs.Unwinding.{alike_self, masked_press}
use Rattle.flat_machine.specs.Machine.{Act, fits, line_of, lines_from, next, plan, release, releases_from, run_from}
use Rattle.flat_machine.specs.Power.{Nothing, Plan, fits_plan}
use Rattle.flat_machine.specs.State.{Flat, Shared, opening}
use Rattle.flat_machine.specs.StoreHistory.{Holds, HoldsFrom, HoldsStep, Known, Layout, These}
use Rattle.flat_machine.specs.Twins.{Alike, AlikeAfter, TwinSteps, Twins, TwinsFrom}
use Rattle.flat_machine.specs.Settings.{Setting}
use Rattle.key_source.specs.declared.Key.{Key}
use Rattle.pad_steps.specs.Lines.{Line}
use Rattle.pad_steps.specs.declared.answers.Answer.{Answer}
use Rattle.pad_steps.specs.declared.steps.DiskWord.{DiskWord}
use Rattle.pad_steps.specs.declared.steps.Step.{Step}
use Rattle.std.proofs.Common.{ap, append_assoc, inl, inr, subst, sym, ◌∙◌}
use Rattle.std.specs.Prelude.{List, [], option_to_list, refl, ℕ, ◌++◌, ◌∷◌, ◌≡◌}
use Rattle.pad_steps.specs.declared.steps.Step.TheVariants as step

pub run_from-append : (set : Setting) (h : Flat) (xs ys : List Act) → run_from set h (xs ++ ys) ≡ run_from set (run_from set h xs) ys
run_from-append set h [] ys = refl
run_from-append set h (a ∷ xs) ys = run_from-append set (next set h a.step a.word).state xs ys

pub lines_from-append : (set : Setting) (h : Flat) (xs ys : List Act) → lines_from set h (xs ++ ys) ≡ lines_from set h xs ++ lines_from set (run_from set h xs) ys
lines_from-append set h [] ys = refl
lines_from-append set h (a ∷ xs) ys = ap (λ (ls : List Line). line_of set h a ∷ ls) (lines_from-append set (next set h a.step a.word).state xs ys)

pub releases_from-append : (set : Setting) (h : Flat) (xs ys : List Act) → releases_from set h (xs ++ ys) ≡ releases_from set h xs ++ releases_from set (run_from set h xs) ys
releases_from-append set h [] ys = refl
releases_from-append set h (a ∷ xs) ys =
    ap (λ (vs : List Answer). option_to_list (release set h a.step) ++ vs) (releases_from-append set (next set h a.step a.word).state xs ys)
    ∙ sym (append_assoc (option_to_list (release set h a.step)) (releases_from set (next set h a.step a.word).state xs) (releases_from set (run_from set (next set h a.step a.word).state xs) ys))

-- twin steps make the same device calls
plan_press : (set : Setting) (p : Shared) (s : Step) → (k : Key) × (s ≡ step.Press k) → plan set p s ≡ Nothing
plan_press set p s a = ap (plan set p) a.1

plan_twins : (set : Setting) (p : Shared) (s t : Step) → TwinSteps p s t → plan set p t ≡ plan set p s
plan_twins set p s t (inl same) = ap (plan set p) (sym same)
plan_twins set p s t (inr both) = plan_press set p t (masked_press p t both.1) ∙ sym (plan_press set p s (masked_press p s both.0))

pub twin_plan : (set : Setting) (h g : Flat) (s t : Step) → Alike h g → TwinSteps h.shared s t → plan set g.shared t ≡ plan set h.shared s
twin_plan set h g s t alike twin = ap (λ (p : Shared). plan set p t) alike.shared ∙ plan_twins set h.shared s t twin

-- so the same words fit
pub twin_fits : (set : Setting) (h g : Flat) (s t : Step) (w : DiskWord) → Alike h g → TwinSteps h.shared s t → fits set g.shared t w ≡ fits set h.shared s w
twin_fits set h g s t w alike twin = ap (λ (calls : Plan). fits_plan calls w) (twin_plan set h g s t alike twin)

-- and the store's bytes are those of the other run
pub twin_holds : (layout : Layout) (set : Setting) (h g : Flat) (k : Known) (xs ys : List Act) (d : List ℕ) → Alike h g → TwinsFrom set h xs ys → releases_from set g ys ≡ releases_from set h xs → HoldsFrom layout set g k ys d ≡ HoldsFrom layout set h k xs d
twin_holds layout set h g k [] [] d alike twins r = refl
twin_holds layout set h g k (a ∷ xs) (b ∷ ys) d alike twins r =
    let split = heads (release set g b.step) (release set h a.step) _ _ (twin_shape set h g a.step b.step alike twins.1) r in
    let after : AlikeAfter (next set h a.step a.word) (next set g b.step a.word) = twin_next set h g a.step b.step a.word alike twins.1 split.0 in
    let at_word = λ (w : DiskWord). releases_from set (next set g b.step w).state ys ≡ releases_from set (next set h a.step a.word).state xs
    → HoldsStep layout (plan set g.shared b.step) w k (λ q. HoldsFrom layout set (next set g b.step w).state q ys d) ≡ HoldsFrom layout set h k (a ∷ xs) d in
    subst at_word (sym twins.0) (λ rest i. HoldsStep layout (twin_plan set h g a.step b.step alike twins.1 i) a.word k
    (λ q. twin_holds layout set (next set h a.step a.word).state (next set g b.step a.word).state q xs ys d after.state twins.2 rest i)) split.1
twin_holds layout set h g k [] (b ∷ ys) d alike twins r = absurd twins
twin_holds layout set h g k (a ∷ xs) [] d alike twins r = absurd twins

pub twins_hold_alike : (layout : Layout) (set : Setting) (a b : List Act) (c d : List ℕ) → Twins set opening a b → Holds layout set c a d → Holds layout set c b d
twins_hold_alike layout set a b c d twins = subst (λ (X : Type 0). X) (sym (twin_holds layout set opening opening (These c) a b d (alike_self opening) twins.0 twins.1))
