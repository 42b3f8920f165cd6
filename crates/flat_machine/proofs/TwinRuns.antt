-- Twins, step by step, print alike.
use Rattle.flat_machine.proofs.BoolLemmas.{both}
use Rattle.flat_machine.proofs.Unwinding.{alike_self, flat, masked_alike, masked_press, same_alike, same_shape}
use Rattle.flat_machine.specs.Machine.{Act, lines_from, is_masked, next, next_work, release, releases_from, run_from, shown_step, status}
use Rattle.flat_machine.specs.Power.{word_fate}
use Rattle.flat_machine.specs.State.{Flat, Shared, running_entry}
use Rattle.flat_machine.specs.Twins.{Alike, AlikeAfter, AlikeEntries, TwinSteps, Twins, TwinsFrom}
use Rattle.flat_machine.specs.Settings.{Setting}
use Rattle.key_source.specs.declared.Key.{Key}
use Rattle.pad_steps.specs.Lines.{Line}
use Rattle.pad_steps.specs.declared.answers.Answer.{Answer}
use Rattle.pad_steps.specs.declared.answers.Out.{Out}
use Rattle.pad_steps.specs.declared.steps.DiskWord.{DiskWord}
use Rattle.pad_steps.specs.declared.steps.Fate.{Fate}
use Rattle.pad_steps.specs.declared.steps.Step.{Step}
use Rattle.std.proofs.Common.{ap, inl, inr, subst, sym, ◌∙◌}
use Rattle.std.specs.Prelude.{List, None, Option, Some, [], is_some, length, option_to_list, refl, true, ℕ, ◌++◌, ◌∷◌, ◌≡◌}
use Rattle.pad_steps.specs.declared.steps.Step.TheVariants as step

module _ (set : Setting) (p : Shared) (hp gp : List Key) (hd gd : List ℕ) (few : length gd ≡ length hd) where
  press_twins : (s t : Step) (w : DiskWord) → AlikeEntries (running_entry p) hp gp → (k : Key) × (s ≡ step.Press k) → (k : Key) × (t ≡ step.Press k) → is_masked p s ≡ true → is_masked p t ≡ true
      → AlikeAfter (next set (flat p hp hd) s w) (next set (flat p gp gd) t w)
  press_twins s t w alike a b ms mt =
      let ma : is_masked p (step.Press a.0) ≡ true = sym (ap (is_masked p) a.1) ∙ ms in
      let mb : is_masked p (step.Press b.0) ≡ true = sym (ap (is_masked p) b.1) ∙ mt in
      let from_s = λ (u : Step). AlikeAfter (next set (flat p hp hd) u w) (next set (flat p gp gd) t w) in
      let from_t = λ (u : Step). AlikeAfter (next set (flat p hp hd) (step.Press a.0) w) (next set (flat p gp gd) u w) in
      subst from_s (sym a.1) (subst from_t (sym b.1) (masked_alike set p hp gp hd gd few a.0 b.0 w alike ma mb))

  step_alike : (s t : Step) (w : DiskWord) → AlikeEntries (running_entry p) hp gp → TwinSteps p s t → release set (flat p gp gd) t ≡ release set (flat p hp hd) s → AlikeAfter (next set (flat p hp hd) s w) (next set (flat p gp gd) t w)
  step_alike s t w alike (inl same) r = subst (λ (u : Step). release set (flat p gp gd) u ≡ release set (flat p hp hd) s → AlikeAfter (next set (flat p hp hd) s w) (next set (flat p gp gd) u w)) same (same_alike set p hp gp hd gd few s w alike) r
  step_alike s t w alike (inr both) r = press_twins s t w alike (masked_press p s both.0) (masked_press p t both.1) both.0 both.1

  press_shape : (s t : Step) → (k : Key) × (s ≡ step.Press k) → (k : Key) × (t ≡ step.Press k) → is_some (release set (flat p gp gd) t) ≡ is_some (release set (flat p hp hd) s)
  press_shape s t a b = ap (λ (u : Step). is_some (release set (flat p gp gd) u)) b.1 ∙ sym (ap (λ (u : Step). is_some (release set (flat p hp hd) u)) a.1)

  step_shape : (s t : Step) → TwinSteps p s t → is_some (release set (flat p gp gd) t) ≡ is_some (release set (flat p hp hd) s)
  step_shape s t (inl same) = subst (λ (u : Step). is_some (release set (flat p gp gd) u) ≡ is_some (release set (flat p hp hd) s)) same (same_shape set p hp gp hd gd few s)
  step_shape s t (inr both) = press_shape s t (masked_press p s both.0) (masked_press p t both.1)

-- the unwinding law of one step
pub twin_next : (set : Setting) (h g : Flat) (s t : Step) (w : DiskWord) → Alike h g → TwinSteps h.shared s t → release set g t ≡ release set h s → AlikeAfter (next set h s w) (next set g t w)
twin_next set h g s t w alike twin r =
    subst (λ (p : Shared). release set (flat p g.presses g.held) t ≡ release set h s → AlikeAfter (next set h s w) (next set (flat p g.presses g.held) t w)) (sym alike.shared)
    (step_alike set h.shared h.presses g.presses h.held g.held alike.held s t w alike.presses twin) r

-- both worlds release, or both do not
pub twin_shape : (set : Setting) (h g : Flat) (s t : Step) → Alike h g → TwinSteps h.shared s t → is_some (release set g t) ≡ is_some (release set h s)
twin_shape set h g s t alike twin =
    subst (λ (p : Shared). is_some (release set (flat p g.presses g.held) t) ≡ is_some (release set h s)) (sym alike.shared)
    (step_shape set h.shared h.presses g.presses h.held g.held alike.held s t twin)

shown_twins : (p : Shared) (s t : Step) → TwinSteps p s t → shown_step p t ≡ shown_step p s
shown_twins p s t (inl same) = ap (shown_step p) (sym same)
shown_twins p s t (inr both) = rw (both.0, both.1) refl

pub twin_shown : (h g : Flat) (s t : Step) → Alike h g → TwinSteps h.shared s t → shown_step g.shared t ≡ shown_step h.shared s
twin_shown h g s t alike twin = ap (λ (p : Shared). shown_step p t) alike.shared ∙ shown_twins h.shared s t twin

one_head : (x y : Answer) (xs ys : List Answer) → x ∷ xs ≡ y ∷ ys → (Some x ≡ Some y) × (xs ≡ ys)
one_head x y xs ys e = ((cc), (cc))

pub heads : (o q : Option Answer) (xs ys : List Answer) → is_some o ≡ is_some q → option_to_list o ++ xs ≡ option_to_list q ++ ys → (o ≡ q) × (xs ≡ ys)
heads None None xs ys s e = (refl, e)
heads (Some x) (Some y) xs ys s e = one_head x y xs ys e
heads None (Some y) xs ys s e = cc
heads (Some x) None xs ys s e = cc

same_line : (s t : Option Step) (w : DiskWord) (f k : Option Fate) (o q : List Out) (l m : List Line) → t ≡ s → k ≡ f → q ≡ o → m ≡ l
    → record { shown = t; word = w; fate = k; outs = q } ∷ m ≡ record { shown = s; word = w; fate = f; outs = o } ∷ l
same_line s t w f k o q l m es ef eo el = rw (es, ef, eo, el) refl

-- runs that are twins print alike
pub twin_lines : (set : Setting) (h g : Flat) (xs ys : List Act) → Alike h g → TwinsFrom set h xs ys → releases_from set g ys ≡ releases_from set h xs → lines_from set g ys ≡ lines_from set h xs
twin_lines set h g [] [] alike twins r = refl
twin_lines set h g (a ∷ xs) (b ∷ ys) alike twins r =
    let split = heads (release set g b.step) (release set h a.step) _ _ (twin_shape set h g a.step b.step alike twins.1) r in
    let after : AlikeAfter (next set h a.step a.word) (next set g b.step a.word) = twin_next set h g a.step b.step a.word alike twins.1 split.0 in
    let at_word = λ (w : DiskWord). releases_from set (next set g b.step w).state ys ≡ releases_from set (next set h a.step a.word).state xs
    → record { shown = shown_step g.shared b.step; word = w; fate = word_fate g.shared w; outs = (next set g b.step w).outs } ∷ lines_from set (next set g b.step w).state ys ≡ lines_from set h (a ∷ xs) in
    subst at_word (sym twins.0) (λ rest. same_line _ _ a.word _ _ _ _ _ _ (twin_shown h g a.step b.step alike twins.1) (ap (λ (p : Shared). word_fate p a.word) alike.shared) after.outs
    (twin_lines set (next set h a.step a.word).state (next set g b.step a.word).state xs ys after.state twins.2 rest)) split.1
twin_lines set h g [] (b ∷ ys) alike twins r = absurd twins
twin_lines set h g (a ∷ xs) [] alike twins r = absurd twins

-- and end in states that are alike
pub twin_runs : (set : Setting) (h g : Flat) (xs ys : List Act) → Alike h g → TwinsFrom set h xs ys → releases_from set g ys ≡ releases_from set h xs → Alike (run_from set h xs) (run_from set g ys)
twin_runs set h g [] [] alike twins r = alike
twin_runs set h g (a ∷ xs) (b ∷ ys) alike twins r =
    let split = heads (release set g b.step) (release set h a.step) _ _ (twin_shape set h g a.step b.step alike twins.1) r in
    let after : AlikeAfter (next set h a.step a.word) (next set g b.step a.word) = twin_next set h g a.step b.step a.word alike twins.1 split.0 in
    let at_word = λ (w : DiskWord). releases_from set (next set g b.step w).state ys ≡ releases_from set (next set h a.step a.word).state xs → Alike (run_from set (next set h a.step a.word).state xs) (run_from set (next set g b.step w).state ys) in
    subst at_word (sym twins.0) (λ rest. twin_runs set (next set h a.step a.word).state (next set g b.step a.word).state xs ys after.state twins.2 rest) split.1
twin_runs set h g [] (b ∷ ys) alike twins r = absurd twins
twin_runs set h g (a ∷ xs) [] alike twins r = absurd twins

twins_self_from : (set : Setting) (h : Flat) (xs : List Act) → TwinsFrom set h xs xs
twins_self_from set h [] = tt
twins_self_from set h (a ∷ xs) = (refl, inl refl, twins_self_from set (next set h a.step a.word).state xs)

pub twins_self : (set : Setting) (start : Flat) (xs : List Act) → Twins set start xs xs
twins_self set start xs = (twins_self_from set start xs, refl)

pub twins_print_alike : (set : Setting) (start : Flat) (a b : List Act) → Twins set start a b → lines_from set start b ≡ lines_from set start a
twins_print_alike set start a b twins = twin_lines set start start a b (alike_self start) twins.0 twins.1

pub twins_end_alike : (set : Setting) (start : Flat) (a b : List Act) → Twins set start a b → Alike (run_from set start a) (run_from set start b)
twins_end_alike set start a b twins = twin_runs set start start a b (alike_self start) twins.0 twins.1

pub alike_status : (h g : Flat) → Alike h g → status g ≡ status h
alike_status h g alike = rw (alike.shared, alike.held) refl

pub alike_due : (h g : Flat) → Alike h g → next_work g.shared ≡ next_work h.shared
alike_due h g alike = ap next_work alike.shared

pub alike_fate : (h g : Flat) (w : DiskWord) → Alike h g → word_fate g.shared w ≡ word_fate h.shared w
alike_fate h g w alike = ap (λ (p : Shared). word_fate p w) alike.shared
