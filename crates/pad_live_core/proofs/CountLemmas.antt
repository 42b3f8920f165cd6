-- How many entries of its own a worker can have.
use Rattle.std.proofs.Common.{ap, append_assoc, append-nil, arith, cond, length, length-append, refl, sym, ⊎_elim, List, [], ◌++◌, ◌+◌, ◌*◌, ◌∙◌, ◌∷◌, ◌≡◌, ◌<◌, ◌≤◌, ℕ}
use mathlib.Core.Path.{Path}
use Rattle.std.specs.Prelude.{bytes_eq}
use Rattle.flat_machine.specs.Settings.{Setting}
use Rattle.pad_desk.specs.Answers.{due_at}
use Rattle.pad_desk.specs.Histories.{setting_of}
use Rattle.pad_desk.specs.declared.outcome.StepOut.{StepOut}
use Rattle.pad_live_core.proofs.DueLemmas.{WorkLaws, drawn_in, left_after, left_less, left_more, status_is}
use Rattle.pad_live_core.proofs.WorkLemmas.{snoc_cases}
use Rattle.pad_live_core.specs.Bounds.{is_submit}
use Rattle.pad_live_core.specs.LaneEvents.{DeskLog}
use Rattle.pad_live_core.specs.Workers.{EndsWithOther, IsDueAfter, IsWorked}
use Rattle.pad_steps.specs.declared.steps.Step.{Step}
use Rattle.pin_blocks.specs.PinRules.{PinRules}
use Rattle.turnstile.proofs.ListLemmas.{by_same}
use Rattle.turnstile.specs.Rules.{entries_of}
use Rattle.turnstile.specs.declared.view.MadeEntry.{MadeEntry}

-- the entries of this number, and the others
abbrev pub count_own : List ℕ → DeskLog → ℕ
count_own number [] = 0
count_own number (m ∷ log) = cond (bytes_eq m.by number) (1 + count_own number log) (count_own number log)

abbrev pub count_other : List ℕ → DeskLog → ℕ
count_other number [] = 0
count_other number (m ∷ log) = cond (bytes_eq m.by number) (count_other number log) (1 + count_other number log)

ends_other : (number : List ℕ) (front : DeskLog) (m : MadeEntry Step StepOut) → m.by ≡ number → ¬ EndsWithOther number (front ++ m ∷ [])
ends_other number front m is ends = ⊎_elim
    (λ (t : (ends.before ≡ front) × (ends.other ≡ m)). ends.by (ap (λ (x : MadeEntry Step StepOut). x.by) t.1 ∙ is))
    (λ (t : (rest' : DeskLog) × (front ≡ ends.before ++ ends.other ∷ rest')). too_long t.0 t.1)
    (snoc_cases front ends.before [] m ends.other ends.last)
  where
    too_long : (rest' : DeskLog) → front ≡ ends.before ++ ends.other ∷ rest' → ⊥
    too_long rest' cut = let a = ap length cut in let b = ap length ends.last in absurd (omega (arith, a, b, length-append front (m ∷ []), length-append ends.before (ends.other ∷ []), length-append ends.before (ends.other ∷ rest')))

no_other : (number : List ℕ) → ¬ EndsWithOther number []
no_other number ends = empty ends.before ends.other ends.last
  where
    empty : (before : DeskLog) (m : MadeEntry Step StepOut) → ¬ Path DeskLog [] (before ++ m ∷ [])
    empty [] m e = let e' : Path DeskLog [] (m ∷ []) = e in cc
    empty (x ∷ before) m e = let e' : Path DeskLog [] (x ∷ (before ++ m ∷ [])) = e in cc

module _ (pin_rules : PinRules) where
  -- what is left after these entries of the whole history
  abbrev left_of : DeskLog → DeskLog → ℕ
  left_of log front = left_after (setting_of pin_rules (entries_of log)) front

  -- the worker's entries are no more than the others', what was left, and two for each Submit
  worker_bound : WorkLaws → (number : List ℕ) (log front rest : DeskLog) (f : ℕ) → log ≡ front ++ rest → IsWorked pin_rules number log → (EndsWithOther number front → 1 ≤ f)
      → count_own number rest + left_of log log ≤ count_other number rest + left_of log front + 2 * drawn_in rest + f
  worker_bound laws number log front [] f cut worked flag = let same = ap (left_of log) (cut ∙ append-nil front) in omega (arith, same)
  worker_bound laws number log front (m ∷ rest) f cut worked flag =
      let set : Setting = setting_of pin_rules (entries_of log) in
      let cut' : log ≡ (front ++ m ∷ []) ++ rest = cut ∙ sym (append_assoc front (m ∷ []) rest) in
      let more : left_of log (front ++ m ∷ []) ≤ left_of log front + 2 * is_submit m.op = left_more set laws front m in
      by_same m.by number (λ b. cond b (1 + count_own number rest) (count_own number rest) + left_of log log ≤ cond b (count_other number rest) (1 + count_other number rest) + left_of log front + 2 * drawn_in (m ∷ rest) + f)
      (λ is.
      let ih : count_own number rest + left_of log log ≤ count_other number rest + left_of log (front ++ m ∷ []) + 2 * drawn_in rest + 0 = worker_bound laws number log (front ++ m ∷ []) rest 0 cut' worked (λ ends. absurd (ends_other number front m is ends)) in
      ⊎_elim
      (λ (d : IsDueAfter pin_rules front m).
      let less : left_of log (front ++ m ∷ []) < left_of log front = left_less set laws front m (ap due_at (sym (status_is pin_rules log front (m ∷ rest) cut)) ∙ d) in
      omega (arith, ih, less))
      (λ (o : EndsWithOther number front). let one = flag o in omega (arith, ih, more, one))
      (worked front m rest cut is).due)
      (λ ne.
      let ih : count_own number rest + left_of log log ≤ count_other number rest + left_of log (front ++ m ∷ []) + 2 * drawn_in rest + 1 = worker_bound laws number log (front ++ m ∷ []) rest 1 cut' worked (λ _. omega arith) in
      omega (arith, ih, more))

  pub worker_entries : WorkLaws → (number : List ℕ) (log : DeskLog) → IsWorked pin_rules number log → count_own number log ≤ count_other number log + 2 * drawn_in log
  worker_entries laws number log worked =
      let b : count_own number log + left_of log log ≤ count_other number log + left_of log [] + 2 * drawn_in log + 0 = worker_bound laws number log [] log 0 refl worked (λ ends. absurd (no_other number ends)) in
      let none : left_of log [] ≡ 0 = refl in omega (arith, b, none)
