-- What the worker's calls add.
use Rattle.std.proofs.Common.{ap, append_assoc, append-nil, arith, length, length-append, refl, subst, suc, sym, zero, inl, inr, ⊎_elim, true, false, Bool, List, [], ◌++◌, ◌+◌, ◌-◌, ◌∙◌, ◌∷◌, ◌≡◌, ◌≢◌, ◌<◌, ◌≤◌, ◌⊎◌, ℕ, take, eqb, cond, ◌%◌, ◌/◌}
use Rattle.std.proofs.lemmas.Bool.{cases_eq}
use Rattle.std.specs.Prelude.{None, Option, Some}
use Rattle.pad_desk.specs.Answers.{DueRefused, HadNothing, TookDue, due_at}
use Rattle.pad_desk.specs.Desks.{noted}
use Rattle.pad_desk.specs.Histories.{Legal, status_after}
use Rattle.pad_desk.specs.declared.outcome.StepOut.{StepOut}
use Rattle.pad_live_core.proofs.MoveLemmas.{each_right}
use Rattle.pad_live_core.proofs.PlacedLemmas.{placed_none, placed_same, snoc_front}
use Rattle.pad_live_core.specs.LaneEvents.{DeskLog, DeskView, SamePass}
use Rattle.pad_live_core.specs.Stops.{FullAt}
use Rattle.pad_live_core.specs.Workers.{EndsWithOther, IsDueAfter, IsIdle, IsWork, IsWorked, WorkHolds, WorksOn}
use Rattle.pad_live_core.specs.declared.stop.Stop.TheVariants as why
use Rattle.pad_steps.specs.declared.steps.Step.TheVariants as steps
use Rattle.pad_steps.specs.declared.steps.Step.{Step}
use Rattle.pin_blocks.specs.PinRules.{PinRules}
use Rattle.turnstile.proofs.NumberLemmas.{places_own}
use Rattle.turnstile.specs.Entries.{Refuses, entry}
use Rattle.turnstile.specs.Numbers.{Each, places_from}
use Rattle.turnstile.specs.Rules.{IsTrueNote, entries_of, made_by}
use Rattle.turnstile.specs.Turns.{Enters, Sees}
use Rattle.turnstile.specs.declared.machine.CallFault.TheVariants as fault
use Rattle.turnstile.specs.declared.machine.CallFault.{CallFault}
use Rattle.turnstile.specs.declared.view.MadeEntry.{MadeEntry}

module _ {A : Type 0} where
  -- an element of a list with one more at its end
  pub snoc_cases : (l front rest : List A) (a r : A) → l ++ a ∷ [] ≡ front ++ r ∷ rest → ((front ≡ l) × (r ≡ a)) ⊎ ((rest' : List A) × (l ≡ front ++ r ∷ rest'))
  snoc_cases [] [] rest a r e = inl (refl, (cc))
  snoc_cases [] (x ∷ xs) rest a r e = let long = ap length e in absurd (omega (arith, long, length-append xs (r ∷ rest)))
  snoc_cases (y ∷ ys) [] rest a r e = let e' : y ∷ (ys ++ a ∷ []) ≡ r ∷ rest = e in let h : y ≡ r = cc in inr (ys, λ i. h i ∷ ys)
  snoc_cases (y ∷ ys) (x ∷ xs) rest a r e = let e' : y ∷ (ys ++ a ∷ []) ≡ x ∷ (xs ++ r ∷ rest) = e in let h : y ≡ x = cc in
      ⊎_elim (λ (t : (xs ≡ ys) × (r ≡ a)). inl ((λ i. sym h i ∷ t.0 i), t.1)) (λ (t : (rest' : List A) × (ys ≡ xs ++ r ∷ rest')). inr (t.0, λ i. h i ∷ t.1 i))
      (snoc_cases ys xs rest a r (cc))

  -- an element of one of two lists
  pub append_cases : (P : A → Type 0) (l m front rest : List A) (r : A) → Each P m → l ++ m ≡ front ++ r ∷ rest → ((rest' : List A) × (l ≡ front ++ r ∷ rest')) ⊎ P r
  append_cases P [] m front rest r each e = inr (in_middle front m each e)
    where
      in_middle : (front m : List A) → Each P m → m ≡ front ++ r ∷ rest → P r
      in_middle [] m each e = (subst (Each P) e each).0
      in_middle (x ∷ front) [] each e = let e' : [] ≡ x ∷ (front ++ r ∷ rest) = e in cc
      in_middle (x ∷ front) (y ∷ m) each e = let e' : y ∷ m ≡ x ∷ (front ++ r ∷ rest) = e in in_middle front m each.1 (cc)
  append_cases P (y ∷ l) m [] rest r each e = let e' : y ∷ (l ++ m) ≡ r ∷ rest = e in let h : y ≡ r = cc in inl (l, λ i. h i ∷ l)
  append_cases P (y ∷ l) m (x ∷ front) rest r each e = let e' : y ∷ (l ++ m) ≡ x ∷ (front ++ r ∷ rest) = e in let h : y ≡ x = cc in
      ⊎_elim (λ (t : (rest' : List A) × (l ≡ front ++ r ∷ rest')). inl (t.0, λ i. h i ∷ t.1 i)) (λ p. inr p) (append_cases P l m front rest r each (cc))

  pub last_of : (P : A → Type 0) (l : List A) → Each P l → 0 < length l → (before : List A) × (x : A) × (l ≡ before ++ x ∷ []) × P x
  last_of P [] each some = absurd (omega arith)
  last_of P (x ∷ []) each some = ([], x, refl, each.0)
  last_of P (x ∷ y ∷ l) each some = let t = last_of P (y ∷ l) each.1 (omega arith) in (x ∷ t.0, t.1, (λ i. x ∷ t.2 i), t.3)

  pub take_whole : (l : List A) (n : ℕ) → n ≡ length l → take n l ≡ l
  take_whole [] zero e = refl
  take_whole [] (suc n) e = refl
  take_whole (x ∷ l) zero e = absurd (omega arith)
  take_whole (x ∷ l) (suc n) e = let t = take_whole l n (omega arith) in (λ i. x ∷ t i)

due_cases : (b d : Bool) (op : Step) → cond b (Some steps.Begin) (cond d (Some steps.Finish) None) ≡ Some op → (op ≡ steps.Begin) ⊎ (op ≡ steps.Finish)
due_cases true d op e = inl (cc)
due_cases false true op e = inr (cc)
due_cases false false op e = let e' : None ≡ Some op = e in cc

-- what is due is a Begin or a Finish
pub due_is : (s : ℕ) (op : Step) → due_at s ≡ Some op → (op ≡ steps.Begin) ⊎ (op ≡ steps.Finish)
due_is s op e = due_cases (eqb (s / 16 % 4) 1) (eqb (s / 16 % 4) 2) op e

module _ (pin_rules : PinRules) where
  pub works_on : (u v w : DeskView) → WorksOn pin_rules u v → WorksOn pin_rules v w → WorksOn pin_rules u w
  works_on u v w a b = record {
    same = record { number = b.same.number ∙ a.same.number; seated = b.same.seated ∙ a.same.seated; ended = b.same.ended ∙ a.same.ended };
    seen = (a.seen.0 ++ b.seen.0, b.seen.1 ∙ ap (λ l. l ++ b.seen.0) a.seen.1 ∙ append_assoc u.seen a.seen.0 b.seen.0);
    more = a.more ++ b.more;
    notes = b.notes ∙ ap (λ l. l ++ b.more) a.notes ∙ append_assoc u.notes a.more b.more;
    holds = λ h. b.holds (a.holds h);
  }

  pub works_same : (v : DeskView) → WorksOn pin_rules v v
  works_same v = record { same = record { number = refl; seated = refl; ended = refl }; seen = ([], sym (append-nil v.seen)); more = []; notes = sym (append-nil v.notes); holds = λ h. h }

  pub works_noted : (n s : ℕ) (v w : DeskView) → w ≡ noted v n s → WorksOn pin_rules v w
  works_noted n s v w is = subst (WorksOn pin_rules v) (sym is) record { same = record { number = refl; seated = refl; ended = refl }; seen = ([], sym (append-nil v.seen)); more = (n, s) ∷ []; notes = refl; holds = λ h. record { base = h.base; seen = h.seen; mine = h.mine; worked = h.worked } }

  pub idle_noted : (n s : ℕ) (v w : DeskView) → due_at s ≡ None → w ≡ noted v n s → length v.seen ≤ n → IsIdle w
  idle_noted n s v w none is seen = subst IsIdle (sym is) record { front = v.notes; length_then = n; status_then = s; last = refl; none = none; seen = seen }

  pub works_sees : (v w : DeskView) → Sees (Legal pin_rules) (status_after pin_rules) v w → WorksOn pin_rules v w
  works_sees v w s = record {
    same = record { number = ap (λ (y : DeskView). y.number) s.kept; seated = ap (λ (y : DeskView). y.seated) s.kept; ended = ap (λ (y : DeskView). y.ended) s.kept };
    seen = s.seen;
    more = [];
    notes = ap (λ (y : DeskView). y.notes) s.kept ∙ sym (append-nil v.notes);
    holds = λ h. record {
      base = h.base;
      seen = (h.seen.0 ++ s.seen.0, s.seen.1 ∙ ap (λ l. l ++ s.seen.0) h.seen.1 ∙ append_assoc h.base h.seen.0 s.seen.0);
      mine = (λ i. places_from 0 (ap (λ (y : DeskView). y.number) s.kept i) h.base) ∙ h.mine ∙ sym (ap (λ (y : DeskView). y.mine) s.kept);
      worked = subst (λ number. IsWorked pin_rules number h.base) (sym (ap (λ (y : DeskView). y.number) s.kept)) h.worked;
    };
  }

  -- the entry that is due at a note, after entries of others
  last_is : (number : List ℕ) (base more : DeskLog) (n s : ℕ) (op : Step) (m : MadeEntry Step StepOut) → m.op ≡ op → due_at s ≡ Some op → length base ≤ n → IsTrueNote (status_after pin_rules) (base ++ more) (n, s) → Each (λ (x : MadeEntry Step StepOut). x.by ≢ number) more
      → IsWork pin_rules number (base ++ more) m
  last_is number base more n s op m is dues far note apart =
      record {
        kind = subst (λ (o : Step). (o ≡ steps.Begin) ⊎ (o ≡ steps.Finish)) (sym is) (due_is s op dues);
        due = ⊎_elim
            (λ (same : n ≡ length (base ++ more)). inl (ap due_at (sym (note.1 ∙ ap (λ l. status_after pin_rules (entries_of l)) (take_whole (base ++ more) n same))) ∙ dues ∙ ap Some (sym is)))
            (λ (other : n ≡ length (base ++ more) → ⊥). let below = note.0 in
            let last = last_of (λ (x : MadeEntry Step StepOut). x.by ≢ number) more apart (omega (arith, far, below, other, length-append base more)) in
            inr (record { before = base ++ last.0; other = last.1; last = ap (λ l. base ++ l) last.2 ∙ sym (append_assoc base last.0 (last.1 ∷ [])); by = last.3 }))
            (cases_eq n (length (base ++ more)));
      }

  pub works_entered : (n s : ℕ) (v u w : DeskView) (place : ℕ) (op : Step) (outcome : StepOut) → due_at s ≡ Some op → u ≡ noted v n s → length v.seen ≤ n → Enters (Legal pin_rules) (status_after pin_rules) u place op outcome w → WorksOn pin_rules v w
  works_entered n s v u w place op outcome dues is far e =
      let U : DeskView = noted v n s in
      let e : Enters (Legal pin_rules) (status_after pin_rules) U place op outcome w = subst (λ (y : DeskView). Enters (Legal pin_rules) (status_after pin_rules) y place op outcome w) is e in
      let m : MadeEntry Step StepOut = made_by v.number (entry op outcome) in
      let number : w.number ≡ v.number = ap (λ (y : DeskView). y.number) e.kept in record {
        same = record { number = number; seated = ap (λ (y : DeskView). y.seated) e.kept; ended = ap (λ (y : DeskView). y.ended) e.kept };
        seen = (e.between ++ m ∷ [], e.seen ∙ append_assoc v.seen e.between (m ∷ []));
        more = (n, s) ∷ [];
        notes = ap (λ (y : DeskView). y.notes) e.kept;
        holds = λ h.
            let more : DeskLog = h.seen.0 ++ e.between in
            let before : v.seen ++ e.between ≡ h.base ++ more = ap (λ l. l ++ e.between) h.seen.1 ∙ append_assoc h.base h.seen.0 e.between in
            let whole : w.seen ≡ (h.base ++ more) ++ m ∷ [] = e.seen ∙ ap (λ l. l ++ m ∷ []) before in
            let w_mine : w.mine ≡ v.mine ++ place ∷ [] = ap (λ (y : DeskView). y.mine) e.kept in
            let here : places_from 0 w.number w.seen ≡ w.mine = e.known.each.0.mine in
            let moved : places_from 0 v.number ((h.base ++ more) ++ m ∷ []) ≡ v.mine ++ place ∷ [] = (λ i. places_from 0 (sym number i) (sym whole i)) ∙ here ∙ w_mine in
            let fronts : places_from 0 v.number (h.base ++ more) ≡ v.mine = snoc_front (places_from 0 v.number (h.base ++ more)) v.mine (length (h.base ++ more)) place (sym (places_own v.number (h.base ++ more) m refl) ∙ moved) in
            let apart : Each (λ (x : MadeEntry Step StepOut). x.by ≢ v.number) more = placed_none (0 + length h.base) v.number more (placed_same v.number h.base more (fronts ∙ sym h.mine)) in
            let note : IsTrueNote (status_after pin_rules) (h.base ++ more) (n, s) = subst (λ l. IsTrueNote (status_after pin_rules) l (n, s)) before (each_right (IsTrueNote (status_after pin_rules) (v.seen ++ e.between)) v.notes ((n, s) ∷ []) e.notes_before).0 in
            let long = ap length h.seen.1 in
            let near : length h.base ≤ n = omega (arith, far, long, length-append h.base h.seen.0) in record {
              base = w.seen;
              seen = ([], sym (append-nil w.seen));
              mine = here;
              worked = λ front x rest cut by.
                  let mine : x.by ≡ v.number = by ∙ number in
                  subst (λ (y : List ℕ). IsWork pin_rules y front x) (sym number)
                  (⊎_elim
                  (λ (t : (front ≡ h.base ++ more) × (x ≡ m)). subst (λ (f : DeskLog). IsWork pin_rules v.number f x) (sym t.0)
                  (last_is v.number h.base more n s op x (ap (λ (y : MadeEntry Step StepOut). y.op) t.1) dues near note apart))
                  (λ (t : (rest' : DeskLog) × (h.base ++ more ≡ front ++ x ∷ rest')). ⊎_elim
                  (λ (r : (rest' : DeskLog) × (h.base ≡ front ++ x ∷ rest')). h.worked front x r.0 r.1 mine)
                  (λ (ne : x.by ≢ v.number). absurd (ne mine))
                  (append_cases (λ (y : MadeEntry Step StepOut). y.by ≢ v.number) h.base more front t.0 x apart t.1))
                  (snoc_cases (h.base ++ more) front rest m x (sym whole ∙ cut)));
            };
      }

  -- a pass that worked once
  pub works_did : (v w : DeskView) (place : ℕ) (outcome : StepOut) → TookDue pin_rules v place outcome w → WorksOn pin_rules v w
  works_did v w place outcome took = works_entered took.shown took.status v (noted v took.shown took.status) w place took.step outcome took.due refl took.glanced.seen took.entered

  pub works_nothing : (v w : DeskView) (shown status : ℕ) → HadNothing pin_rules v shown status w → WorksOn pin_rules v w
  works_nothing v w shown status had = works_noted shown status v w had.note

  pub works_refused : (v w : DeskView) (fault : CallFault Step) → DueRefused pin_rules v fault w → WorksOn pin_rules v w
  works_refused v w fault refused = works_on v (noted v refused.shown refused.status) w (works_noted refused.shown refused.status v (noted v refused.shown refused.status) refl) (works_sees (noted v refused.shown refused.status) w refused.seen)
