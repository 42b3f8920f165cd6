-- Histories of the store one after another.
use Rattle.flat_machine.proofs.SoundLemmas.{next_sound}
use Rattle.flat_machine.specs.Arms.{is_struck}
use Rattle.flat_machine.specs.Machine.{Act, next, plan, run_from}
use Rattle.flat_machine.specs.Power.{Loading, Nothing, Plan, Replacing}
use Rattle.flat_machine.specs.Sound.{SubmitsOk}
use Rattle.flat_machine.specs.State.{Flat, Shared}
use Rattle.flat_machine.specs.StoreHistory.{CanBe, HoldsFrom, HoldsStep, Known, Layout, These, TornFrom, known_after, put_all, struck_at}
use Rattle.flat_machine.specs.Settings.{Setting}
use Rattle.key_table.specs.Changes.{Change}
use Rattle.pad_steps.specs.declared.commands.Command.{Command}
use Rattle.pad_steps.specs.declared.steps.DiskWord.{DiskWord}
use Rattle.pad_steps.specs.declared.steps.Step.{Step}
use Rattle.pad_steps.specs.declared.steps.DiskWord.TheVariants as word
use Rattle.pad_steps.specs.declared.steps.Step.TheVariants as step
use Rattle.flat_machine.proofs.IdleDevices.{Idle, idle_plan, next_idle, next_struck}
use Rattle.flat_machine.specs.DiskSteps.{is_loaded, is_replacing}
use Rattle.flat_machine.specs.DiskRuns.{NonePendingOff}
use Rattle.std.proofs.Common.{subst, sym}
use Rattle.std.specs.Prelude.{List, None, Option, Some, [], false, refl, slice_get, take, true, ℕ, ◌++◌, ◌∷◌, ◌≡◌}

-- every submitted command passes the test that all pass
submits_all : (set : Setting) (s : Step) → SubmitsOk (λ (c : Command). true) set.pin_rules s
submits_all set (step.Open s) = tt
submits_all set (step.Close s) = tt
submits_all set (step.Listen s c) = tt
submits_all set (step.Lock s) = tt
submits_all set (step.Unlock s) = tt
submits_all set (step.Submit s limit c) = λ e. refl
submits_all set (step.Cancel s id) = tt
submits_all set step.Begin = tt
submits_all set step.Finish = tt
submits_all set (step.Press k) = tt
submits_all set (step.Tick n) = tt
submits_all set (step.Ask s q) = tt
submits_all set step.Off = tt
submits_all set step.Boot = tt

pub sound_next : (set : Setting) (h : Flat) (s : Step) (w : DiskWord) → NonePendingOff h.shared → NonePendingOff (next set h s w).state.shared
sound_next set h s w sound = next_sound (λ (c : Command). true) set h s w (submits_all set s) sound

-- a change can be in doubt only while the device is not ready
abbrev pub Doubt : Known → Shared → Type 0
Doubt (These b) p = Unit {0}
Doubt (TornFrom b c) p = Idle p

module _ (layout : Layout) where
  -- what goes on from what is known after a step, or from bytes that were read
  pub step_map : (calls : Plan) (w : DiskWord) (k : Known) (P Q : Known → Type 0) → (is_loaded w ≡ false → P (known_after layout calls w k) → Q (known_after layout calls w k)) → ((b : List ℕ) → P (These b) → Q (These b))
      → HoldsStep layout calls w k P → HoldsStep layout calls w k Q
  step_map calls word.Quiet k P Q f g h = f refl h
  step_map calls word.Done k P Q f g h = f refl h
  step_map calls (word.Failed n) k P Q f g h = f refl h
  step_map calls (word.Cut n) k P Q f g h = f refl h
  step_map calls (word.Loaded rows) k P Q f g h = (h.0, h.1, h.2, g h.0 h.3)
  step_map calls (word.Bad slot) k P Q f g h = f refl h

  -- a doubt stays where nothing is replaced
  torn_stays : (calls : Plan) (w : DiskWord) (b : List ℕ) (c : Change) → is_replacing calls ≡ false → known_after layout calls w (TornFrom b c) ≡ TornFrom b c
  torn_stays Nothing w b c e = refl
  torn_stays Loading w b c e = refl
  torn_stays (Replacing todo) w b c e = cc

  doubt_at : (b : List ℕ) (o : Option Change) (p : Shared) → Idle p → Doubt (struck_at layout b o) p
  doubt_at b None p idle = tt
  doubt_at b (Some c) p idle = idle

  doubt_replaced : (calls : Plan) (w : DiskWord) (b : List ℕ) (p : Shared) → (is_replacing calls ≡ true → is_struck w ≡ true → Idle p) → Doubt (known_after layout calls w (These b)) p
  doubt_replaced Nothing w b p idle = tt
  doubt_replaced Loading w b p idle = tt
  doubt_replaced (Replacing todo) word.Quiet b p idle = tt
  doubt_replaced (Replacing todo) word.Done b p idle = tt
  doubt_replaced (Replacing todo) (word.Failed n) b p idle = doubt_at (put_all layout b (take n todo)) (slice_get todo n) p (idle refl refl)
  doubt_replaced (Replacing todo) (word.Cut n) b p idle = doubt_at (put_all layout b (take n todo)) (slice_get todo n) p (idle refl refl)
  doubt_replaced (Replacing todo) (word.Loaded rows) b p idle = tt
  doubt_replaced (Replacing todo) (word.Bad slot) b p idle = tt

  pub doubt_next : (set : Setting) (h : Flat) (s : Step) (w : DiskWord) (k : Known) → NonePendingOff h.shared → Doubt k h.shared → is_loaded w ≡ false → Doubt (known_after layout (plan set h.shared s) w k) (next set h s w).state.shared
  doubt_next set h s w (These b) sound doubt e = doubt_replaced (plan set h.shared s) w b (next set h s w).state.shared (next_struck set h s w)
  doubt_next set h s w (TornFrom b c) sound doubt e =
      subst (λ (k : Known). Doubt k (next set h s w).state.shared) (sym (torn_stays (plan set h.shared s) w b c (idle_plan set h.shared s sound doubt))) (next_idle set h s w doubt e)

  -- a step from bytes that can stand where a change is in doubt
  torn_step : (calls : Plan) (w : DiskWord) (b e : List ℕ) (c : Change) (P : Known → Type 0) → is_replacing calls ≡ false → CanBe layout (TornFrom b c) e → (is_loaded w ≡ false → P (These e) → P (TornFrom b c)) → HoldsStep layout calls w (These e) P → HoldsStep layout calls w (TornFrom b c) P
  torn_step (Replacing todo) w b e c P not can f h = cc
  torn_step Nothing word.Quiet b e c P not can f h = f refl h
  torn_step Nothing word.Done b e c P not can f h = f refl h
  torn_step Nothing (word.Failed n) b e c P not can f h = f refl h
  torn_step Nothing (word.Cut n) b e c P not can f h = f refl h
  torn_step Nothing (word.Loaded rows) b e c P not can f h = (h.0, subst (λ (x : List ℕ). CanBe layout (TornFrom b c) x) (sym h.1) can, h.2, h.3)
  torn_step Nothing (word.Bad slot) b e c P not can f h = f refl h
  torn_step Loading word.Quiet b e c P not can f h = f refl h
  torn_step Loading word.Done b e c P not can f h = f refl h
  torn_step Loading (word.Failed n) b e c P not can f h = f refl h
  torn_step Loading (word.Cut n) b e c P not can f h = f refl h
  torn_step Loading (word.Loaded rows) b e c P not can f h = (h.0, subst (λ (x : List ℕ). CanBe layout (TornFrom b c) x) (sym h.1) can, h.2, h.3)
  torn_step Loading (word.Bad slot) b e c P not can f h = f refl h

  -- a history that begins with bytes begins with what can be these
  holds_torn : (set : Setting) (h : Flat) (b e : List ℕ) (c : Change) (xs : List Act) (d : List ℕ) → NonePendingOff h.shared → Idle h.shared → CanBe layout (TornFrom b c) e → HoldsFrom layout set h (These e) xs d → HoldsFrom layout set h (TornFrom b c) xs d
  holds_torn set h b e c [] d sound idle can holds = subst (λ (x : List ℕ). CanBe layout (TornFrom b c) x) (sym holds) can
  holds_torn set h b e c (a ∷ xs) d sound idle can holds =
      torn_step (plan set h.shared a.step) a.word b e c (λ (k : Known). HoldsFrom layout set (next set h a.step a.word).state k xs d) (idle_plan set h.shared a.step sound idle) can
      (λ unloaded. holds_torn set (next set h a.step a.word).state b e c xs d (sound_next set h a.step a.word sound) (next_idle set h a.step a.word idle unloaded) can) holds

  pub holds_known : (set : Setting) (h : Flat) (k : Known) (e : List ℕ) (xs : List Act) (d : List ℕ) → NonePendingOff h.shared → Doubt k h.shared → CanBe layout k e → HoldsFrom layout set h (These e) xs d → HoldsFrom layout set h k xs d
  holds_known set h (These b) e xs d sound doubt can holds = subst (λ (x : List ℕ). HoldsFrom layout set h (These x) xs d) can holds
  holds_known set h (TornFrom b c) e xs d sound doubt can holds = holds_torn set h b e c xs d sound doubt can holds

  -- one history after another
  pub holds_then : (set : Setting) (h : Flat) (k : Known) (xs ys : List Act) (e d : List ℕ) → NonePendingOff h.shared → Doubt k h.shared → HoldsFrom layout set h k xs e → HoldsFrom layout set (run_from set h xs) (These e) ys d → HoldsFrom layout set h k (xs ++ ys) d
  holds_then set h k [] ys e d sound doubt first second = holds_known set h k e ys d sound doubt first second
  holds_then set h k (a ∷ xs) ys e d sound doubt first second =
      step_map (plan set h.shared a.step) a.word k (λ (q : Known). HoldsFrom layout set (next set h a.step a.word).state q xs e) (λ (q : Known). HoldsFrom layout set (next set h a.step a.word).state q (xs ++ ys) d)
      (λ unloaded holds. holds_then set (next set h a.step a.word).state (known_after layout (plan set h.shared a.step) a.word k) xs ys e d (sound_next set h a.step a.word sound) (doubt_next set h a.step a.word k sound doubt unloaded) holds second)
      (λ b holds. holds_then set (next set h a.step a.word).state (These b) xs ys e d (sound_next set h a.step a.word sound) tt holds second)
      first
