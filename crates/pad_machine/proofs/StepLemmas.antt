-- A step of the pad, from what it prepares and what it performs.
use Rattle.disk_core.specs.DiskStates.{DiskState}
use Rattle.flat_machine.specs.DiskFacts.{IsKeptStore, KeepsStore}
use Rattle.flat_machine.specs.DiskSteps.{IsReadyStore, IsTied, OnDisk, StepOnDisk, is_cut, switched}
use Rattle.flat_machine.specs.Kept.{Kept, KeptAfter, kept_next}
use Rattle.flat_machine.specs.KeyLayout.{key_layout}
use Rattle.flat_machine.specs.PinFacts.{passes_submit}
use Rattle.flat_machine.specs.Power.{Plan}
use Rattle.flat_machine.specs.RequestSteps.{command_refusal}
use Rattle.flat_machine.specs.Sound.{SubmitsOk}
use Rattle.flat_machine.specs.State.{Flat, Shared}
use Rattle.key_source.specs.declared.Key.{Key}
use Rattle.pad_machine.proofs.PlanLemmas.{same_plan}
use Rattle.pad_machine.specs.Does.{Becomes}
use Rattle.pad_machine.specs.Prepares.{IsPlanned, calls_of, deciding, effect_of, pressed, switch_of, with_key}
use Rattle.pad_machine.specs.Runs.{PadIsTied, PadStepOnDisk}
use Rattle.pad_machine.specs.Stands.{PadState, StandsFor, Whole, is_admitted, kept_by, pad_state, set_by, set_of, shared_of}
use Rattle.pad_machine.specs.declared.keyless.KeylessStep.{KeylessStep}
use Rattle.pad_machine.specs.declared.prepared.Prepared.{Prepared}
use Rattle.pad_steps.specs.Lines.{OutList}
use Rattle.pad_steps.specs.Formed.{is_well_formed_command-submit, is_well_formed_command, is_well_formed}
use Rattle.pad_steps.specs.declared.answers.Out.{Out}
use Rattle.pad_steps.specs.declared.answers.Refusal.{Refusal}
use Rattle.pad_steps.specs.declared.steps.DiskWord.{DiskWord}
use Rattle.pad_steps.specs.declared.steps.Step.TheVariants as step
use Rattle.pad_steps.specs.declared.steps.Step.{Step}
use Rattle.pin_blocks.specs.PinRules.{PinRules}
use Rattle.std.proofs.Common.{ap, subst, sym, ◌∙◌}
use Rattle.std.specs.Prelude.{Bool, IsTrue, List, None, Option, Some, false, if◌then◌else◌, is_some, not, refl, true, ℕ, ◌&&◌, ◌++◌, ◌≡◌}

module _ (pin_rules : PinRules) where
  -- what was prepared comes to the machine's step on what was kept
  pub effect-is : (old : Kept) (mid : Whole) (prepared : Prepared) (taken : Step) (key : Option Key) (word : DiskWord) (keyless : KeylessStep) (is : (k : Key) × (taken ≡ with_key keyless k))
      → ((k : Key) (w : DiskWord) → effect_of pin_rules (pressed (with_key keyless k)) mid prepared w ≡ kept_next (set_by pin_rules mid.seed) (kept_by mid) (with_key keyless k) w)
      → key ≡ pressed taken → kept_by mid ≡ old → effect_of pin_rules key mid prepared word ≡ kept_next (set_of pin_rules old) old taken word
  effect-is old mid prepared taken key word keyless is does of kept =
      ap (λ (k : Option Key). effect_of pin_rules k mid prepared word) of
      ∙ subst (λ (s : Step). effect_of pin_rules (pressed s) mid prepared word ≡ kept_next (set_by pin_rules mid.seed) (kept_by mid) s word) (sym is.1) (does is.0 word)
      ∙ ap (λ (k : Kept). kept_next (set_of pin_rules k) k taken word) kept

  pub step-becomes : (old : Kept) (new mid : Whole) (before middle after : OutList) (prepared : Prepared) (taken : Step) (key : Option Key) (word : DiskWord) (keyless : KeylessStep) (is : (k : Key) × (taken ≡ with_key keyless k))
      → ((k : Key) (w : DiskWord) → effect_of pin_rules (pressed (with_key keyless k)) mid prepared w ≡ kept_next (set_by pin_rules mid.seed) (kept_by mid) (with_key keyless k) w)
      → key ≡ pressed taken → kept_by mid ≡ old → middle.items ≡ before.items → Becomes new middle after (effect_of pin_rules key mid prepared word) → Becomes new before after (kept_next (set_of pin_rules old) old taken word)
  step-becomes old new mid before middle after prepared taken key word keyless is does of kept items done =
      let same = effect-is old mid prepared taken key word keyless is does of kept in
      record {
        state = done.state ∙ ap (λ (x : KeptAfter). x.state) same;
        outs = done.outs ∙ ap (λ (outs : List Out). outs ++ (effect_of pin_rules key mid prepared word).outs) items ∙ ap (λ (x : KeptAfter). before.items ++ x.outs) same;
      }

  -- what was prepared is what the step plans
  pub step-planned : (mid : Whole) (prepared : Prepared) (taken : Step) (keyless : KeylessStep) (is : (k : Key) × (taken ≡ with_key keyless k)) → ((k : Key) → IsPlanned (deciding pin_rules) (shared_of mid.common) prepared (with_key keyless k))
      → IsPlanned (deciding pin_rules) (shared_of mid.common) prepared taken
  step-planned mid prepared taken keyless is planned = subst (λ (s : Step). IsPlanned (deciding pin_rules) (shared_of mid.common) prepared s) (sym is.1) (planned is.0)

  on_disk_as : (before after : Shared) (one other : Bool → Bool) (calls : Plan) (word : DiskWord) (s t : DiskState) → ((was : Bool) → other was ≡ one was) → OnDisk key_layout before after one calls word s t → OnDisk key_layout before after other calls word s t
  on_disk_as before after one other calls word s t same on = record {
    fits = on.fits;
    faults = on.faults;
    cuts = on.cuts;
    failed = on.failed;
    cut = on.cut;
    last = on.last;
    off = on.off ∙ ap (λ (b : Bool). if is_cut word then true else b) (sym (same s.off));
    on = on.on;
    tells = on.tells;
    due = on.due;
    moved = on.moved;
    read = on.read;
    stable = on.stable;
    shows = on.shows;
  }

  pub step-on_disk : (old : PadState) (mid new : Whole) (prepared : Prepared) (taken : Step) (word : DiskWord) (s t : DiskState) → pad_state mid ≡ old → IsPlanned (deciding pin_rules) (shared_of mid.common) prepared taken
      → KeepsStore (shared_of mid.common) (shared_of new.common) (switch_of prepared) (calls_of (shared_of mid.common) prepared) word new.common.store s t → PadStepOnDisk pin_rules old (pad_state new) taken word s t
  step-on_disk old mid new prepared taken word s t kept planned device =
      let switched_on = on_disk_as (shared_of mid.common) (shared_of new.common) (switch_of prepared) (switched (shared_of mid.common) taken) (calls_of (shared_of mid.common) prepared) word s t planned.switch device.on_disk in
      let planned_on : StepOnDisk key_layout (set_by pin_rules mid.seed) (shared_of mid.common) (shared_of new.common) taken word s t =
      subst (λ (calls : Plan). OnDisk key_layout (shared_of mid.common) (shared_of new.common) (switched (shared_of mid.common) taken) calls word s t) (sym planned.calls ∙ same_plan pin_rules mid.seed (shared_of mid.common) taken) switched_on in
      subst (λ (pad : PadState). StepOnDisk key_layout (set_of pin_rules pad.kept) pad.kept.shared (shared_of new.common) taken word s t) kept planned_on

  -- the step of the pad on the disk is that of the state that it stands for
  pub step-of_state : (seed : List ℕ) (state after : Flat) (old new : PadState) (taken : Step) (word : DiskWord) (s t : DiskState) → StandsFor old seed state → StandsFor new seed after → PadStepOnDisk pin_rules old new taken word s t
      → StepOnDisk key_layout (set_by pin_rules seed) state.shared after.shared taken word s t
  step-of_state seed state after old new taken word s t stands stood on =
      subst (λ (kept : Kept). StepOnDisk key_layout (set_by pin_rules seed) state.shared kept.shared taken word s t) stood
      (subst (λ (kept : Kept). StepOnDisk key_layout (set_by pin_rules kept.seed) kept.shared new.kept.shared taken word s t) stands on)

  -- a command that Submit takes may wait

  both_hold : (a b : Bool) → a ≡ true → b ≡ true → (a && b) ≡ true
  both_hold true b first second = second
  both_hold false b first second = cc

  none_passes : (refusal : Option Refusal) → refusal ≡ None → not (is_some refusal) ≡ true
  none_passes None none = refl
  none_passes (Some why) none = cc

  pub submits-admitted : (taken : Step) → IsTrue (is_well_formed taken) → SubmitsOk (is_admitted pin_rules) pin_rules taken
  submits-admitted (step.Open session) taken = tt
  submits-admitted (step.Close session) taken = tt
  submits-admitted (step.Listen session classes) taken = tt
  submits-admitted (step.Lock session) taken = tt
  submits-admitted (step.Unlock session) taken = tt
  submits-admitted (step.Submit session limit command) taken = λ none. both_hold (is_well_formed_command command) (passes_submit pin_rules command) (is_well_formed_command-submit session limit command taken) (none_passes (command_refusal pin_rules command) none)
  submits-admitted (step.Cancel session id) taken = tt
  submits-admitted step.Begin taken = tt
  submits-admitted step.Finish taken = tt
  submits-admitted (step.Press key) taken = tt
  submits-admitted (step.Tick ticks) taken = tt
  submits-admitted (step.Ask session question) taken = tt
  submits-admitted step.Off taken = tt
  submits-admitted step.Boot taken = tt

-- the store that the pad keeps, tied to its disk
pub kept_store : (mid : Whole) (old : PadState) (s : DiskState) → pad_state mid ≡ old → IsReadyStore old.kept.shared old.stored → PadIsTied old s → IsKeptStore (shared_of mid.common) mid.common.store s
kept_store mid old s same ready tied = record {
  keys = refl;
  ready = subst (λ (pad : PadState). IsReadyStore pad.kept.shared pad.stored) (sym same) ready;
  tied = subst (λ (pad : PadState). IsTied pad.kept.shared pad.stored s) (sym same) tied;
}
