-- The pad and its disk stay tied.
use Rattle.disk_core.specs.DiskStates.{DiskState, IsOnlyImage}
use Rattle.disk_core.specs.Disks.{ArmsDisk}
use Rattle.disk_core.specs.declared.disk.Strike.{Strike}
use Rattle.flat_machine.specs.DiskSteps.{IsTied, StepOnDisk}
use Rattle.flat_machine.specs.KeyLayout.{key_layout}
use Rattle.flat_machine.specs.Kept.{Kept}
use Rattle.flat_machine.specs.State.{Flat, opening}
use Rattle.nv_store.specs.Stores.{IsInStep}
use Rattle.pad_machine.specs.Runs.{PadIsTied, PadStepOnDisk}
use Rattle.pad_machine.specs.Stands.{PadState, StandsFor, set_by}
use Rattle.pad_steps.specs.declared.steps.DiskWord.{DiskWord}
use Rattle.pad_steps.specs.declared.steps.Step.{Step}
use Rattle.pin_blocks.specs.PinRules.{PinRules}
use Rattle.std.proofs.Common.{subst, sym, ◌∙◌}
use Rattle.std.specs.Prelude.{IfSome, List, None, Option, Some, ℕ, ◌≡◌}

-- what is armed is no part of a disk that has the store's bytes
module _ (s t : DiskState) (call : ℕ) (strike : Strike) (arms : ArmsDisk call strike s t) where
  only-arm : (content : Option (List ℕ)) (bytes : List ℕ) → IfSome content (λ c. (c ≡ bytes) × IsOnlyImage bytes s) → IfSome content (λ c. (c ≡ bytes) × IsOnlyImage bytes t)
  only-arm None bytes has = tt
  only-arm (Some c) bytes has = (has.0, λ image left. has.1 image (arms.image image left))

  in_step-arm : (stored : Option (List ℕ)) → IsInStep s stored → IsInStep t stored
  in_step-arm None has = absurd has
  in_step-arm (Some bytes) has = subst (λ (o : Option (List ℕ)). IfSome o (λ c. (c ≡ bytes) × IsOnlyImage bytes t)) (sym arms.content) (only-arm s.content bytes has)

  pub tied-arm : (pad : PadState) → PadIsTied pad s → PadIsTied pad t
  tied-arm pad tied = record { on = λ on. arms.off ∙ tied.on on; in_step = λ ready. in_step-arm pad.stored (tied.in_step ready) }

-- a pad that is off is tied to every disk
pub tied-opening : (seed : List ℕ) (pad : PadState) (s : DiskState) → StandsFor pad seed opening → PadIsTied pad s
tied-opening seed pad s stands = subst (λ (kept : Kept). IsTied kept.shared pad.stored s) (sym stands) (record { on = λ on. absurd cc; in_step = λ ready. absurd cc })

-- the step of the pad on the disk is that of the state that it stands for
pub stood-step : (rules : PinRules) (seed : List ℕ) (state after : Flat) (old new : PadState) (step : Step) (word : DiskWord) (s t : DiskState) → StandsFor old seed state → StandsFor new seed after
    → PadStepOnDisk rules old new step word s t → StepOnDisk key_layout (set_by rules seed) state.shared after.shared step word s t
stood-step rules seed state after old new step word s t stands stood on =
    subst (λ (kept : Kept). StepOnDisk key_layout (set_by rules seed) state.shared kept.shared step word s t) stood
    (subst (λ (kept : Kept). StepOnDisk key_layout (set_by rules kept.seed) kept.shared new.kept.shared step word s t) stands on)
