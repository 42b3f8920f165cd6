-- What a method of the pad does.
use Rattle.flat_machine.specs.Kept.{KeptAfter, kept_said}
use Rattle.flat_machine.specs.State.{Said, Shared}
use Rattle.pad_machine.specs.Stands.{PadState, Whole, kept_by, shared_of}
use Rattle.pad_steps.specs.Lines.{OutList}
use Rattle.pad_steps.specs.declared.answers.Out.{Out}
use Rattle.std.specs.Prelude.{List, ℕ, ◌++◌, ◌≡◌}

-- the parts keep what is kept after a step, and the outs have grown by what the step said
pub record Becomes (new : Whole) (before after : OutList) (effect : KeptAfter) : Type 0 where
  pub state : kept_by new ≡ effect.state
  pub outs : after.items ≡ before.items ++ effect.outs

-- the same, of an effect that the shared part and the held digits give
abbrev pub Does : Whole → Whole → OutList → OutList → (Shared → List ℕ → Said) → Type 0
Does old new before after effect = Becomes new before after (kept_said (kept_by old) (effect (shared_of old.common) old.held))

-- pad and outs are as before
abbrev pub Undone : PadState → PadState → List Out → List Out → Type 0
Undone old new before after = (new ≡ old) × (after ≡ before)
