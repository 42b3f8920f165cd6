-- Passes that were seated and joined again.
use Rattle.std.specs.Prelude.{List, [], ℕ, ◌++◌, ◌<◌, ◌∷◌, ◌≡◌, ◌≤◌, ◌⊎◌}
use Rattle.turnstile.specs.Numbers.{Each}
use Rattle.turnstile.specs.Rules.{known_self}
use Rattle.turnstile.specs.declared.view.KnownPass.{KnownPass}
use Rattle.turnstile.specs.declared.view.PassView.{PassView}

-- one of the passes has this number
abbrev pub HasNumber : List ℕ → List KnownPass → Type 0
HasNumber number [] = ⊥
HasNumber number (pass ∷ passes) = (pass.number ≡ number) ⊎ HasNumber number passes

-- those that the pass seated, from a rank on, are among the passes
abbrev pub HasSeated : KnownPass → ℕ → List KnownPass → Type 0
HasSeated pass from passes = (rank : ℕ) → from ≤ rank → rank < pass.seated → HasNumber (pass.number ++ rank ∷ []) passes

-- between these two views of a pass every pass that it seated was joined into it, with all that this one seated
pub record HasJoinedAll {O R : Type 0} (before after : PassView O R) : Type 0 where
  pub number : after.number ≡ before.number
  pub more : List KnownPass
  pub ended : after.ended ≡ before.ended ++ more
  pub own : HasSeated (known_self after) before.seated more
  pub theirs : Each (λ pass. HasSeated pass 0 more) more
