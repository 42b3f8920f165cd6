-- What a key shows, under a test of what is shown that a masked key passes.
use Rattle.entry_core.specs.declared.seen.Seen.TheVariants.{Ended, Ignored, Took}
use Rattle.entry_core.specs.declared.seen.Seen.{Seen}
use Rattle.pad_steps.specs.declared.answers.Completion.TheVariants as completion
use Rattle.pad_steps.specs.declared.answers.Shown.TheVariants as shown
use Rattle.pad_steps.specs.declared.answers.Shown.{Shown}
use Rattle.std.specs.Prelude.{Bool, false, if◌then◌else◌, refl, true, ◌≡◌}

module _ (hides : Shown → Bool) where
  abbrev pub seen_hides : Seen → Bool
  seen_hides Ignored = true
  seen_hides (Took s) = hides s
  seen_hides (Ended s c) = hides s

  pub hides-digit_seen : hides shown.Masked ≡ true → (b c : Bool) → seen_hides (if b then (if c then Ended shown.Masked completion.Auto else Took shown.Masked) else Ignored) ≡ true
  hides-digit_seen masked true true = masked
  hides-digit_seen masked true false = masked
  hides-digit_seen masked false c = refl

  pub hides_ignored : (b : Bool) (s : Seen) → seen_hides s ≡ true → seen_hides (if b then Ignored else s) ≡ true
  hides_ignored true s h = refl
  hides_ignored false s h = h

  pub hides_if : (b : Bool) (s t : Seen) → seen_hides s ≡ true → seen_hides t ≡ true → seen_hides (if b then s else t) ≡ true
  hides_if true s t h k = h
  hides_if false s t h k = k
