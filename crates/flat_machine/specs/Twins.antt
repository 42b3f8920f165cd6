-- Twins: runs that differ in the digits of PINs alone, and release the same values.
use Rattle.entry_core.specs.Entries.{Entry, is_secret}
use Rattle.flat_machine.specs.Machine.{Act, is_masked, next, releases_from}
use Rattle.flat_machine.specs.State.{After, Flat, Shared, Running, running_entry}
use Rattle.flat_machine.specs.Settings.{Setting}
use Rattle.key_source.specs.declared.Key.{Key}
use Rattle.pad_steps.specs.declared.steps.Step.{Step}
use Rattle.std.specs.Prelude.{IsTrue, List, None, Option, Some, [], length, ◌∷◌, ◌≡◌, ◌⊎◌}

-- the same key, or two active digits of a PIN
abbrev pub AlikeKeys : Entry → Key → Key → Type 0
AlikeKeys entry first second = (first ≡ second) ⊎ (IsTrue (is_secret entry first) × IsTrue (is_secret entry second))

-- as many presses, alike place by place
abbrev pub AlikePresses : Entry → List Key → List Key → Type 0
AlikePresses entry [] [] = Unit {0}
AlikePresses entry (first ∷ firsts) (second ∷ seconds) = AlikeKeys entry first second × AlikePresses entry firsts seconds
AlikePresses entry [] (second ∷ seconds) = ⊥
AlikePresses entry (first ∷ firsts) [] = ⊥

-- the presses are alike where an entry runs, and equal where none does
abbrev pub AlikeEntries : Option Running → List Key → List Key → Type 0
AlikeEntries None firsts seconds = seconds ≡ firsts
AlikeEntries (Some current) firsts seconds = AlikePresses current.entry firsts seconds

-- two states that agree in everything but the digits of PINs: the held digits agree in number, the presses of a running PIN entry in number and place by place in all but the digit
pub record Alike (first second : Flat) : Type 0 where
  pub shared : second.shared ≡ first.shared
  pub presses : AlikeEntries (running_entry first.shared) first.presses second.presses
  pub held : length second.held ≡ length first.held

-- states that are alike, and the same said
pub record AlikeAfter (first second : After) : Type 0 where
  pub state : Alike first.state second.state
  pub outs : second.outs ≡ first.outs

-- the same step, or two presses that are masked
abbrev pub TwinSteps : Shared → Step → Step → Type 0
TwinSteps shared first second = (first ≡ second) ⊎ (IsTrue (is_masked shared first) × IsTrue (is_masked shared second))

module _ (set : Setting) where
  -- two runs from a state with the same words, whose steps differ in masked presses alone
  abbrev pub TwinsFrom : Flat → List Act → List Act → Type 0
  TwinsFrom state [] [] = Unit {0}
  TwinsFrom state (first ∷ firsts) (second ∷ seconds) = (second.word ≡ first.word)
      × TwinSteps state.shared first.step second.step
      × TwinsFrom (next set state first.step first.word).state firsts seconds
  TwinsFrom state [] (second ∷ seconds) = ⊥
  TwinsFrom state (first ∷ firsts) [] = ⊥

  -- and which release the same values
  abbrev pub Twins : Flat → List Act → List Act → Type 0
  Twins start first second = TwinsFrom start first second × (releases_from set start second ≡ releases_from set start first)
