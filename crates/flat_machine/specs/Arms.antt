-- What a strike that is armed at a device call makes of the words. For tests that cut the power or fail a call at a chosen place.
use Rattle.flat_machine.specs.Power.{Loading, Nothing, Plan, Replacing, planned_calls}
use Rattle.pad_steps.specs.declared.steps.DiskWord.{DiskWord}
use Rattle.std.specs.Prelude.{Bool, IsTrue, None, Option, Some, false, not, true, ℕ, ◌-◌, ◌/◌, ◌<◌, ◌≡◌, ◌≤◌}
use Rattle.pad_steps.specs.declared.steps.DiskWord.TheVariants as words

-- what strikes a device call: a fault, or a power cut
pub data Struck : Type 0 where
  Fails : Struck
  Cuts : Struck

-- what is armed: the number of the call, 1 for the next one, and what strikes it
abbrev pub Armed : Type 0
Armed = Option (ℕ × Struck)

-- the calls among which a step can be struck
abbrev pub most_calls : Plan → ℕ
most_calls calls = planned_calls calls

-- the calls of a step that was not struck
abbrev pub calls_made : Plan → DiskWord → ℕ
calls_made calls word = planned_calls calls

-- the slots that were wholly replaced before that call
abbrev pub replaced_before : Plan → ℕ → ℕ
replaced_before Nothing call = 0
replaced_before Loading call = 0
replaced_before (Replacing todo) call = (call - 1) / 4

-- the word of a step that was struck: it is as armed, the call lay within the step, the slots before it are counted, and nothing is armed after
pub record IsStruck (calls : Plan) (armed : ℕ × Struck) (kind : Struck) (count : ℕ) (after : Armed) : Type 0 where
  pub as_armed : armed.1 ≡ kind
  pub within : armed.0 ≤ most_calls calls
  pub slots : count ≡ replaced_before calls armed.0
  pub spent : after ≡ None

-- the word of a step that was not struck: the armed call lies beyond its calls, and comes nearer by them
pub record IsSpared (calls : Plan) (armed : ℕ × Struck) (word : DiskWord) (after : Armed) : Type 0 where
  pub beyond : calls_made calls word < armed.0
  pub nearer : after ≡ Some (armed.0 - calls_made calls word, armed.1)

-- what is so of a step's word while a call is armed
abbrev pub DueArmed : Plan → ℕ × Struck → DiskWord → Armed → Type 0
DueArmed calls armed words.Quiet after = IsSpared calls armed words.Quiet after
DueArmed calls armed words.Done after = IsSpared calls armed words.Done after
DueArmed calls armed (words.Failed count) after = IsStruck calls armed Fails count after
DueArmed calls armed (words.Cut count) after = IsStruck calls armed Cuts count after
DueArmed calls armed (words.Loaded rows) after = IsSpared calls armed (words.Loaded rows) after
DueArmed calls armed (words.Bad slot) after = IsSpared calls armed (words.Bad slot) after

-- a call of the step failed or was cut
abbrev pub is_struck : DiskWord → Bool
is_struck (words.Failed count) = true
is_struck (words.Cut count) = true
is_struck other = false

-- what is so of a step's word, and of what is armed after it. With nothing armed no call fails or is cut
abbrev pub Due : Plan → Armed → DiskWord → Armed → Type 0
Due calls None word after = IsTrue (not (is_struck word)) × (after ≡ None)
Due calls (Some armed) word after = DueArmed calls armed word after
