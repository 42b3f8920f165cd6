-- Presses of an entry, whether the key is active or not: what is said, what the digits are then, and how many digits there may be.
use Rattle.entry_core.specs.Entries.{Entry, active_seen, after_value, digit_in, is_key_part}
use Rattle.entry_core.specs.declared.faults.EntryFault.{EntryFault}
use Rattle.entry_core.specs.declared.faults.EntryFault.TheVariants as faults
use Rattle.entry_core.specs.declared.seen.Seen.{Seen}
use Rattle.entry_core.specs.declared.seen.Seen.TheVariants.{Ignored}
use Rattle.key_source.specs.Keys.{has_key}
use Rattle.key_source.specs.declared.Key.{Key}
use Rattle.pad_steps.specs.declared.answers.Completion.{Completion}
use Rattle.pad_steps.specs.declared.answers.Completion.TheVariants as completions
use Rattle.pad_steps.specs.declared.answers.Refusal.{Refusal}
use Rattle.pad_steps.specs.declared.answers.Refusal.TheVariants as refusals
use Rattle.pad_steps.specs.declared.commands.EntryKind.{EntryKind}
use Rattle.std.specs.Prelude.{All, List, None, Option, Some, [], filter, if◌then◌else◌, length, ℕ, ◌<◌, ◌≡◌, ◌≤◌, ◌∷◌}

-- the most digits that an entry may ask for: 48 of a key part (a triple DES key of three parts), 16 of a PIN or of data
abbrev pub most_digits : EntryKind → ℕ
most_digits kind = if is_key_part kind then 48 else 16

-- an entry, if there is one, takes no more digits than one of its kind may
abbrev pub IsEntrySize : Option Entry → Type 0
IsEntrySize None = Unit {0}
IsEntrySize (Some entry) = entry.greatest ≤ most_digits entry.kind

-- the digits of an entry are below this: A to F are digits of a key part
abbrev pub digit_bound : EntryKind → ℕ
digit_bound kind = if is_key_part kind then 16 else 10

-- the digits are no more than the entry takes, and each is a digit of its kind
pub record FitEntry (entry : Entry) (digits : List ℕ) : Type 0 where
  pub few : length digits ≤ entry.greatest
  pub small : All (λ digit. digit < digit_bound entry.kind) digits

-- the digits after a press: an active key has its effect, and any other none
abbrev pub after_press : Entry → Key → List ℕ → List ℕ
after_press entry key digits = if has_key entry.active key then after_value entry (digit_in entry.kind key) key digits else digits

-- what a press does at this many digits: a key that is not active is ignored
abbrev pub press_seen : Entry → ℕ → Key → Seen
press_seen entry count key = if has_key entry.active key then active_seen entry count key else Ignored

-- the digits after presses, the latest of which stands first
abbrev pub after_presses : Entry → List Key → List ℕ
after_presses entry [] = []
after_presses entry (key ∷ earlier) = after_press entry key (after_presses entry earlier)

-- the presses of active keys
abbrev pub active_presses : Entry → List Key → List Key
active_presses entry presses = filter (λ key. has_key entry.active key) presses

-- the digits of an entry that ended so: none by CANCEL, the greatest number of them where it ended by itself, and else the least number at least
abbrev pub EndsWith : Entry → Completion → List ℕ → Type 0
EndsWith entry completions.Auto digits = length digits ≡ entry.greatest
EndsWith entry completions.Enter digits = entry.least ≤ length digits
EndsWith entry completions.Cancel digits = digits ≡ []
EndsWith entry completions.Help digits = entry.least ≤ length digits
EndsWith entry (completions.Fdk number) digits = entry.least ≤ length digits

-- the refusal of an entry
abbrev pub refusal_of : EntryFault → Refusal
refusal_of faults.MinimumLength = refusals.MinimumLength
refusal_of faults.NoActiveKeys = refusals.NoActiveKeys
refusal_of faults.KeyNotSupported = refusals.KeyNotSupported
