-- Power, loading of the store, and what a disk word does to the state. A step that would call the disk has a word that says what came of the calls.
use Rattle.key_table.specs.Changes.{changed, Change}
use Rattle.key_table.specs.KeyRows.{same_rows, put_row, KeyRows}
use Rattle.flat_machine.specs.declared.types.Owner.{Owner}
use Rattle.flat_machine.specs.State.{Shared, Said, ends, dropping_pin, replies, unchanged}
use Rattle.flat_machine.specs.declared.types.Device.TheVariants.{Bad, Off, Ready, Stopped}
use Rattle.pad_steps.specs.declared.steps.DiskWord.{DiskWord}
use Rattle.pad_steps.specs.declared.steps.Fate.{Fate}
use Rattle.std.specs.Prelude.{Bool, List, None, Option, Some, [], false, if◌then◌else◌, length, nat_lt, not, slice_get, take, true, ℕ, ◌*◌, ◌==◌}
use Rattle.pad_steps.specs.declared.answers.Reply.TheVariants as replied
use Rattle.pad_steps.specs.declared.answers.Refusal.TheVariants as refusals
use Rattle.pad_steps.specs.declared.steps.DiskWord.TheVariants as words
use Rattle.pad_steps.specs.declared.steps.Fate.TheVariants as fates

-- the device goes off, by Off or by a cut in any step: every pending request ends CONNECTIONLOST in order of ids; the entry, the held PIN and the part buffer are cleared, and maintain is off. Sessions, lock and clock stay
abbrev pub powers_off : Shared → Said
powers_off shared = dropping_pin true (ends (λ request. true) refusals.ConnectionLost (record shared { device = Off; part = []; maintain = false }))

-- what the word of a loading does: rows make the device ready and end a doubt, a fault stops it, a bad slot makes it bad, a cut leaves it off. Quiet and Done never come: they fit no loading (`fits_plan`)
abbrev pub loads : Shared → DiskWord → Said
loads shared words.Quiet = unchanged shared
loads shared words.Done = unchanged shared
loads shared (words.Failed count) = unchanged (record shared { device = Stopped })
loads shared (words.Cut count) = powers_off shared
loads shared (words.Loaded rows) = unchanged (record shared { device = Ready; keys = rows; doubt = None; loaded = true })
loads shared (words.Bad slot) = unchanged (record shared { device = Bad slot })

-- what the word of a step does that replaces slots one by one: all were replaced and it is done; or after `count` of them a fault stopped the device or a cut came, and the next slot is in doubt. Loaded and Bad never come: they fit no replacement
abbrev pub replaces : Shared → Owner → List Change → (Shared → Said) → DiskWord → Said
replaces shared owner todo done (words.Failed count) =
    replies (record shared { device = Stopped; keys = changed (take count todo) shared.keys; doubt = slice_get todo count }) owner (replied.No refusals.HardwareError)
replaces shared owner todo done (words.Cut count) = powers_off (record shared { keys = changed (take count todo) shared.keys; doubt = slice_get todo count })
replaces shared owner todo done other = done (record shared { keys = changed todo shared.keys })

-- the loaded rows are the kept ones with the slot in doubt replaced
abbrev pub doubt_carried_out : Option Change → KeyRows → KeyRows → Bool
doubt_carried_out None rows loaded = false
doubt_carried_out (Some change) rows loaded = same_rows loaded (put_row change.slot change.row rows)

-- how loaded rows compare with the kept ones: the first of this run; old, where they are the kept ones; new, where they are these with the slot in doubt replaced; else other
abbrev pub fate_of : Shared → KeyRows → Fate
fate_of shared rows = if not shared.loaded then fates.First
    else (if same_rows rows shared.keys then fates.Old
    else (if doubt_carried_out shared.doubt shared.keys rows then fates.New else fates.Other))

-- the fate of a word, where it loaded rows
abbrev pub word_fate : Shared → DiskWord → Option Fate
word_fate shared (words.Loaded rows) = Some (fate_of shared rows)
word_fate shared other = None

-- the device calls that a step makes if none is struck: none; a loading; or replacements of slots
pub data Plan : Type 0 where
  Nothing : Plan
  Loading : Plan
  Replacing : List Change → Plan

-- a loading makes two calls, a sync and a read; a replacement four, the record, a sync, the selector, a sync
abbrev pub planned_calls : Plan → ℕ
planned_calls Nothing = 0
planned_calls Loading = 2
planned_calls (Replacing todo) = 4 * length todo

-- the words that a loading may have; no slot was replaced before a fault or a cut in it
abbrev pub fits_loading : DiskWord → Bool
fits_loading words.Quiet = false
fits_loading words.Done = false
fits_loading (words.Failed count) = count == 0
fits_loading (words.Cut count) = count == 0
fits_loading (words.Loaded rows) = true
fits_loading (words.Bad slot) = true

-- the words that so many replacements may have; Quiet where there are none
abbrev pub fits_replacing : ℕ → DiskWord → Bool
fits_replacing slots words.Quiet = slots == 0
fits_replacing slots words.Done = nat_lt 0 slots
fits_replacing slots (words.Failed count) = nat_lt count slots
fits_replacing slots (words.Cut count) = nat_lt count slots
fits_replacing slots (words.Loaded rows) = false
fits_replacing slots (words.Bad slot) = false

-- the words that a plan may have
abbrev pub fits_plan : Plan → DiskWord → Bool
fits_plan Nothing word = fits_replacing 0 word
fits_plan Loading word = fits_loading word
fits_plan (Replacing todo) word = fits_replacing (length todo) word
