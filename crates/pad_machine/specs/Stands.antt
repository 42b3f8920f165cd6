-- What the pad keeps, and of which state.
use Rattle.flat_machine.specs.DiskSteps.{IsReadyStore}
use Rattle.device_lock.specs.LockLine.{holder_of}
use Rattle.flat_machine.specs.Kept.{FitRunning, Kept, kept_of}
use Rattle.flat_machine.specs.Machine.{holder_number, next_work, one_if, work_number}
use Rattle.flat_machine.specs.PinFacts.{passes_submit}
use Rattle.flat_machine.specs.Settings.{Setting, setting_with}
use Rattle.flat_machine.specs.Sound.{Sound}
use Rattle.flat_machine.specs.State.{Flat, Running, Shared, device_number, running_entry}
use Rattle.flat_machine.specs.declared.types.Device.{Device}
use Rattle.key_table.specs.Changes.{Change}
use Rattle.key_table.specs.KeyStores.{KeyStore}
use Rattle.pad_machine.specs.declared.running_entry.RunningEntry.{RunningEntry}
use Rattle.pad_steps.specs.Formed.{is_well_formed_command}
use Rattle.pad_steps.specs.declared.answers.Reply.{Reply}
use Rattle.pad_steps.specs.declared.commands.Command.{Command}
use Rattle.pad_words.specs.declared.numbers.Session.{Session}
use Rattle.pin_blocks.specs.FillWords.{fill_word}
use Rattle.pin_blocks.specs.PinRules.{PinRules}
use Rattle.request_queue.specs.Requests.{gone_count}
use Rattle.request_queue.specs.declared.requests.RequestRow.{RequestRow}
use Rattle.session_book.specs.declared.sessions.SessionRow.{SessionRow}
use Rattle.std.specs.Prelude.{Bool, List, Option, is_some, ℕ, ◌&&◌, ◌*◌, ◌+◌, ◌≡◌, ◌≤◌}

-- what a pad of this PIN work and this seed has from outside
abbrev pub set_by : PinRules → List ℕ → Setting
set_by pin_rules seed = setting_with pin_rules (fill_word seed)

-- what a pad has from outside
abbrev pub set_of : PinRules → Kept → Setting
set_of pin_rules kept = set_by pin_rules kept.seed

-- what the pad keeps, and the bytes that its store has, where it is settled
pub record PadState : Type 0 where
  pub kept : Kept
  pub stored : Option (List ℕ)

-- what the pad keeps is that of this state, in a run of this seed
abbrev pub StandsFor : PadState → List ℕ → Flat → Type 0
StandsFor pad seed state = pad.kept ≡ kept_of seed state

-- a command that may wait: it is well formed, and Submit does not refuse it
abbrev pub is_admitted : PinRules → Command → Bool
is_admitted pin_rules command = is_well_formed_command command && passes_submit pin_rules command

-- every pending command may wait
abbrev pub IsSound : PinRules → Shared → Type 0
IsSound pin_rules shared = Sound (is_admitted pin_rules) shared

-- what holds of every value of a pad: the digits fit the running entry; pending commands may wait, and none does while the device is off; the store of a ready device shows its keys; and each ended request has drawn at most 255 fill words
pub record IsPadState (pin_rules : PinRules) (pad : PadState) : Type 0 where
  pub digits : FitRunning pad.kept
  pub sound : IsSound pin_rules pad.kept.shared
  pub ready : IsReadyStore pad.kept.shared pad.stored
  pub few : pad.kept.shared.drawn ≤ 255 * gone_count pad.kept.shared.requests

-- what is the same in twins: the table over its store, the device, the slot in doubt, whether a loading succeeded, sessions, the line for the lock, requests, the clock, the part buffer, whether a used PIN is maintained, and the fill words drawn; and how many requests more it takes without memory
pub record Common : Type 0 where
  pub device : Device
  pub store : KeyStore
  pub doubt : Option Change
  pub loaded : Bool
  pub sessions : List SessionRow
  pub line : List Session
  pub requests : List (RequestRow Command Reply)
  pub clock : ℕ
  pub part : List ℕ
  pub maintain : Bool
  pub drawn : ℕ
  pub room : ℕ

-- each ended request has drawn at most 255 fill words
abbrev pub DrawnFew : Common → Type 0
DrawnFew common = common.drawn ≤ 255 * gone_count common.requests

-- its shared part
abbrev pub shared_of : Common → Shared
shared_of common = record { device = common.device; keys = common.store.rows; doubt = common.doubt; loaded = common.loaded; sessions = common.sessions; line = common.line; requests = common.requests; clock = common.clock; part = common.part; maintain = common.maintain; drawn = common.drawn }

-- the seed, what is the same in twins, the digits of the running entry, and those of the held PIN
pub record Whole : Type 0 where
  pub seed : List ℕ
  pub common : Common
  pub digits : List ℕ
  pub held : List ℕ

-- what is kept, without the room
abbrev pub kept_by : Whole → Kept
kept_by whole = record { seed = whole.seed; shared = shared_of whole.common; digits = whole.digits; held = whole.held }

-- the same, with the bytes of the store
abbrev pub pad_state : Whole → PadState
pad_state whole = record { kept = kept_by whole; stored = whole.common.store.bytes }

-- the running entry that the code names by its owner and its rules
abbrev pub running_of : RunningEntry → Running
running_of running_entry = record { id = running_entry.owner.id; session = running_entry.owner.session; entry = running_entry.entry }

-- the state as one number, from the shared part and whether a PIN is held
abbrev pub status_with : Shared → Bool → ℕ
status_with shared pin = device_number shared.device + 4 * one_if (is_some (running_entry shared)) + 8 * one_if pin + 16 * work_number (next_work shared)
    + 64 * holder_number (holder_of shared.line) + 2048 * gone_count shared.requests
