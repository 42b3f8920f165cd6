-- What the code keeps of a state: the digits of the running entry in the place of its presses. The steps are those of the machine; a press alone is said again.
use Rattle.entry_core.specs.Entries.{active_seen, after_value, digit_in, entered, is_pin}
use Rattle.entry_core.specs.Presses.{FitEntry}
use Rattle.flat_machine.specs.EntrySteps.{entry_answer, after_entry, next_begin}
use Rattle.flat_machine.specs.FinishSteps.{next_finish}
use Rattle.flat_machine.specs.Machine.{has_pin, next_boot, next_off}
use Rattle.flat_machine.specs.RequestSteps.{next_ask, next_cancel, next_submit, next_tick}
use Rattle.flat_machine.specs.SessionSteps.{next_close, next_listen, next_lock, next_open, next_unlock}
use Rattle.flat_machine.specs.Sessions.{execute_event}
use Rattle.flat_machine.specs.State.{Flat, Shared, Running, Said, running_entry}
use Rattle.flat_machine.specs.Settings.{Setting}
use Rattle.entry_core.specs.declared.seen.Seen.{Seen}
use Rattle.entry_core.specs.declared.seen.Seen.TheVariants.{Ended, Ignored, Took}
use Rattle.key_source.specs.Keys.{has_key}
use Rattle.key_source.specs.declared.Key.{Key}
use Rattle.pad_steps.specs.declared.answers.Completion.{Completion}
use Rattle.pad_steps.specs.declared.steps.DiskWord.{DiskWord}
use Rattle.pad_steps.specs.declared.answers.Out.{Out}
use Rattle.pad_steps.specs.declared.answers.Shown.{Shown}
use Rattle.pad_steps.specs.declared.steps.Step.{Step}
use Rattle.std.specs.Prelude.{List, None, Option, Some, [], if◌then◌else◌, length, ℕ, ◌++◌, ◌∷◌}
use Rattle.pad_steps.specs.declared.answers.Out.TheVariants as out
use Rattle.pad_steps.specs.declared.answers.Reply.TheVariants as replied
use Rattle.pad_steps.specs.declared.answers.Event.TheVariants as events
use Rattle.pad_steps.specs.declared.steps.Step.TheVariants as steps

-- the seed of the fill words, the shared part, the digits of the running entry, and the digits of the held PIN
pub record Kept : Type 0 where
  pub seed : List ℕ
  pub shared : Shared
  pub digits : List ℕ
  pub held : List ℕ

-- the digits of the running entry; none where no entry runs
abbrev pub digits_of : Option Running → List Key → List ℕ
digits_of None presses = []
digits_of (Some current) presses = entered current.entry presses

-- what is kept of a state, in a run of this seed
abbrev pub kept_of : List ℕ → Flat → Kept
kept_of seed state = record { seed = seed; shared = state.shared; digits = digits_of (running_entry state.shared) state.presses; held = state.held }

-- the digits fit the running entry, if there is one
abbrev pub FitEntryIn : Option Running → List ℕ → Type 0
FitEntryIn None digits = Unit {0}
FitEntryIn (Some current) digits = FitEntry current.entry digits

-- the digits that are kept fit the running entry
abbrev pub FitRunning : Kept → Type 0
FitRunning kept = FitEntryIn (running_entry kept.shared) kept.digits

-- what is kept after a step, and what the step said
pub record KeptAfter : Type 0 where
  pub state : Kept
  pub outs : List Out

-- an effect on what is kept: what is dropped becomes empty
abbrev pub kept_said : Kept → Said → KeptAfter
kept_said kept effect = record {
  state = record {
    seed = kept.seed;
    shared = effect.shared;
    digits = if effect.drops_presses then [] else kept.digits;
    held = if effect.drops_pin then [] else kept.held;
  };
  outs = effect.outs;
}

module _ (set : Setting) where
  -- the entry ends with these digits
  abbrev pub kept_ends : Kept → Running → Shown → Completion → List ℕ → KeptAfter
  kept_ends kept current shown completion digits = record {
    state = record { seed = kept.seed; shared = after_entry set.cipher kept.shared current shown completion digits; digits = []; held = if is_pin current.entry.kind then digits else kept.held };
    outs = execute_event kept.shared.sessions current.session (events.Key shown)
        ++ out.Ended current.session current.id (replied.Ok (entry_answer set.cipher current.entry.kind current.entry.check completion digits)) ∷ [];
  }

  -- what an active key does, at the digits after it
  abbrev pub kept_seen : Kept → Running → List ℕ → Seen → KeptAfter
  kept_seen kept current digits Ignored = record { state = record kept { digits = digits }; outs = [] }
  kept_seen kept current digits (Took shown) = record { state = record kept { digits = digits }; outs = execute_event kept.shared.sessions current.session (events.Key shown) }
  kept_seen kept current digits (Ended shown completion) = kept_ends kept current shown completion digits

  -- without an entry, or where the key is not active, nothing happens
  abbrev pub kept_press_in : Kept → Option Running → Key → KeptAfter
  kept_press_in kept None key = record { state = kept; outs = [] }
  kept_press_in kept (Some current) key = if has_key current.entry.active key
      then kept_seen kept current (after_value current.entry (digit_in current.entry.kind key) key kept.digits) (active_seen current.entry (length kept.digits) key)
      else record { state = kept; outs = [] }

  -- one step on what is kept
  abbrev pub kept_next : Kept → Step → DiskWord → KeptAfter
  kept_next kept (steps.Open session) word = kept_said kept (next_open kept.shared session)
  kept_next kept (steps.Close session) word = kept_said kept (next_close kept.shared session)
  kept_next kept (steps.Listen session classes) word = kept_said kept (next_listen kept.shared session classes)
  kept_next kept (steps.Lock session) word = kept_said kept (next_lock kept.shared session)
  kept_next kept (steps.Unlock session) word = kept_said kept (next_unlock kept.shared session)
  kept_next kept (steps.Submit session limit command) word = kept_said kept (next_submit set.pin_rules kept.shared session limit command)
  kept_next kept (steps.Cancel session id) word = kept_said kept (next_cancel kept.shared session id)
  kept_next kept steps.Begin word = kept_said kept (next_begin kept.shared)
  kept_next kept steps.Finish word = kept_said kept (next_finish set kept.shared kept.held word)
  kept_next kept (steps.Press key) word = kept_press_in kept (running_entry kept.shared) key
  kept_next kept (steps.Tick ticks) word = kept_said kept (next_tick kept.shared ticks)
  kept_next kept (steps.Ask session question) word = kept_said kept (next_ask set.cipher kept.shared (has_pin kept.held) session question)
  kept_next kept steps.Off word = kept_said kept (next_off kept.shared)
  kept_next kept steps.Boot word = kept_said kept (next_boot kept.shared word)
