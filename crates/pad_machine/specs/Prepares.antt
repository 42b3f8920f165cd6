-- What a prepared step does, and what it needs.
use Rattle.device_lock.specs.LockLine.{holder_of, holds, locked_out}
use Rattle.entry_core.specs.Entries.{Entry, is_key_part, is_pin}
use Rattle.flat_machine.specs.Commands.{erase, work_of}
use Rattle.flat_machine.specs.Crypts.{crypt_work}
use Rattle.flat_machine.specs.DiskSteps.{switched}
use Rattle.flat_machine.specs.FinishSteps.{performs, plan_of, resets}
use Rattle.flat_machine.specs.Imports.{import_work}
use Rattle.flat_machine.specs.Kept.{KeptAfter, kept_next, kept_press_in, kept_said}
use Rattle.flat_machine.specs.Machine.{plan}
use Rattle.flat_machine.specs.PinCommands.{pin_work}
use Rattle.flat_machine.specs.Power.{Loading, Nothing, Plan, loads, powers_off}
use Rattle.flat_machine.specs.RequestSteps.{is_part_count, or_locked}
use Rattle.flat_machine.specs.Sessions.{execute_event}
use Rattle.flat_machine.specs.Settings.{Setting}
use Rattle.flat_machine.specs.State.{Said, Shared, dropping_presses, is_off, owner_of, running_entry, says, unchanged}
use Rattle.flat_machine.specs.declared.types.Owner.{Owner}
use Rattle.flat_machine.specs.declared.types.Work.TheVariants as work
use Rattle.flat_machine.specs.declared.types.Work.{Work}
use Rattle.key_attributes.specs.declared.KeyRow.{KeyRow}
use Rattle.key_source.specs.declared.Key.{Key}
use Rattle.key_table.specs.KeyRows.{KeyRows, slot_of}
use Rattle.flat_machine.specs.WorkFacts.{is_reset}
use Rattle.pad_machine.specs.Endings.{cancels, closes, lines_up, meant_in, ticks_to, unlocks}
use Rattle.pad_machine.specs.Memory.{pending_in_all}
use Rattle.pad_machine.specs.Stands.{Common, Whole, is_admitted, kept_by, running_of, set_by, shared_of}
use Rattle.pad_machine.specs.declared.endings.Ending.TheVariants as ending
use Rattle.pad_machine.specs.declared.keyless.KeylessStep.TheVariants as keyless
use Rattle.pad_machine.specs.declared.keyless.KeylessStep.{KeylessStep}
use Rattle.pad_machine.specs.declared.prepared.Prepared.TheVariants as prepared
use Rattle.pad_machine.specs.declared.prepared.Prepared.{Prepared}
use Rattle.pad_machine.specs.declared.running_entry.RunningEntry.{RunningEntry}
use Rattle.pad_steps.specs.Lines.{OutList}
use Rattle.pad_steps.specs.Formed.{is_well_formed_command}
use Rattle.pad_steps.specs.declared.answers.Answer.{Answer}
use Rattle.pad_steps.specs.declared.answers.Event.TheVariants as events
use Rattle.pad_steps.specs.declared.answers.Out.TheVariants as out
use Rattle.pad_steps.specs.declared.answers.Refusal.TheVariants as refusals
use Rattle.pad_steps.specs.declared.answers.Refusal.{Refusal}
use Rattle.pad_steps.specs.declared.answers.Reply.TheVariants as replied
use Rattle.pad_steps.specs.declared.answers.Told.TheVariants as told
use Rattle.pad_steps.specs.declared.commands.Command.TheVariants as commands
use Rattle.pad_steps.specs.declared.commands.Command.{Command}
use Rattle.pad_steps.specs.declared.steps.DiskWord.{DiskWord}
use Rattle.pad_steps.specs.declared.steps.Step.TheVariants as steps
use Rattle.pad_steps.specs.declared.steps.Step.{Step}
use Rattle.pad_words.specs.declared.NoMemory.{NoMemory}
use Rattle.pad_words.specs.declared.numbers.Session.{Session}
use Rattle.pin_blocks.specs.PinRules.{PinRules}
use Rattle.pad_steps.specs.declared.answers.Reply.{Reply}
use Rattle.request_queue.specs.declared.requests.RequestRow.{RequestRow}
use Rattle.request_queue.specs.Requests.{HasIds, begun, eligible, pending_by_id, pending_count, refused_at_begin, request_id, request_in_work, submitted}
use Rattle.session_book.specs.Rising.{opened}
use Rattle.session_book.specs.Sessions.{is_open, with_classes, with_session}
use Rattle.std.specs.Global.{Vec}
use Rattle.std.specs.Option.{option_map}
use Rattle.std.specs.Prelude.{Bool, Err, IsNone, IsSome, IsTrue, List, None, Ok, Option, Result, Some, [], false, if◌then◌else◌, is_some, length, max, nat_le, not, true, vec_capacity, ℕ, ◌+◌, ◌<◌, ◌≡◌, ◌≤◌, ◌||◌}

-- the step that was seen without its key, with this key
abbrev pub with_key : KeylessStep → Key → Step
with_key keyless.Press key = steps.Press key
with_key (keyless.Open session) key = steps.Open session
with_key (keyless.Close session) key = steps.Close session
with_key (keyless.Lock session) key = steps.Lock session
with_key (keyless.Unlock session) key = steps.Unlock session
with_key (keyless.Listen session classes) key = steps.Listen session classes
with_key (keyless.Submit session limit command) key = steps.Submit session limit command.now
with_key (keyless.Cancel session id) key = steps.Cancel session id
with_key keyless.Begin key = steps.Begin
with_key keyless.Finish key = steps.Finish
with_key (keyless.Tick ticks) key = steps.Tick ticks
with_key (keyless.Ask session question) key = steps.Ask session question.now
with_key keyless.Off key = steps.Off
with_key keyless.Boot key = steps.Boot

-- the command of a Submit is well formed
abbrev pub IsFormed : KeylessStep → Type 0
IsFormed (keyless.Submit session limit command) = IsTrue (is_well_formed_command command.now)
IsFormed other = Unit {0}

-- the key that a step presses
abbrev pub pressed : Step → Option Key
pressed (steps.Press key) = Some key
pressed other = None

-- what has from outside all that commands are decided by: no fill word is used for it
abbrev pub deciding : PinRules → Setting
deciding pin_rules = set_by pin_rules []

module _ (set : Setting) where
  -- the effect of a prepared step that is no press, by the word of its device calls
  abbrev pub said_of : Prepared → Shared → List ℕ → DiskWord → Said
  said_of (prepared.Say only) shared held word = says shared only
  said_of (prepared.Open session) shared held word = says
      (record shared { sessions = with_session (opened session (length shared.requests)) shared.sessions })
      (out.Told session told.Opened)
  said_of (prepared.Close session) shared held word = closes session shared
  said_of (prepared.Lock session) shared held word = lines_up session shared
  said_of (prepared.Unlock session) shared held word = unlocks session shared
  said_of (prepared.Cancel session floor id count) shared held word = cancels session floor id count shared
  said_of (prepared.Tick clock) shared held word = ticks_to clock shared
  said_of (prepared.Submit session limit command) shared held word = says
      (record shared { requests = submitted session shared.clock limit command shared.requests })
      (out.Request session (length shared.requests + 1))
  said_of (prepared.Listen session classes) shared held word = says (record shared { sessions = with_classes session classes shared.sessions }) (out.Told session (told.Listening classes))
  said_of (prepared.Begin id) shared held word = dropping_presses true (unchanged (record shared { requests = begun (holder_of shared.line) shared.requests }))
  said_of (prepared.RefuseEntry owner refusal) shared held word = dropping_presses true (says
      (record shared { requests = refused_at_begin (replied.No refusal) (holder_of shared.line) shared.requests })
      (out.Ended owner.session owner.id (replied.No refusal)))
  said_of (prepared.StartEntry owner kind) shared held word = record {
    shared = record shared { requests = begun (holder_of shared.line) shared.requests; part = if is_key_part kind then [] else shared.part };
    outs = execute_event shared.sessions owner.session events.EnterData;
    drops_pin = is_pin kind;
    drops_presses = true;
  }
  said_of (prepared.Finish owner work told) shared held word = performs set shared held owner work word
  said_of (prepared.Reset owner kept) shared held word = resets owner word shared
  said_of (prepared.Boot kept) shared held word = loads shared word
  said_of prepared.Off shared held word = powers_off shared
  said_of other shared held word = unchanged shared

module _ (pin_rules : PinRules) where
  -- what is kept after a press of this key for which this was prepared, and what it says
  abbrev pub press_effect : Whole → Key → Prepared → DiskWord → KeptAfter
  press_effect whole key (prepared.Press current) word = kept_press_in (set_by pin_rules whole.seed) (kept_by whole) (Some (running_of current)) key
  press_effect whole key other word = kept_said (kept_by whole) (said_of (set_by pin_rules whole.seed) other (shared_of whole.common) whole.held word)

  -- what is kept after a step for which this was prepared, and what it says; a press has a key
  abbrev pub effect_of : Option Key → Whole → Prepared → DiskWord → KeptAfter
  effect_of None whole prepared word = kept_said (kept_by whole) (said_of (set_by pin_rules whole.seed) prepared (shared_of whole.common) whole.held word)
  effect_of (Some key) whole prepared word = press_effect whole key prepared word

-- the device calls of a prepared step
abbrev pub calls_of : Shared → Prepared → Plan
calls_of shared (prepared.Finish owner work told) = plan_of shared work
calls_of shared (prepared.Reset owner kept) = Loading
calls_of shared (prepared.Boot kept) = Loading
calls_of shared other = Nothing

-- the prepared step makes no device call, and leaves the disk as it is
abbrev pub is_plain : Prepared → Bool
is_plain (prepared.Finish owner work told) = false
is_plain (prepared.Reset owner kept) = false
is_plain (prepared.Boot kept) = false
is_plain prepared.Off = false
is_plain other = true

-- what a prepared step makes of it whether the disk is off
abbrev pub switch_of : Prepared → Bool → Bool
switch_of (prepared.Boot kept) was = false
switch_of prepared.Off was = true
switch_of other was = was

-- what a step plans for the disk is what was prepared
pub record IsPlanned (set : Setting) (shared : Shared) (prepared : Prepared) (step : Step) : Type 0 where
  pub calls : plan set shared step ≡ calls_of shared prepared
  pub switch : (was : Bool) → switched shared step was ≡ switch_of prepared was

-- the places among the outs that it may fill
abbrev pub places_of : Common → Prepared → ℕ
places_of common prepared.Nothing = 0
places_of common (prepared.Finish owner work told) = max (length common.sessions + 1) (pending_in_all common.requests)
places_of common (prepared.Reset owner kept) = max (length common.sessions + 1) (pending_in_all common.requests)
places_of common (prepared.Boot kept) = pending_in_all common.requests
places_of common prepared.Off = pending_in_all common.requests
places_of common (prepared.Close session) = pending_count session common.requests + 2
places_of common (prepared.Unlock session) = 2
places_of common (prepared.Cancel session floor id count) = length (meant_in (ending.Named session floor id) common.requests) + 1
places_of common (prepared.Tick clock) = pending_in_all common.requests
places_of common (prepared.Press running_entry) = 2
places_of common other = 1

-- why a Submit of the session is refused, before its command is looked at
abbrev pub session_refusal : Shared → Session → Option Refusal
session_refusal shared session = if not (is_open session shared.sessions) then Some refusals.NoSession
    else if is_off shared.device then Some refusals.ConnectionLost
    else or_locked (locked_out session shared.line)
    (if nat_le 16 (pending_count session shared.requests) then Some (refusals.QueueFull 16) else None)

-- whose the request is that comes into work next; none where one is in work
abbrev pub next_owner : Shared → Option Owner
next_owner shared = if is_off shared.device || is_some (request_in_work shared.requests) then None else option_map owner_of (eligible (holder_of shared.line) shared.requests)

-- the answer that a work tells once more
abbrev pub told_of : Work → Option Answer
told_of (work.Answer answer) = Some answer
told_of other = None

-- what a command comes to that the device does not refuse; others wait
abbrev pub ready_work : Setting → Shared → ℕ → Command → Work
ready_work set shared count (commands.MaintainPin on) = work.Maintain on
ready_work set shared count (commands.Pin request) = pin_work set.pin_rules shared.keys count request
ready_work set shared count (commands.Crypt request) = crypt_work set.cipher shared.keys request
ready_work set shared count (commands.ImportKey request) = import_work set.cipher shared.keys shared.part request
ready_work set shared count (commands.DeleteKey name) = erase (slot_of name shared.keys)
ready_work set shared count commands.Init = work.EraseAll
ready_work set shared count other = work.Waits

-- this is the id of the request that comes into work next
pub record IsNext (common : Common) (id : ℕ) : Type 0 where
  pub ids : HasIds common.requests
  pub idle : IsNone (request_in_work common.requests)
  pub next : option_map request_id (eligible (holder_of common.line) common.requests) ≡ Some id
  pub pending : IsSome (pending_by_id id common.requests)
  pub same : pending_by_id id common.requests ≡ eligible (holder_of common.line) common.requests

-- this is the id of the request in work
pub record IsInWork (requests : List (RequestRow Command Reply)) (id : ℕ) : Type 0 where
  pub ids : HasIds requests
  pub work : option_map request_id (request_in_work requests) ≡ Some id
  pub pending : IsSome (pending_by_id id requests)
  pub same : pending_by_id id requests ≡ request_in_work requests

-- requests and sessions are the same
pub record KeepsRequests (old new : Common) : Type 0 where
  pub requests : new.requests ≡ old.requests
  pub sessions : new.sessions ≡ old.sessions

-- a list of the rows that are kept, with room to change one of them and to take all that a store has
pub record IsCopy (rows : KeyRows) (kept : Vec (ℕ × KeyRow)) : Type 0 where
  pub items : kept.items ≡ rows
  pub few : length rows ≤ 64
  pub room : 65 ≤ vec_capacity kept

-- nothing is changed but places
pub record IsUnready (old new : Common) (before after : OutList) : Type 0 where
  pub state : shared_of new ≡ shared_of old
  pub store : new.store ≡ old.store
  pub items : after.items ≡ before.items

-- an entry of a key part takes 16, 32 or 48 digits, and no fewer
pub record IsPartSized (entry : Entry) : Type 0 where
  pub count : is_key_part entry.kind ≡ true → is_part_count entry.greatest ≡ true
  pub whole : is_key_part entry.kind ≡ true → entry.least ≡ entry.greatest

-- the request in work is of this owner, and runs this entry
pub record IsRunning (common : Common) (current : RunningEntry) : Type 0 where
  pub at : IsInWork common.requests current.owner.id
  pub runs : running_entry (shared_of common) ≡ Some (running_of current)
  pub part : IsPartSized current.entry

-- a request more may wait, and there is room for it
pub record MaySubmit (common : Common) (session : Session) : Type 0 where
  pub room : 0 < common.room
  pub few : pending_count session common.requests < 16
  pub ids : length common.requests < 4294967294

-- RESET is in work, and is of this owner
pub record IsReset (common : Common) (owner : Owner) (kept : Vec (ℕ × KeyRow)) : Type 0 where
  pub at : IsInWork common.requests owner.id
  pub on : is_off common.device ≡ false
  pub copy : IsCopy common.store.rows kept

module _ (pin_rules : PinRules) where
  -- the request in work is of this owner, and its command, which may wait and is not RESET, comes to this work; its answer stands there once more
  pub record IsDecided (common : Common) (count : ℕ) (owner : Owner) (work : Work) (told : Option Answer) : Type 0 where
    pub at : IsInWork common.requests owner.id
    pub on : is_off common.device ≡ false
    pub command : Command
    pub admitted : IsTrue (is_admitted pin_rules command)
    pub reset : is_reset command ≡ false
    pub is : work ≡ work_of (deciding pin_rules) (shared_of common) count command
    pub same : told ≡ told_of work

  -- what a prepared step needs of the state and of the number of digits held
  abbrev pub IsPrepared : Common → ℕ → Prepared → Type 0
  IsPrepared common count (prepared.Open session) = is_open session common.sessions ≡ false
  IsPrepared common count (prepared.Unlock session) = holds session common.line ≡ true
  IsPrepared common count (prepared.Submit session limit command) = MaySubmit common session
  IsPrepared common count (prepared.Begin id) = IsNext common id
  IsPrepared common count (prepared.RefuseEntry owner refusal) = IsNext common owner.id
  IsPrepared common count (prepared.StartEntry owner kind) = IsNext common owner.id
  IsPrepared common count (prepared.Finish owner work told) = IsDecided common count owner work told
  IsPrepared common count (prepared.Reset owner kept) = IsReset common owner kept
  IsPrepared common count (prepared.Boot kept) = (is_off common.device ≡ true) × IsCopy common.store.rows kept
  IsPrepared common count prepared.Off = is_off common.device ≡ false
  IsPrepared common count (prepared.Press current) = IsRunning common current
  IsPrepared common count other = Unit {0}

  -- a step was prepared: nothing is changed but places, and they suffice; what is prepared suits the state
  pub record IsReady (old new : Common) (held : ℕ) (before after : OutList) (prepared : Prepared) : Type 0 where
    pub state : shared_of new ≡ shared_of old
    pub store : new.store ≡ old.store
    pub items : after.items ≡ before.items
    pub room : places_of new prepared ≤ after.spare
    pub fits : IsPrepared new held prepared

  -- a step is prepared at any number of held digits, or nothing is changed but places
  abbrev pub Prepares : Common → Common → OutList → OutList → Result Prepared NoMemory → Type 0
  Prepares old new before after (Ok prepared) = (held : ℕ) → IsReady old new held before after prepared
  Prepares old new before after (Err no_memory) = IsUnready old new before after

  -- with these digits it comes to this effect, whatever the seed and the word
  abbrev pub ComesTo : Common → ℕ → Prepared → (List ℕ → Shared → List ℕ → DiskWord → Said) → Type 0
  ComesTo common held prepared effect = (seed digits : List ℕ) (word : DiskWord) → length digits ≡ held
      → said_of (set_by pin_rules seed) prepared (shared_of common) digits word ≡ effect seed (shared_of common) digits word

  -- with any digits of this number it comes to the machine's step
  abbrev pub IsStep : Common → ℕ → Prepared → Step → Type 0
  IsStep common held prepared taken = (whole : Whole) (word : DiskWord) → whole.common ≡ common → length whole.held ≡ held
      → effect_of pin_rules (pressed taken) whole prepared word ≡ kept_next (set_by pin_rules whole.seed) (kept_by whole) taken word

  -- with any digits it comes to this effect
  abbrev pub AlwaysComesTo : Common → (Shared → DiskWord → Said) → Prepared → Type 0
  AlwaysComesTo common effect prepared = (held : ℕ) → ComesTo common held prepared (λ seed shared digits word. effect shared word)
