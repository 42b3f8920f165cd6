-- Finish: what each kind of work does, what it calls of the disk, and what it releases.
use Rattle.flat_machine.specs.Commands.{work_of}
use Rattle.flat_machine.specs.Power.{Loading, Nothing, Plan, Replacing, loads, replaces}
use Rattle.request_queue.specs.Requests.{request_in_work}
use Rattle.flat_machine.specs.Sessions.{service_events}
use Rattle.flat_machine.specs.State.{Shared, Said, dropping_pin, owner_of, refuses, replies, unchanged, with_outs_after}
use Rattle.flat_machine.specs.Settings.{Setting}
use Rattle.flat_machine.specs.PinCommands.{pin_answer}
use Rattle.request_queue.specs.declared.requests.Request.{Request}
use Rattle.flat_machine.specs.declared.types.Owner.{Owner}
use Rattle.flat_machine.specs.declared.types.Device.{Device}
use Rattle.flat_machine.specs.declared.types.Device.TheVariants.{Bad, Off, Ready, Stopped}
use Rattle.flat_machine.specs.declared.types.Work.{Work}
use Rattle.flat_machine.specs.declared.types.Work.TheVariants as work
use Rattle.key_table.specs.Changes.{change_to, erasure, erasures}
use Rattle.pad_steps.specs.declared.answers.Answer.{Answer}
use Rattle.pad_steps.specs.declared.answers.Answer.TheVariants as answers
use Rattle.pad_steps.specs.declared.answers.Event.TheVariants as events
use Rattle.pad_steps.specs.declared.answers.Refusal.TheVariants as refusals
use Rattle.pad_steps.specs.declared.answers.Reply.{Reply}
use Rattle.pad_steps.specs.declared.answers.Reply.TheVariants as replied
use Rattle.pad_steps.specs.declared.commands.Command.{Command}
use Rattle.pad_steps.specs.declared.steps.DiskWord.{DiskWord}
use Rattle.pad_steps.specs.declared.steps.DiskWord.TheVariants as words
use Rattle.std.specs.Prelude.{Bool, List, None, Option, Some, [], false, if◌then◌else◌, length, not, true, ℕ, ◌+◌, ◌∷◌}

-- the request in work ends with this answer
abbrev pub answered : Shared → Owner → Answer → Said
answered shared owner answer = replies shared owner (replied.Ok answer)

-- MAINTAIN_PIN: sets the flag; off clears the held PIN
abbrev pub maintains : Owner → Bool → Shared → Said
maintains owner on shared = dropping_pin (not on) (answered (record shared { maintain = on }) owner answers.Done)

-- an import, done: the check value is answered, and an import from the part buffer empties it
abbrev pub imports : Owner → Option (List ℕ) → Bool → Shared → Said
imports owner check from_part shared = answered (record shared { part = if from_part then [] else shared.part }) owner (answers.Key check)

-- a deletion, done
abbrev pub deletes : Owner → Shared → Said
deletes owner shared = answered shared owner answers.Done

-- INITIALIZATION, done: the held PIN and the part buffer are cleared, and INITIALIZED is sent after the reply; maintain stays
abbrev pub inits : Owner → Shared → Said
inits owner shared = dropping_pin true (with_outs_after (service_events shared.sessions events.Initialized) (answered (record shared { part = [] }) owner answers.Done))

-- a PIN command that answers has drawn its fill words, and the held PIN is dropped unless it is maintained
abbrev pub releases : Owner → ℕ → Answer → Shared → Said
releases owner draws answer shared = dropping_pin (not shared.maintain) (answered (record shared { drawn = shared.drawn + draws }) owner answer)

-- the reply of RESET, by the device after it
abbrev pub device_reply : Device → Reply
device_reply Off = replied.Ok answers.Done
device_reply Ready = replied.Ok answers.Done
device_reply Stopped = replied.No refusals.HardwareError
device_reply (Bad slot) = replied.No (refusals.BadStore slot)

-- RESET is answered by the device after its loading; a cut answers as any cut
abbrev pub reset_with : Owner → DiskWord → Said → Said
reset_with owner (words.Cut count) loaded = loaded
reset_with owner other loaded = replies loaded.shared owner (device_reply loaded.shared.device)

-- RESET: whatever its word, the held PIN and the part buffer are cleared and maintain is off
abbrev pub resets : Owner → DiskWord → Shared → Said
resets owner word shared = dropping_pin true (reset_with owner word (loads (record shared { part = []; maintain = false }) word))

-- the device calls of a work
abbrev pub plan_of : Shared → Work → Plan
plan_of shared (work.Keep slot row check from_part) = Replacing (change_to (slot, row) ∷ [])
plan_of shared (work.Erase slot) = Replacing (erasure slot ∷ [])
plan_of shared work.EraseAll = Replacing (erasures shared.keys)
plan_of shared work.Load = Loading
plan_of shared other = Nothing

module _ (set : Setting) where
  -- what a work does to the request in work and the rest, with what came of its device calls. The digits are used for the answer of a PIN command alone
  abbrev pub performs : Shared → List ℕ → Owner → Work → DiskWord → Said
  performs shared held owner work.Waits word = unchanged shared
  performs shared held owner (work.Refuse refusal accused) word = refuses shared owner refusal accused
  performs shared held owner (work.Answer answer) word = answered shared owner answer
  performs shared held owner (work.Maintain on) word = maintains owner on shared
  performs shared held owner (work.Keep slot row check from_part) word = replaces shared owner (change_to (slot, row) ∷ []) (imports owner check from_part) word
  performs shared held owner (work.Erase slot) word = replaces shared owner (erasure slot ∷ []) (deletes owner) word
  performs shared held owner work.EraseAll word = replaces shared owner (erasures shared.keys) (inits owner) word
  performs shared held owner (work.Release wanted first second draws) word = releases owner draws (pin_answer set shared.drawn held wanted first second draws) shared
  performs shared held owner work.Load word = resets owner word shared

  -- the value that a work releases
  abbrev pub released : Shared → List ℕ → Work → Option Answer
  released shared held (work.Release wanted first second draws) = Some (pin_answer set shared.drawn held wanted first second draws)
  released shared held other = None

  -- nothing happens where no request is in work
  abbrev pub finish_with : Shared → List ℕ → Option (Request Command) → DiskWord → Said
  finish_with shared held None word = unchanged shared
  finish_with shared held (Some request) word = performs shared held (owner_of request) (work_of set shared (length held) request.command) word

  -- Finish: the request in work is decided and done
  abbrev pub next_finish : Shared → List ℕ → DiskWord → Said
  next_finish shared held word = finish_with shared held (request_in_work shared.requests) word

  -- the value that the request in work releases
  abbrev pub release_with : Shared → List ℕ → Option (Request Command) → Option Answer
  release_with shared held None = None
  release_with shared held (Some request) = released shared held (work_of set shared (length held) request.command)

  -- the device calls of the request in work. They are the same at every number of digits held
  abbrev pub plan_finish : Shared → Option (Request Command) → Plan
  plan_finish shared None = Nothing
  plan_finish shared (Some request) = plan_of shared (work_of set shared 0 request.command)
