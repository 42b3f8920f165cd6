-- The flat machine: one step, and a run of steps. Open this file first. `next` has one line for each of the fourteen kinds of step; each leads to the file that defines it. Then read, in this order: State (what a state is; the rows of requests, sessions, line and entries are those of `request_queue`, `session_book`, `device_lock` and `entry_core`), Sessions and SessionSteps, RequestSteps, EntrySteps, Commands (what each command comes to) with Decisions, Imports, Crypts and PinCommands, FinishSteps (what is then done), Settings and Ciphers (what a run has from outside), Power and Arms; above them Twins, Kept, Sound, Histories, StoreHistory with KeyLayout, DiskSteps (what a step does to a disk), Deeds and DiskRuns (runs over a disk), and the words of the laws in Facts, DiskFacts, EveryRun, RequestFacts, RefusalFacts, SessionFacts, QueueFacts, KeyFacts, KeyRowFacts, AccessFacts, PinFacts, WorkFacts, EndingFacts, CompletionFacts, ArmFacts, Clearing and Disclosure.
use Rattle.entry_core.specs.Entries.{Entry, entry_of, is_secret}
use Rattle.flat_machine.specs.EntrySteps.{next_begin, next_press}
use Rattle.flat_machine.specs.FinishSteps.{next_finish, plan_finish, release_with}
use Rattle.flat_machine.specs.Power.{Loading, Nothing, Plan, fits_plan, loads, planned_calls, powers_off, word_fate}
use Rattle.flat_machine.specs.RequestSteps.{next_ask, next_cancel, next_submit, next_tick}
use Rattle.request_queue.specs.Requests.{eligible, gone_count, request_in_work}
use Rattle.request_queue.specs.declared.requests.Request.{Request}
use Rattle.flat_machine.specs.SessionSteps.{next_close, next_listen, next_lock, next_open, next_unlock}
use Rattle.device_lock.specs.LockLine.{holder_of}
use Rattle.flat_machine.specs.State.{After, Flat, Shared, Running, Said, after_said, device_number, is_off, opening, running_entry, unchanged}
use Rattle.flat_machine.specs.Settings.{Setting}
use Rattle.key_source.specs.declared.Key.{Key}
use Rattle.pad_steps.specs.Lines.{Line}
use Rattle.pad_steps.specs.declared.answers.Answer.{Answer}
use Rattle.pad_steps.specs.declared.commands.Command.{Command}
use Rattle.pad_steps.specs.declared.steps.DiskWord.{DiskWord}
use Rattle.pad_steps.specs.declared.steps.Step.{Step}
use Rattle.pad_words.specs.declared.numbers.Session.{Session}
use Rattle.std.specs.Prelude.{Bool, List, None, Option, Some, [], false, if◌then◌else◌, is_some, length, nat_lt, option_to_list, ℕ, ◌*◌, ◌++◌, ◌+◌, ◌∷◌}
use Rattle.pad_steps.specs.declared.steps.Step.TheVariants as steps

-- a step, and the word that says what the disk did in it
pub record Act : Type 0 where
  pub step : Step
  pub word : DiskWord

-- Off: nothing happens where the device is off
abbrev pub next_off : Shared → Said
next_off shared = if is_off shared.device then unchanged shared else powers_off shared

-- Boot: the store is loaded; nothing happens where the device is not off
abbrev pub next_boot : Shared → DiskWord → Said
next_boot shared word = if is_off shared.device then loads shared word else unchanged shared

-- a PIN is held
abbrev pub has_pin : List ℕ → Bool
has_pin held = nat_lt 0 (length held)

-- an entry runs, and the key is an active digit of its PIN
abbrev pub secret_in : Option Running → Key → Bool
secret_in None key = false
secret_in (Some current) key = is_secret current.entry key

-- the step is a press of an active digit of a PIN: it is printed without its key
abbrev pub is_masked : Shared → Step → Bool
is_masked shared (steps.Press key) = secret_in (running_entry shared) key
is_masked shared other = false

-- a command that is no entry is due to be finished; an entry waits for keys
abbrev pub due_finish : Option Entry → Option Step
due_finish None = Some steps.Finish
due_finish (Some entry) = None

-- the work that is due, from the request in work and the eligible one
abbrev pub due_in : Option (Request Command) → Option (Request Command) → Option Step
due_in (Some request) other = due_finish (entry_of request.command)
due_in None (Some request) = Some steps.Begin
due_in None None = None

-- the step that is due: Finish of a command in work that is no entry, or Begin where nothing is in work and a request is eligible
abbrev pub next_work : Shared → Option Step
next_work shared = due_in (request_in_work shared.requests) (eligible (holder_of shared.line) shared.requests)

-- the work that is due as a number: none 0, Begin 1, Finish 2
abbrev pub work_number : Option Step → ℕ
work_number None = 0
work_number (Some steps.Begin) = 1
work_number (Some other) = 2

-- the session that holds the lock as a number, 0 for none
abbrev pub holder_number : Option Session → ℕ
holder_number None = 0
holder_number (Some session) = session.number

-- 1 for yes, 0 for no
abbrev pub one_if : Bool → ℕ
one_if test = if test then 1 else 0

-- the state as one number: the device, 4 if an entry runs, 8 if a PIN is held, 16 times the work that is due, 64 times the lock's holder, 2,048 times the number of ended requests
abbrev pub status : Flat → ℕ
status state = device_number state.shared.device + 4 * one_if (is_some (running_entry state.shared)) + 8 * one_if (has_pin state.held) + 16 * work_number (next_work state.shared)
    + 64 * holder_number (holder_of state.shared.line) + 2048 * gone_count state.shared.requests

-- the step as it is printed; none for a masked press
abbrev pub shown_step : Shared → Step → Option Step
shown_step shared step = if is_masked shared step then None else Some step

module _ (set : Setting) where
  -- one step: the state after it, and what it says
  abbrev pub next : Flat → Step → DiskWord → After
  next state (steps.Open session) word = after_said state (next_open state.shared session)
  next state (steps.Close session) word = after_said state (next_close state.shared session)
  next state (steps.Listen session classes) word = after_said state (next_listen state.shared session classes)
  next state (steps.Lock session) word = after_said state (next_lock state.shared session)
  next state (steps.Unlock session) word = after_said state (next_unlock state.shared session)
  next state (steps.Submit session limit command) word = after_said state (next_submit set.pin_rules state.shared session limit command)
  next state (steps.Cancel session id) word = after_said state (next_cancel state.shared session id)
  next state steps.Begin word = after_said state (next_begin state.shared)
  next state steps.Finish word = after_said state (next_finish set state.shared state.held word)
  next state (steps.Press key) word = next_press set.cipher state key
  next state (steps.Tick ticks) word = after_said state (next_tick state.shared ticks)
  next state (steps.Ask session question) word = after_said state (next_ask set.cipher state.shared (has_pin state.held) session question)
  next state steps.Off word = after_said state (next_off state.shared)
  next state steps.Boot word = after_said state (next_boot state.shared word)

  -- the device calls that a step makes if none is struck: a Boot loads, a Finish as its command does, no other step makes any
  abbrev pub plan : Shared → Step → Plan
  plan shared steps.Finish = plan_finish set shared (request_in_work shared.requests)
  plan shared steps.Boot = if is_off shared.device then Loading else Nothing
  plan shared other = Nothing

  -- how many these are
  abbrev pub planned : Shared → Step → ℕ
  planned shared step = planned_calls (plan shared step)

  -- the word is one that the step may have in this state
  abbrev pub fits : Shared → Step → DiskWord → Bool
  fits shared step word = fits_plan (plan shared step) word

  -- the value that a step releases: that of a Finish of a PIN command that is not refused
  abbrev pub release : Flat → Step → Option Answer
  release state steps.Finish = release_with set state.shared state.held (request_in_work state.shared.requests)
  release state other = None

  -- the state after a run from a state
  abbrev pub run_from : Flat → List Act → Flat
  run_from state [] = state
  run_from state (act ∷ acts) = run_from (next state act.step act.word).state acts

  -- the state after a run from the opening
  abbrev pub run : List Act → Flat
  run acts = run_from opening acts

  -- what is printed of a step: the step, its word, the fate of a loading, and what was said
  abbrev pub line_of : Flat → Act → Line
  line_of state act = record { shown = shown_step state.shared act.step; word = act.word; fate = word_fate state.shared act.word; outs = (next state act.step act.word).outs }

  -- what is printed of a run
  abbrev pub lines_from : Flat → List Act → List Line
  lines_from state [] = []
  lines_from state (act ∷ acts) = line_of state act ∷ lines_from (next state act.step act.word).state acts

  -- the values that a run releases, in order: the results that were answered, which twins must have in common
  abbrev pub releases_from : Flat → List Act → List Answer
  releases_from state [] = []
  releases_from state (act ∷ acts) = option_to_list (release state act.step) ++ releases_from (next state act.step act.word).state acts
