-- The machine's state, and what a step does to it. A digit of a PIN stands in two fields of `Flat` alone, `presses` and `held`: a step that cannot see them is a function on `Shared`.
use Rattle.entry_core.specs.Entries.{Entry, entry_of}
use Rattle.key_table.specs.Changes.{Change}
use Rattle.key_table.specs.KeyRows.{KeyRows}
use Rattle.request_queue.specs.Requests.{ended_where, finished, pending_where, request_in_work}
use Rattle.request_queue.specs.declared.requests.Request.{Request}
use Rattle.flat_machine.specs.declared.types.Owner.{Owner}
use Rattle.request_queue.specs.declared.requests.RequestRow.{RequestRow}
use Rattle.flat_machine.specs.Sessions.{service_events}
use Rattle.flat_machine.specs.declared.types.Device.{Device}
use Rattle.flat_machine.specs.declared.types.Device.TheVariants.{Bad, Off, Ready, Stopped}
use Rattle.session_book.specs.declared.sessions.SessionRow.{SessionRow}
use Rattle.key_source.specs.declared.Key.{Key}
use Rattle.pad_steps.specs.declared.commands.Command.{Command}
use Rattle.pad_steps.specs.declared.answers.Out.{Out}
use Rattle.pad_steps.specs.declared.answers.Refusal.{Refusal}
use Rattle.pad_steps.specs.declared.answers.Reply.{Reply}
use Rattle.pad_words.specs.declared.numbers.Session.{Session}
use Rattle.std.specs.Prelude.{Bool, List, None, Option, Some, [], false, if◌then◌else◌, map, true, ℕ, ◌++◌, ◌||◌, ◌∷◌}
use Rattle.pad_steps.specs.declared.answers.Out.TheVariants as out
use Rattle.pad_steps.specs.declared.answers.Reply.TheVariants as replied
use Rattle.pad_steps.specs.declared.answers.Event.TheVariants as events
use Rattle.pad_steps.specs.declared.answers.Refusal.TheVariants as refusals

-- what twins share, key values and released answers with it: all of the state that no digit of a PIN reaches. It is the device; the key rows; the slot in doubt with the row that it was to get; whether a loading succeeded in this run; the open sessions; the line for the lock; all requests of the run; the clock in ticks; the part buffer as nibbles; whether a used PIN is maintained; and how many fill words were drawn
pub record Shared : Type 0 where
  pub device : Device
  pub keys : KeyRows
  pub doubt : Option Change
  pub loaded : Bool
  pub sessions : List SessionRow
  pub line : List Session
  pub requests : List (RequestRow Command Reply)
  pub clock : ℕ
  pub part : List ℕ
  pub maintain : Bool
  pub drawn : ℕ

-- a state: the shared part, the active keys pressed in the running entry with the latest first, and the digits of the held PIN, empty for none
pub record Flat : Type 0 where
  pub shared : Shared
  pub presses : List Key
  pub held : List ℕ

-- the shared part before the first step: the device off, every list empty, clock 0
abbrev pub blank : Shared
blank = record { device = Off; keys = []; doubt = None; loaded = false; sessions = []; line = []; requests = []; clock = 0; part = []; maintain = false; drawn = 0 }

-- the state before the first step: the machine is off
abbrev pub opening : Flat
opening = record { shared = blank; presses = []; held = [] }

-- a second state in which the laws let runs begin: the device is on, with an empty store
abbrev pub ready_opening : Flat
ready_opening = record { shared = record blank { device = Ready }; presses = []; held = [] }

-- a step's effect: the shared part after it, what it says in order, and whether the held PIN and the presses are dropped
pub record Said : Type 0 where
  pub shared : Shared
  pub outs : List Out
  pub drops_pin : Bool
  pub drops_presses : Bool

-- the shared part after, and these outs; PIN and presses stay
abbrev pub said : Shared → List Out → Said
said shared outs = record { shared = shared; outs = outs; drops_pin = false; drops_presses = false }

-- the shared part after, and one out
abbrev pub says : Shared → Out → Said
says shared only = said shared (only ∷ [])

-- nothing happens: the shared part stays and nothing is said
abbrev pub unchanged : Shared → Said
unchanged shared = said shared []

-- the effect with these outs before its own
abbrev pub with_outs_before : List Out → Said → Said
with_outs_before outs effect = record effect { outs = outs ++ effect.outs }

-- the effect, and the presses are dropped where the test holds
abbrev pub dropping_presses : Bool → Said → Said
dropping_presses test effect = record effect { drops_presses = test || effect.drops_presses }

-- the effect, and the held PIN is dropped where the test holds
abbrev pub dropping_pin : Bool → Said → Said
dropping_pin test effect = record effect { drops_pin = test || effect.drops_pin }

-- the effect with these outs after its own
abbrev pub with_outs_after : List Out → Said → Said
with_outs_after outs effect = record effect { outs = effect.outs ++ outs }

-- the state after a step, and what the step said
pub record After : Type 0 where
  pub state : Flat
  pub outs : List Out

-- an effect on a state: what is dropped becomes empty
abbrev pub after_said : Flat → Said → After
after_said state effect = record {
  state = record {
    shared = effect.shared;
    presses = if effect.drops_presses then [] else state.presses;
    held = if effect.drops_pin then [] else state.held;
  };
  outs = effect.outs;
}

-- the entry that runs: the id and the session of its request, and its rules
pub record Running : Type 0 where
  pub id : ℕ
  pub session : Session
  pub entry : Entry

-- a request in work runs the entry that its command asks for, if it asks for one
abbrev pub running_by : Request Command → Option Entry → Option Running
running_by request None = None
running_by request (Some entry) = Some (record { id = request.id; session = request.session; entry = entry })

-- the entry that the request in work runs, if there is one and it is an entry command
abbrev pub running_in : Option (Request Command) → Option Running
running_in None = None
running_in (Some request) = running_by request (entry_of request.command)

-- the entry that runs
abbrev pub running_entry : Shared → Option Running
running_entry shared = running_in (request_in_work shared.requests)

-- the device as a number: off 0, ready 1, stopped 2, bad 3
abbrev pub device_number : Device → ℕ
device_number Off = 0
device_number Ready = 1
device_number Stopped = 2
device_number (Bad slot) = 3

-- the device is off
abbrev pub is_off : Device → Bool
is_off Off = true
is_off other = false

-- the device is ready
abbrev pub is_ready : Device → Bool
is_ready Ready = true
is_ready other = false

-- HARDWAREERROR of a stopped device, BADSTORE of one whose store reads as bad
abbrev pub device_refusal : Device → Option Refusal
device_refusal Off = None
device_refusal Ready = None
device_refusal Stopped = Some refusals.HardwareError
device_refusal (Bad slot) = Some (refusals.BadStore slot)

-- there is a request in work, and it passes the test
abbrev pub work_ends : (Request Command → Bool) → Option (Request Command) → Bool
work_ends test None = false
work_ends test (Some request) = test request

-- the pending requests that pass the test end with this refusal, in order of their ids; the presses are dropped where the request in work is one of them
abbrev pub ends : (Request Command → Bool) → Refusal → Shared → Said
ends test refusal shared = dropping_presses (work_ends test (request_in_work shared.requests)) (said
    (record shared { requests = ended_where test (replied.No refusal) shared.requests })
    (map (λ request. out.Ended request.session request.id (replied.No refusal)) (pending_where test shared.requests)))

-- whose a request is, and its id
abbrev pub owner_of : Request Command → Owner
owner_of request = record { id = request.id; session = request.session }

-- the request in work ends with this reply
abbrev pub replies : Shared → Owner → Reply → Said
replies shared owner reply = dropping_presses true (says (record shared { requests = finished reply shared.requests }) (out.Ended owner.session owner.id reply))

-- every service listener hears ILLEGAL_KEY_ACCESS of the accused key; without one nothing is said
abbrev pub accuses : Shared → Option (List ℕ) → Refusal → List Out
accuses shared None refusal = []
accuses shared (Some name) refusal = service_events shared.sessions (events.IllegalKeyAccess name refusal)

-- the request in work ends with this refusal, and then service listeners hear of the key that it accuses
abbrev pub refuses : Shared → Owner → Refusal → Option (List ℕ) → Said
refuses shared owner refusal accused = with_outs_after (accuses shared accused refusal) (replies shared owner (replied.No refusal))
