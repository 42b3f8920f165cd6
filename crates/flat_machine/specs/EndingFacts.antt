-- Words for why a request ends, and for what is told of a refused one.
use Rattle.flat_machine.specs.AccessFacts.{Need, needs}
use Rattle.flat_machine.specs.DiskSteps.{is_failed}
use Rattle.flat_machine.specs.Machine.{Act, run_from}
use Rattle.flat_machine.specs.RequestFacts.{Ending, endings}
use Rattle.flat_machine.specs.Decisions.{denial}
use Rattle.flat_machine.specs.Settings.{Setting}
use Rattle.flat_machine.specs.State.{After, Flat, Shared}
use Rattle.flat_machine.specs.declared.types.Device.TheVariants.{Stopped}
use Rattle.key_table.specs.Permits.{permit}
use Rattle.key_table.specs.declared.Denied.{Denied}
use Rattle.pin_blocks.specs.PinRules.{PinRules}
use Rattle.request_queue.specs.Requests.{is_due, pending_where, request_in_work}
use Rattle.request_queue.specs.declared.requests.Request.{Request}
use Rattle.request_queue.specs.declared.requests.RequestRow.{RequestRow}
use Rattle.request_queue.specs.declared.requests.RequestRow.TheVariants.{Gone, InWork}
use Rattle.pad_steps.specs.declared.answers.Event.{Event}
use Rattle.pad_steps.specs.declared.answers.Event.TheVariants as events
use Rattle.pad_steps.specs.declared.answers.Out.{Out}
use Rattle.pad_steps.specs.declared.answers.Out.TheVariants as out
use Rattle.pad_steps.specs.declared.answers.Refusal.{Refusal}
use Rattle.pad_steps.specs.declared.answers.Refusal.TheVariants as refusals
use Rattle.pad_steps.specs.declared.answers.Reply.{Reply}
use Rattle.pad_steps.specs.declared.answers.Reply.TheVariants as replied
use Rattle.pad_steps.specs.declared.commands.Command.{Command}
use Rattle.pad_steps.specs.declared.commands.Command.TheVariants as commands
use Rattle.pad_steps.specs.declared.steps.Step.{Step}
use Rattle.pad_steps.specs.declared.steps.Step.TheVariants as steps
use Rattle.pad_words.specs.Numbers.{same_session}
use Rattle.pad_words.specs.declared.numbers.Session.{Session}
use Rattle.pad_steps.specs.declared.steps.Class.TheVariants as class
use Rattle.session_book.specs.Sessions.{hearers}
use Rattle.std.specs.List.{slice_get}
use Rattle.std.specs.Prelude.{Bool, Contains, Err, List, Some, [], false, map, true, ℕ, ◌++◌, ◌+◌, ◌∷◌, ◌≡◌}

-- the one end of this request, with this reply
abbrev pub one_end : Request Command → Reply → List Ending
one_end request reply = record { id = request.id; session = request.session; reply = reply } ∷ []

-- outs tell this end, and it is this refusal
pub record TellsRefusal (outs : List Out) (ending : Ending) (why : Refusal) : Type 0 where
  pub told : Contains (endings outs) ending
  pub reply : ending.reply ≡ replied.No why

-- the step is a Tick at which the request that ends has reached its limit
pub record HasReachedLimit (state : Flat) (step : Step) (ending : Ending) : Type 0 where
  pub ticks : ℕ
  pub tick : step ≡ steps.Tick ticks
  pub request : Request Command
  pub due : Contains (pending_where (is_due (state.shared.clock + ticks)) state.shared.requests) request
  pub id : ending.id ≡ request.id
  pub session : ending.session ≡ request.session

-- the step is a Cancel or the Close of the session
abbrev pub cancels_of : Session → Step → Bool
cancels_of session (steps.Cancel other id) = same_session other session
cancels_of session (steps.Close other) = same_session other session
cancels_of session other = false

-- a device call failed in the run, and at every moment since then the device is stopped
pub record IsStoppedSince (set : Setting) (state : Flat) (acts : List Act) : Type 0 where
  pub before : List Act
  pub act : Act
  pub after : List Act
  pub parts : acts ≡ before ++ act ∷ after
  pub failed : is_failed act.word ≡ true
  pub stopped : (since later : List Act) → since ++ later ≡ after → (run_from set state (before ++ act ∷ since)).shared.device ≡ Stopped

-- one of the three refusals of a key's use
abbrev pub is_denial : Refusal → Bool
is_denial refusals.KeyNotFound = true
is_denial refusals.KeyNoValue = true
is_denial refusals.UseViolation = true
is_denial other = false

-- the command is a deletion
abbrev pub is_deletion : Command → Bool
is_deletion (commands.DeleteKey name) = true
is_deletion other = false

-- the command needs the key of this name for a use that it is denied for this reason
pub record IsDenied (pin_rules : PinRules) (shared : Shared) (command : Command) (name : List ℕ) (why : Refusal) : Type 0 where
  pub wanted : Need
  pub needed : Contains (needs pin_rules command) wanted
  pub named : wanted.name ≡ name
  pub denied : Denied
  pub found : permit shared.keys wanted.name wanted.wanted ≡ Err denied
  pub reason : denial denied ≡ why

-- what an out tells of an accused key: the session that hears it, the key's name, and the refusal
pub record Accusation : Type 0 where
  pub session : Session
  pub name : List ℕ
  pub why : Refusal

-- the accusation that an event is
abbrev pub accused_by : Session → Event → List Accusation
accused_by session (events.IllegalKeyAccess name why) = record { session = session; name = name; why = why } ∷ []
accused_by session other = []

-- the accusation that an out is
abbrev pub accusation_in : Out → List Accusation
accusation_in (out.Event session event) = accused_by session event
accusation_in other = []

-- the accusations among outs, in order
abbrev pub accusations : List Out → List Accusation
accusations [] = []
accusations (first ∷ outs) = accusation_in first ++ accusations outs

-- what every service listener hears of an accused key
abbrev pub heard_of : Shared → List ℕ → Refusal → List Accusation
heard_of shared name why = map (λ session. record { session = session; name = name; why = why }) (hearers class.Service shared.sessions)

-- the Finish ends the request in work with one of the three refusals of a key that it needs, and every service listener hears of that key
pub record IsAccused (pin_rules : PinRules) (state : Flat) (step : Step) (outs : List Out) : Type 0 where
  pub finish : step ≡ steps.Finish
  pub request : Request Command
  pub works : request_in_work state.shared.requests ≡ Some request
  pub name : List ℕ
  pub why : Refusal
  pub denied : IsDenied pin_rules state.shared request.command name why
  pub told : endings outs ≡ one_end request (replied.No why)
  pub heard : accusations outs ≡ heard_of state.shared name why

-- a step accuses no key, or this one
pub data Accuses (pin_rules : PinRules) (state : Flat) (step : Step) (outs : List Out) : Type 0 where
  NoneIsAccused : accusations outs ≡ [] → Accuses pin_rules state step outs
  SomeIsAccused : IsAccused pin_rules state step outs → Accuses pin_rules state step outs

-- the row of the request in work becomes gone with this reply, and every other row stays
pub record EndsItsRow (before after : List (RequestRow Command Reply)) (request : Request Command) (reply : Reply) : Type 0 where
  pub place : ℕ
  pub worked : slice_get before place ≡ Some (InWork request)
  pub ended : slice_get after place ≡ Some (Gone request.id request.session reply)
  pub others : (other : ℕ) → (other ≡ place → ⊥) → slice_get after other ≡ slice_get before other

-- the request in work is refused: its row alone changes, no PIN is dropped, no press is left, and the reply is told, and then these outs
pub record IsRefusedAlone (state : Flat) (request : Request Command) (why : Refusal) (heard : List Out) (after : After) : Type 0 where
  pub row : EndsItsRow state.shared.requests after.state.shared.requests request (replied.No why)
  pub shared : after.state.shared ≡ record state.shared { requests = after.state.shared.requests }
  pub held : after.state.held ≡ state.held
  pub presses : after.state.presses ≡ []
  pub said : after.outs ≡ out.Ended request.session request.id (replied.No why) ∷ heard
