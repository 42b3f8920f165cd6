-- The moments at which the held PIN and the part buffer change: words for the laws of how long they are kept.
use Rattle.entry_core.specs.Entries.{active_seen, entered, is_key_part, is_pin}
use Rattle.entry_core.specs.declared.seen.Seen.TheVariants.{Ended}
use Rattle.flat_machine.specs.Machine.{next}
use Rattle.flat_machine.specs.PinFacts.{EndsPin}
use Rattle.flat_machine.specs.RequestFacts.{endings}
use Rattle.flat_machine.specs.Settings.{Setting}
use Rattle.flat_machine.specs.State.{Flat, Running, Shared, is_off, running_entry}
use Rattle.key_import.specs.Imports.{is_part}
use Rattle.key_source.specs.Keys.{has_key}
use Rattle.key_source.specs.declared.Key.{Key}
use Rattle.pad_steps.specs.declared.answers.Answer.{Answer}
use Rattle.pad_steps.specs.declared.answers.Completion.{Completion}
use Rattle.pad_steps.specs.declared.answers.Reply.TheVariants as replied
use Rattle.pad_steps.specs.declared.answers.Shown.{Shown}
use Rattle.pad_steps.specs.declared.commands.Command.{Command}
use Rattle.pad_steps.specs.declared.commands.Command.TheVariants as commands
use Rattle.pad_steps.specs.declared.commands.EntryKind.{EntryKind}
use Rattle.pad_steps.specs.declared.commands.ImportRequest.{ImportRequest}
use Rattle.pad_steps.specs.declared.commands.PinRequest.{PinRequest}
use Rattle.pad_steps.specs.declared.steps.DiskWord.{DiskWord}
use Rattle.pad_steps.specs.declared.steps.Step.{Step}
use Rattle.pad_steps.specs.declared.steps.Step.TheVariants as steps
use Rattle.request_queue.specs.Requests.{request_in_work}
use Rattle.request_queue.specs.declared.requests.Request.{Request}
use Rattle.std.specs.Prelude.{Bool, None, Some, [], false, length, true, ◌∷◌, ◌≡◌}

-- a request with this command is in work
pub record CommandInWork (shared : Shared) (command : Command) : Type 0 where
  pub request : Request Command
  pub in_work : request_in_work shared.requests ≡ Some request
  pub asked : request.command ≡ command

-- a Finish answers the command in work: it tells the end of its request with this answer, and no other end
pub record IsAnswered (set : Setting) (state : Flat) (word : DiskWord) (command : Command) (answer : Answer) : Type 0 where
  pub at : CommandInWork state.shared command
  pub told : endings (next set state steps.Finish word).outs ≡ record { id = at.request.id; session = at.request.session; reply = replied.Ok answer } ∷ []

-- a Begin starts this entry: it runs after the step, and none ran before
pub record StartsEntry (set : Setting) (state : Flat) (word : DiskWord) (current : Running) : Type 0 where
  pub none : running_entry state.shared ≡ None
  pub runs : running_entry (next set state steps.Begin word).state.shared ≡ Some current

-- the key ends a running key part entry with this completion
pub record EndsPart (state : Flat) (key : Key) (current : Running) (completion : Completion) : Type 0 where
  pub runs : running_entry state.shared ≡ Some current
  pub of_part : is_key_part current.entry.kind ≡ true
  pub active : has_key current.entry.active key ≡ true
  pub shown : Shown
  pub ends : active_seen current.entry (length (entered current.entry state.presses)) key ≡ Ended shown completion

-- no PIN is held, the part buffer is empty, and a used PIN is not maintained
pub record HoldsNothing (state : Flat) : Type 0 where
  pub held : state.held ≡ []
  pub part : state.shared.part ≡ []
  pub maintain : state.shared.maintain ≡ false

-- the step ends with the device off, as after Off and after a cut
abbrev pub IsOffAfter : Setting → Flat → Step → DiskWord → Type 0
IsOffAfter set state step word = is_off (next set state step word).state.shared.device ≡ true

-- the moments at which the held PIN may change: a PIN entry starts; a key ends it; a PIN command is answered while maintain is off; MAINTAIN_PIN off is answered; INITIALIZATION is answered; RESET is finished, whatever its word; the device is off after the step
pub data ChangesPin (set : Setting) (state : Flat) (step : Step) (word : DiskWord) : Type 0 where
  PinStarts : (current : Running) → step ≡ steps.Begin → StartsEntry set state word current → is_pin current.entry.kind ≡ true → ChangesPin set state step word
  PinEnds : (key : Key) (current : Running) (completion : Completion) → step ≡ steps.Press key → EndsPin state key current completion → ChangesPin set state step word
  PinUsed : (request : PinRequest) (answer : Answer) → step ≡ steps.Finish → IsAnswered set state word (commands.Pin request) answer → state.shared.maintain ≡ false → ChangesPin set state step word
  PinUnmaintained : (answer : Answer) → step ≡ steps.Finish → IsAnswered set state word (commands.MaintainPin false) answer → ChangesPin set state step word
  PinInitialized : (answer : Answer) → step ≡ steps.Finish → IsAnswered set state word commands.Init answer → ChangesPin set state step word
  PinReset : step ≡ steps.Finish → CommandInWork state.shared commands.Reset → ChangesPin set state step word
  PinOff : IsOffAfter set state step word → ChangesPin set state step word

-- the moments at which the part buffer may change: a key part entry starts; a key ends it; an import from the part buffer is answered; INITIALIZATION is answered; RESET is finished, whatever its word; the device is off after the step
pub data ChangesPart (set : Setting) (state : Flat) (step : Step) (word : DiskWord) : Type 0 where
  PartStarts : (current : Running) → step ≡ steps.Begin → StartsEntry set state word current → is_key_part current.entry.kind ≡ true → ChangesPart set state step word
  PartEnds : (key : Key) (current : Running) (completion : Completion) → step ≡ steps.Press key → EndsPart state key current completion → ChangesPart set state step word
  PartImported : (request : ImportRequest) (answer : Answer) → step ≡ steps.Finish → IsAnswered set state word (commands.ImportKey request) answer → is_part request.source ≡ true → ChangesPart set state step word
  PartInitialized : (answer : Answer) → step ≡ steps.Finish → IsAnswered set state word commands.Init answer → ChangesPart set state step word
  PartReset : step ≡ steps.Finish → CommandInWork state.shared commands.Reset → ChangesPart set state step word
  PartOff : IsOffAfter set state step word → ChangesPart set state step word

-- what a step may leave of the held PIN and of the part buffer, by the state before it and the state after it

-- no PIN is held after it
abbrev pub ClearsPin : Flat → Flat → Type 0
ClearsPin before after = after.held ≡ []

-- no PIN is held after it, unless a used PIN is maintained, and then the same one
pub record UsesPin (before after : Flat) : Type 0 where
  pub once : before.shared.maintain ≡ false → after.held ≡ []
  pub maintained : before.shared.maintain ≡ true → after.held ≡ before.held

-- the held PIN is the same
abbrev pub KeepsPin : Flat → Flat → Type 0
KeepsPin before after = after.held ≡ before.held

-- the part buffer is empty after it
abbrev pub ClearsPart : Flat → Flat → Type 0
ClearsPart before after = after.shared.part ≡ []

-- the part buffer is the same
abbrev pub KeepsPart : Flat → Flat → Type 0
KeepsPart before after = after.shared.part ≡ before.shared.part

-- what is so of the states before and after, wherever a Begin starts an entry of such a kind
abbrev pub WhereStarted : (EntryKind → Bool) → (Flat → Flat → Type 0) → Type 0
WhereStarted of_kind So = (set : Setting) (state : Flat) (word : DiskWord) (current : Running) → StartsEntry set state word current → of_kind current.entry.kind ≡ true → So state (next set state steps.Begin word).state

-- wherever a Finish answers this command
abbrev pub WhereAnswered : Command → (Flat → Flat → Type 0) → Type 0
WhereAnswered command So = (set : Setting) (state : Flat) (word : DiskWord) (answer : Answer) → IsAnswered set state word command answer → So state (next set state steps.Finish word).state

-- wherever a Finish ends this command, answered or not
abbrev pub WhereFinished : Command → (Flat → Flat → Type 0) → Type 0
WhereFinished command So = (set : Setting) (state : Flat) (word : DiskWord) → CommandInWork state.shared command → So state (next set state steps.Finish word).state

-- a key that ends a key part entry leaves the digits that were entered in the part buffer
abbrev pub FillsPart : Setting → Flat → Key → DiskWord → Type 0
FillsPart set state key word = (current : Running) (completion : Completion) → EndsPart state key current completion → (next set state (steps.Press key) word).state.shared.part ≡ entered current.entry (key ∷ state.presses)
