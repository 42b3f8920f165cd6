-- Words for what a refusal leaves as it is.
use Rattle.device_lock.specs.LockLine.{holder_of}
use Rattle.entry_core.specs.Entries.{Entry, entry_of, entry_refusal}
use Rattle.flat_machine.specs.Commands.{work_of}
use Rattle.flat_machine.specs.EntrySteps.{first_of}
use Rattle.flat_machine.specs.Settings.{Setting}
use Rattle.flat_machine.specs.State.{Flat, Shared, device_refusal, is_off}
use Rattle.pad_steps.specs.declared.answers.Reply.TheVariants as replied
use Rattle.request_queue.specs.Requests.{eligible, refused_at_begin, request_in_work}
use Rattle.request_queue.specs.declared.requests.Request.{Request}
use Rattle.request_queue.specs.declared.requests.RequestRow.{RequestRow}
use Rattle.flat_machine.specs.declared.types.Work.{Work}
use Rattle.flat_machine.specs.declared.types.Work.TheVariants as work
use Rattle.pad_steps.specs.declared.answers.Refusal.{Refusal}
use Rattle.pad_steps.specs.declared.answers.Reply.{Reply}
use Rattle.pad_steps.specs.declared.commands.Command.{Command}
use Rattle.std.specs.Prelude.{List, None, Option, Some, false, length, ◌≡◌}

-- the refusal of a work that is one
abbrev pub refusal_in : Work → Option Refusal
refusal_in (work.Refuse refusal accused) = Some refusal
refusal_in other = None

-- after the step the requests are these, and the rest of the shared part and the held PIN are as before
pub record ChangesRequestsAlone (state after : Flat) (requests : List (RequestRow Command Reply)) : Type 0 where
  pub shared : after.shared ≡ record state.shared { requests = requests }
  pub held : after.held ≡ state.held

-- the entry that comes into work next is refused so as it begins
pub record IsRefusedAtBegin (shared : Shared) (refusal : Refusal) : Type 0 where
  pub on : is_off shared.device ≡ false
  pub idle : request_in_work shared.requests ≡ None
  pub request : Request Command
  pub next : eligible (holder_of shared.line) shared.requests ≡ Some request
  pub entry : Entry
  pub asked : entry_of request.command ≡ Some entry
  pub why : first_of (device_refusal shared.device) (entry_refusal entry) ≡ Some refusal

-- the requests after such a Begin
abbrev pub requests_refused_at_begin : Refusal → Shared → List (RequestRow Command Reply)
requests_refused_at_begin refusal shared = refused_at_begin (replied.No refusal) (holder_of shared.line) shared.requests

-- the command in work is refused so as it is finished, for a condition of its own
pub record IsRefusedAtFinish (set : Setting) (state : Flat) (refusal : Refusal) : Type 0 where
  pub request : Request Command
  pub in_work : request_in_work state.shared.requests ≡ Some request
  pub why : refusal_in (work_of set state.shared (length state.held) request.command) ≡ Some refusal
