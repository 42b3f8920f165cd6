-- Begin and Press. Press is the one step that sees which digit was pressed.
use Rattle.flat_machine.specs.Ciphers.{Ciphers}
use Rattle.check_values.specs.CheckValues.{check_value}
use Rattle.entry_core.specs.Entries.{Entry, active_seen, entered, entry_of, entry_refusal, is_key_part, is_pin}
use Rattle.request_queue.specs.Requests.{begun, eligible, finished, refused_at_begin, request_in_work}
use Rattle.request_queue.specs.declared.requests.Request.{Request}
use Rattle.flat_machine.specs.Sessions.{execute_event}
use Rattle.device_lock.specs.LockLine.{holder_of}
use Rattle.flat_machine.specs.State.{After, Flat, Shared, Running, Said, device_refusal, dropping_presses, is_off, running_entry, says, unchanged}
use Rattle.entry_core.specs.declared.seen.Seen.{Seen}
use Rattle.entry_core.specs.declared.seen.Seen.TheVariants.{Ended, Ignored, Took}
use Rattle.key_source.specs.Keys.{has_key}
use Rattle.key_source.specs.declared.Key.{Key}
use Rattle.pad_steps.specs.declared.answers.Answer.{Answer}
use Rattle.pad_steps.specs.declared.commands.Command.{Command}
use Rattle.pad_steps.specs.declared.answers.Completion.{Completion}
use Rattle.pad_steps.specs.declared.commands.EntryKind.{EntryKind}
use Rattle.pad_steps.specs.declared.answers.Refusal.{Refusal}
use Rattle.pad_steps.specs.declared.answers.Shown.{Shown}
use Rattle.pad_steps.specs.declared.commands.Verify.{Verify}
use Rattle.pad_words.specs.Bytes.{packed}
use Rattle.std.specs.Prelude.{List, None, Option, Some, [], if◌then◌else◌, length, true, ℕ, ◌++◌, ◌∷◌}
use Rattle.pad_steps.specs.declared.answers.Out.TheVariants as out
use Rattle.pad_steps.specs.declared.answers.Reply.TheVariants as replied
use Rattle.pad_steps.specs.declared.answers.Event.TheVariants as events
use Rattle.pad_steps.specs.declared.answers.Answer.TheVariants as answers
use Rattle.pad_steps.specs.declared.commands.EntryKind.TheVariants as entry_kind

-- an entry starts: ENTERDATA is sent to its session, nothing is pressed, and what the entry will fill is empty: the held PIN for a PIN, the part buffer for a key part
abbrev pub starts : Shared → Request Command → Entry → Said
starts shared request entry = record {
  shared = record shared { requests = begun (holder_of shared.line) shared.requests; part = if is_key_part entry.kind then [] else shared.part };
  outs = execute_event shared.sessions request.session events.EnterData;
  drops_pin = is_pin entry.kind;
  drops_presses = true;
}

-- the first of two refusals
abbrev pub first_of : Option Refusal → Option Refusal → Option Refusal
first_of None rest = rest
first_of (Some refusal) rest = Some refusal

-- an entry that is refused ends at once and clears nothing but presses; else it starts
abbrev pub begin_entry : Shared → Request Command → Entry → Option Refusal → Said
begin_entry shared request entry (Some refusal) = dropping_presses true (says
    (record shared { requests = refused_at_begin (replied.No refusal) (holder_of shared.line) shared.requests })
    (out.Ended request.session request.id (replied.No refusal)))
begin_entry shared request entry None = starts shared request entry

-- a request comes into work; an entry is refused by the device or by its rules, or starts
abbrev pub begin_as : Shared → Request Command → Option Entry → Said
begin_as shared request None = dropping_presses true (unchanged (record shared { requests = begun (holder_of shared.line) shared.requests }))
begin_as shared request (Some entry) = begin_entry shared request entry (first_of (device_refusal shared.device) (entry_refusal entry))

-- nothing happens while a request is in work, or where none is eligible
abbrev pub begin_with : Shared → Option (Request Command) → Option (Request Command) → Said
begin_with shared (Some current) other = unchanged shared
begin_with shared None None = unchanged shared
begin_with shared None (Some request) = begin_as shared request (entry_of request.command)

-- Begin: nothing happens where the device is off
abbrev pub next_begin : Shared → Said
next_begin shared = if is_off shared.device then unchanged shared else begin_with shared (request_in_work shared.requests) (eligible (holder_of shared.line) shared.requests)

module _ (cipher : Ciphers) where
  -- the check value of an entered key part; none for an empty one
  abbrev pub part_check : Verify → List ℕ → Option (List ℕ)
  part_check check [] = None
  part_check check (first ∷ rest) = check_value cipher.tdea check (packed (first ∷ rest))

  -- the reply of an entry that ended: of a PIN and of a key part the number of digits, of data the digits
  abbrev pub entry_answer : EntryKind → Verify → Completion → List ℕ → Answer
  entry_answer entry_kind.Pin check completion digits = answers.Entered (length digits) completion
  entry_answer entry_kind.Figures check completion digits = answers.Figures digits completion
  entry_answer entry_kind.Part check completion digits = answers.Part (length digits) completion (part_check check digits)

  -- the shared part after an entry: its request ended, and a key part's digits are in the part buffer
  abbrev pub after_entry : Shared → Running → Shown → Completion → List ℕ → Shared
  after_entry shared current shown completion digits = record shared {
    requests = finished (replied.Ok (entry_answer current.entry.kind current.entry.check completion digits)) shared.requests;
    part = if is_key_part current.entry.kind then digits else shared.part;
  }

  -- the entry ends: KEY and then the reply are sent, the presses are dropped, and a PIN's digits are held
  abbrev pub ends_entry : Flat → Running → Key → Shown → Completion → List ℕ → After
  ends_entry state current key shown completion digits = record {
    state = record { shared = after_entry state.shared current shown completion digits; presses = []; held = if is_pin current.entry.kind then digits else state.held };
    outs = execute_event state.shared.sessions current.session (events.Key shown)
        ++ out.Ended current.session current.id (replied.Ok (entry_answer current.entry.kind current.entry.check completion digits)) ∷ [];
  }

  -- what an active key does: it is ignored, taken and shown, or ends the entry
  abbrev pub press_seen : Flat → Running → Key → Seen → After
  press_seen state current key Ignored = record { state = record state { presses = key ∷ state.presses }; outs = [] }
  press_seen state current key (Took shown) = record {
    state = record state { presses = key ∷ state.presses };
    outs = execute_event state.shared.sessions current.session (events.Key shown);
  }
  press_seen state current key (Ended shown completion) = ends_entry state current key shown completion (entered current.entry (key ∷ state.presses))

  -- without an entry, or where the key is not active, nothing happens
  abbrev pub press_in : Flat → Option Running → Key → After
  press_in state None key = record { state = state; outs = [] }
  press_in state (Some current) key = if has_key current.entry.active key
      then press_seen state current key (active_seen current.entry (length (entered current.entry state.presses)) key)
      else record { state = state; outs = [] }

  -- Press
  abbrev pub next_press : Flat → Key → After
  next_press state key = press_in state (running_entry state.shared) key
