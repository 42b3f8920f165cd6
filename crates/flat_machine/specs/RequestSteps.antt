-- Submit, Cancel, Tick and Ask (WFSExecute, WFSCancelAsyncRequest, time-outs, WFSGetInfo).
use Rattle.flat_machine.specs.Ciphers.{Ciphers}
use Rattle.check_values.specs.CheckValues.{check_value}
use Rattle.crypt_commands.specs.Faults.{is_decrypt, is_mac}
use Rattle.key_import.specs.Imports.{is_part}
use Rattle.key_table.specs.KeyRows.{names_of, find_row}
use Rattle.request_queue.specs.Requests.{Found, Nowhere, Replied, StillPending, is_due, look, pending_count, pending_where}
use Rattle.pad_words.specs.Numbers.{same_session}
use Rattle.request_queue.specs.declared.requests.Request.{Request}
use Rattle.request_queue.specs.declared.requests.RequestRow.TheVariants.{Waiting}
use Rattle.flat_machine.specs.PinCommands.{admit_refusal}
use Rattle.flat_machine.specs.SessionSteps.{if_open}
use Rattle.session_book.specs.Sessions.{floor_of, is_open}
use Rattle.device_lock.specs.LockLine.{holder_of, locked_out}
use Rattle.flat_machine.specs.State.{Shared, Said, device_number, ends, is_off, is_ready, with_outs_before, running_entry, says}
use Rattle.pin_blocks.specs.PinRules.{PinRules}
use Rattle.flat_machine.specs.declared.types.Device.{Device}
use Rattle.flat_machine.specs.declared.types.Device.TheVariants.{Bad, Off, Ready, Stopped}
use Rattle.key_attributes.specs.UseBits.{has_construct, has_secure_construct, under_construction, uses_valid}
use Rattle.key_attributes.specs.declared.KeyRow.{KeyRow}
use Rattle.pad_steps.specs.declared.commands.Algorithm.{Algorithm}
use Rattle.pad_steps.specs.declared.commands.Command.{Command}
use Rattle.pad_steps.specs.declared.commands.CryptRequest.{CryptRequest}
use Rattle.pad_steps.specs.declared.commands.EntryRules.{EntryRules}
use Rattle.pad_steps.specs.declared.commands.ImportRequest.{ImportRequest}
use Rattle.pad_steps.specs.declared.answers.KeyView.{KeyView}
use Rattle.pad_steps.specs.declared.steps.Question.{Question}
use Rattle.pad_steps.specs.declared.answers.Refusal.{Refusal}
use Rattle.pad_steps.specs.declared.answers.Reply.{Reply}
use Rattle.pad_steps.specs.declared.commands.Start.{Start}
use Rattle.pad_steps.specs.declared.answers.StatusView.{StatusView}
use Rattle.pad_steps.specs.declared.answers.Told.{Told}
use Rattle.pad_words.specs.declared.numbers.Session.{Session}
use Rattle.std.specs.Prelude.{Bool, List, None, Option, Some, [], false, if◌then◌else◌, is_some, length, nat_le, nat_lt, not, option_map, true, ℕ, ◌&&◌, ◌++◌, ◌+◌, ◌==◌, ◌||◌, ◌∷◌}
use Rattle.pad_steps.specs.declared.answers.Out.TheVariants as out
use Rattle.pad_steps.specs.declared.answers.Told.TheVariants as told
use Rattle.pad_steps.specs.declared.answers.Refusal.TheVariants as refusals
use Rattle.pad_steps.specs.declared.commands.Command.TheVariants as commands
use Rattle.pad_steps.specs.declared.steps.Question.TheVariants as questions
use Rattle.pad_steps.specs.declared.commands.Start.TheVariants as started
use Rattle.pad_steps.specs.declared.commands.Algorithm.TheVariants as mode
use Rattle.pad_steps.specs.declared.commands.Verify.TheVariants as verify

-- the greatest length of a PIN or of data is above 16
abbrev pub rules_invalid : EntryRules → Bool
rules_invalid rules = nat_lt 16 rules.max

-- 16, 32 or 48 digits: 8, 16 or 24 bytes of a key
abbrev pub is_part_count : ℕ → Bool
is_part_count count = (count == 16) || (count == 32) || (count == 48)

-- the algorithm is cipher feedback, which is left out
abbrev pub is_cfb : Algorithm → Bool
is_cfb mode.Cfb = true
is_cfb other = false

-- the algorithm is cipher block chaining
abbrev pub is_cbc : Algorithm → Bool
is_cbc mode.Cbc = true
is_cbc other = false

-- a start value is given
abbrev pub has_start : Start → Bool
has_start started.Zero = false
has_start (started.Clear block) = true
has_start (started.Sealed name block) = true

-- an authentication code to decrypt, or a start value without cipher block chaining
abbrev pub crypt_invalid : CryptRequest → Bool
crypt_invalid request = (is_mac request.algorithm && is_decrypt request.direction) || (not (is_cbc request.algorithm) && has_start request.start)

-- uses that are not valid; or a key that takes parts from outside, from the part buffer; or one that takes parts from the buffer, from outside
abbrev pub import_invalid : ImportRequest → Bool
import_invalid request = not (uses_valid request.uses) || (has_construct request.uses && is_part request.source) || (has_secure_construct request.uses && not (is_part request.source))

-- INVALIDDATA where the test holds
abbrev pub invalid_if : Bool → Option Refusal
invalid_if test = if test then Some refusals.InvalidData else None

-- why a command is refused as it is submitted, for what it asks: UNSUPPCOMMAND, FORMATNOTSUPPORTED, MODENOTSUPPORTED or INVALIDDATA
abbrev pub command_refusal : PinRules → Command → Option Refusal
command_refusal pin_rules (commands.GetPin rules) = invalid_if (rules_invalid rules)
command_refusal pin_rules (commands.GetData rules) = invalid_if (rules_invalid rules)
command_refusal pin_rules (commands.SecureKeyEntry rules) = invalid_if (not (is_part_count rules.count))
command_refusal pin_rules (commands.Pin request) = option_map admit_refusal (pin_rules.admit request)
command_refusal pin_rules (commands.Crypt request) = if is_cfb request.algorithm then Some refusals.ModeNotSupported else invalid_if (crypt_invalid request)
command_refusal pin_rules (commands.ImportKey request) = invalid_if (import_invalid request)
command_refusal pin_rules commands.RsaImport = Some refusals.UnsuppCommand
command_refusal pin_rules other = None

-- LOCKED with the session that holds the lock, if another does
abbrev pub or_locked : Option Session → Option Refusal → Option Refusal
or_locked None rest = rest
or_locked (Some holder) rest = Some (refusals.Locked holder)

-- why a Submit is refused, in this order: NOSESSION; CONNECTIONLOST where the device is off; LOCKED where another session holds the lock; QUEUEFULL where 16 of the session's requests are pending; then for what the command asks
abbrev pub submit_refusal : PinRules → Shared → Session → Command → Option Refusal
submit_refusal pin_rules shared session command = if not (is_open session shared.sessions) then Some refusals.NoSession
    else (if is_off shared.device then Some refusals.ConnectionLost
    else or_locked (locked_out session shared.line)
    (if nat_le 16 (pending_count session shared.requests) then Some (refusals.QueueFull 16) else command_refusal pin_rules command))

-- a refused Submit draws no id and changes nothing; else the request gets the next id, from 1 on, and waits
abbrev pub submit_by : Option Refusal → Shared → Session → ℕ → Command → Said
submit_by (Some refusal) shared session limit command = says shared (out.Refused session refusal)
submit_by None shared session limit command = says
    (record shared { requests = shared.requests ++ Waiting (record { id = length shared.requests + 1; session = session; submitted = shared.clock; limit = limit; command = command }) ∷ [] })
    (out.Request session (length shared.requests + 1))

-- Submit
abbrev pub next_submit : PinRules → Shared → Session → ℕ → Command → Said
next_submit pin_rules shared session limit command = submit_by (submit_refusal pin_rules shared session command) shared session limit command

-- a Cancel of the session means this request: id 0 means all of its own, another id the one above its floor
abbrev pub is_canceled : Shared → Session → ℕ → Request Command → Bool
is_canceled shared session id request = same_session request.session session && ((id == 0) || ((request.id == id) && nat_lt (floor_of session shared.sessions) request.id))

-- the number of requests that end is told before their replies; INVALIDREQID where an id other than 0 names none
abbrev pub cancels : Shared → Session → ℕ → List (Request Command) → Said
cancels shared session id found = if not (id == 0) && (length found == 0) then says shared (out.Told session (told.No refusals.InvalidReqId))
    else with_outs_before (out.Told session (told.Canceled (length found)) ∷ []) (ends (is_canceled shared session id) refusals.Canceled shared)

-- Cancel
abbrev pub next_cancel : Shared → Session → ℕ → Said
next_cancel shared session id = if_open shared session (cancels shared session id (pending_where (is_canceled shared session id) shared.requests))

-- Tick: the clock goes on, and each request that is due then ends TIMEOUT
abbrev pub next_tick : Shared → ℕ → Said
next_tick shared ticks = ends (is_due (shared.clock + ticks)) refusals.Timeout (record shared { clock = shared.clock + ticks })

-- the answer to `status` (WFS_INF_PIN_STATUS in outline); keys are counted where the device is ready
abbrev pub status_view : Shared → Bool → Session → StatusView
status_view shared pin session = record {
  state = device_number shared.device;
  keys = if is_ready shared.device then length shared.keys else 0;
  holder = holder_of shared.line;
  entry = is_some (running_entry shared);
  pin = pin;
  pending = pending_count session shared.requests;
}

-- the answer to `key` (WFS_INF_PIN_KEY_DETAIL in outline): name, uses, length and the check value of the zero block, which a key under construction has not
abbrev pub key_view : Ciphers → KeyRow → KeyView
key_view cipher row = record { name = row.name; uses = row.uses; length = length row.value; check = if under_construction row.uses then None else check_value cipher.tdea verify.Zero row.value }

-- KEYNOTFOUND, or what the row shows
abbrev pub told_key : Ciphers → Option KeyRow → Told
told_key cipher None = told.No refusals.KeyNotFound
told_key cipher (Some row) = told.Key (key_view cipher row)

-- a device that is off, stopped or bad tells its refusal in place of its keys
abbrev pub told_ready : Device → Told → Told
told_ready Off rest = told.No refusals.ConnectionLost
told_ready Ready rest = rest
told_ready Stopped rest = told.No refusals.HardwareError
told_ready (Bad slot) rest = told.No (refusals.BadStore slot)

-- INVALIDREQID, pending, or the reply
abbrev pub told_request : ℕ → Found Reply → Told
told_request id Nowhere = told.No refusals.InvalidReqId
told_request id StillPending = told.Pending
told_request id (Replied reply) = told.Reply id reply

-- the answer to a question
abbrev pub answer_to : Ciphers → Shared → Bool → Session → Question → Told
answer_to cipher shared pin session questions.Status = told.Status (status_view shared pin session)
answer_to cipher shared pin session (questions.Key name) = told_ready shared.device (told_key cipher (find_row name shared.keys))
answer_to cipher shared pin session questions.Names = told_ready shared.device (told.Names (names_of shared.keys))
answer_to cipher shared pin session (questions.Reply id) = told_request id (look session (floor_of session shared.sessions) id shared.requests)

-- Ask: answered also while another session holds the lock
abbrev pub next_ask : Ciphers → Shared → Bool → Session → Question → Said
next_ask cipher shared pin session question = if_open shared session (says shared (out.Told session (answer_to cipher shared pin session question)))
