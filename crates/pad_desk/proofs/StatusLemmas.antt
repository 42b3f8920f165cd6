-- The status is that after the history, and below 2^43 while few requests were submitted.
use Rattle.std.proofs.Common.{ap, arith, length, refl, sym, ◌∙◌}
use Rattle.std.specs.Prelude.{Bool, List, None, Option, Some, [], false, is_some, true, ℕ, ◌%◌, ◌*◌, ◌+◌, ◌/◌, ◌<◌, ◌^◌, ◌∷◌, ◌≡◌, ◌≤◌}
use Rattle.disk_core.specs.DiskStates.{DiskState}
use Rattle.device_lock.specs.LockLine.{holder_of}
use Rattle.entry_core.specs.Entries.{Entry, entry_of}
use Rattle.flat_machine.specs.Machine.{due_finish, due_in, has_pin, holder_number, next_work, one_if, run, status, work_number}
use Rattle.flat_machine.specs.State.{Flat, Shared, device_number, running_entry}
use Rattle.flat_machine.specs.declared.types.Device.{Device}
use Rattle.flat_machine.specs.declared.types.Device.TheVariants.{Bad, Off, Ready, Stopped}
use Rattle.pad_desk.specs.Answers.{due_at, due_by}
use Rattle.pad_desk.specs.Histories.{DeskEntry, HasSeed, acts_of, state_after, status_after}
use Rattle.pad_desk.specs.Machines.{Stands}
use Rattle.pad_desk.specs.Statuses.{ended_at}
use Rattle.pad_machine.specs.Stands.{PadState, StandsFor, set_by, status_with}
use Rattle.pad_steps.specs.declared.commands.Command.{Command}
use Rattle.pad_steps.specs.declared.answers.Reply.{Reply}
use Rattle.pad_steps.specs.declared.steps.Step.{Step}
use Rattle.pad_steps.specs.declared.steps.Step.TheVariants as steps
use Rattle.pad_words.specs.declared.numbers.Session.{Session}
use Rattle.pin_blocks.specs.PinRules.{PinRules}
use Rattle.request_queue.specs.Requests.{eligible, gone_count, request_in_work}
use Rattle.request_queue.specs.declared.requests.Request.{Request}
use Rattle.request_queue.specs.declared.requests.RequestRow.{RequestRow}
use Rattle.request_queue.specs.declared.requests.RequestRow.TheVariants.{Gone, InWork, Waiting}

-- the seed that the entries tell is theirs
state-told : (pin_rules : PinRules) (seed : List ℕ) (history : List DeskEntry) → HasSeed seed history → run (set_by pin_rules seed) (acts_of history) ≡ state_after pin_rules history
state-told pin_rules seed [] seeds = refl
state-told pin_rules seed (entry ∷ rest) seeds = ap (λ (of : List ℕ). run (set_by pin_rules of) (acts_of (entry ∷ rest))) (sym seeds.0)

-- the status of the pad is that after its history
pub status-stands : {D : Type 0} (disk_state : D → DiskState) (pin_rules : PinRules) (pad : PadState) (disk : D) (number : ℕ) → ((seed : List ℕ) (state : Flat) → StandsFor pad seed state → number ≡ status state)
    → (history : List DeskEntry) → Stands disk_state pin_rules pad disk history → number ≡ status_after pin_rules history
status-stands disk_state pin_rules pad disk number is history stands =
    is pad.kept.seed (run (set_by pin_rules pad.kept.seed) (acts_of history)) stands.state ∙ ap status (state-told pin_rules pad.kept.seed history stands.seeds)

gone-few : (rows : List (RequestRow Command Reply)) → gone_count rows ≤ length rows
gone-few [] = omega arith
gone-few (Waiting request ∷ rows) = let few : gone_count rows ≤ length rows = gone-few rows in omega (arith, few)
gone-few (InWork request ∷ rows) = let few : gone_count rows ≤ length rows = gone-few rows in omega (arith, few)
gone-few (Gone id session reply ∷ rows) = let few : gone_count rows ≤ length rows = gone-few rows in omega (arith, few)

device-few : (device : Device) → device_number device ≤ 3
device-few Off = omega arith
device-few Ready = omega arith
device-few Stopped = omega arith
device-few (Bad slot) = omega arith

one-few : (test : Bool) → one_if test ≤ 1
one-few true = omega arith
one-few false = omega arith

work-few : (step : Option Step) → work_number step ≤ 2
work-few None = omega arith
work-few (Some (steps.Open session)) = omega arith
work-few (Some (steps.Close session)) = omega arith
work-few (Some (steps.Listen session classes)) = omega arith
work-few (Some (steps.Lock session)) = omega arith
work-few (Some (steps.Unlock session)) = omega arith
work-few (Some (steps.Submit session limit command)) = omega arith
work-few (Some (steps.Cancel session id)) = omega arith
work-few (Some steps.Begin) = omega arith
work-few (Some steps.Finish) = omega arith
work-few (Some (steps.Press key)) = omega arith
work-few (Some (steps.Tick ticks)) = omega arith
work-few (Some (steps.Ask session question)) = omega arith
work-few (Some steps.Off) = omega arith
work-few (Some steps.Boot) = omega arith

holder-few : (holder : Option Session) → holder_number holder ≤ 16
holder-few None = omega arith
holder-few (Some session) = session.valid.1

few-sum : (device entry pin work holder gone total : ℕ) → device ≤ 3 → entry ≤ 1 → pin ≤ 1 → work ≤ 2 → holder ≤ 16 → gone ≤ total → total ≤ 1048576
    → device + 4 * entry + 8 * pin + 16 * work + 64 * holder + 2048 * gone < 2 ^ 43
few-sum device entry pin work holder gone total a b c d e f g = omega (arith, a, b, c, d, e, f, g)

-- the status of a pad with few requests
pub status-few : (shared : Shared) (pin : Bool) → length shared.requests ≤ 1048576 → status_with shared pin < 2 ^ 43
status-few shared pin few = few-sum (device_number shared.device) (one_if (is_some (running_entry shared))) (one_if pin) (work_number (next_work shared)) (holder_number (holder_of shared.line)) (gone_count shared.requests) (length shared.requests)
    (device-few shared.device) (one-few (is_some (running_entry shared))) (one-few pin) (work-few (next_work shared)) (holder-few (holder_of shared.line)) (gone-few shared.requests) few

-- the number of the work that is due is in the status
work-sum : (device entry pin work holder gone : ℕ) → device ≤ 3 → entry ≤ 1 → pin ≤ 1 → work ≤ 2 → (device + 4 * entry + 8 * pin + 16 * work + 64 * holder + 2048 * gone) / 16 % 4 ≡ work
work-sum device entry pin work holder gone a b c d = omega (arith, a, b, c, d)

-- what is due is Begin, Finish or nothing
due-number : (o : Option (Request Command)) (waiting : Option (Request Command)) → due_by (work_number (due_in o waiting)) ≡ due_in o waiting
due-number (Some request) waiting = by_entry (entry_of request.command)
  where
    by_entry : (entry : Option Entry) → due_by (work_number (due_finish entry)) ≡ due_finish entry
    by_entry None = refl
    by_entry (Some entry) = refl
due-number None (Some request) = refl
due-number None None = refl

pub due-status : (state : Flat) → due_at (status state) ≡ next_work state.shared
due-status state =
    let shared : Shared = state.shared in
    ap due_by (work-sum (device_number shared.device) (one_if (is_some (running_entry shared))) (one_if (has_pin state.held)) (work_number (next_work shared)) (holder_number (holder_of shared.line)) (gone_count shared.requests)
    (device-few shared.device) (one-few (is_some (running_entry shared))) (one-few (has_pin state.held)) (work-few (next_work shared)))
    ∙ due-number (request_in_work shared.requests) (eligible (holder_of shared.line) shared.requests)

-- the number of the requests that ended is in the status
ended-sum : (device entry pin work holder gone : ℕ) → device ≤ 3 → entry ≤ 1 → pin ≤ 1 → work ≤ 2 → holder ≤ 16 → (device + 4 * entry + 8 * pin + 16 * work + 64 * holder + 2048 * gone) / 2048 ≡ gone
ended-sum device entry pin work holder gone a b c d e = omega (arith, a, b, c, d, e)

pub ended-status : (state : Flat) → ended_at (status state) ≡ gone_count state.shared.requests
ended-status state = ended-sum (device_number state.shared.device) (one_if (is_some (running_entry state.shared))) (one_if (has_pin state.held)) (work_number (next_work state.shared)) (holder_number (holder_of state.shared.line)) (gone_count state.shared.requests)
    (device-few state.shared.device) (one-few (is_some (running_entry state.shared))) (one-few (has_pin state.held)) (work-few (next_work state.shared)) (holder-few (holder_of state.shared.line))
