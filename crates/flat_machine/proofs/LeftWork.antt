-- The work that is left in a run.
use Rattle.std.proofs.Common.{ap, arith, sym, ◌∙◌}
use Rattle.std.specs.Prelude.{Bool, IsTrue, List, None, Option, Some, [], false, if◌then◌else◌, length, not, refl, true, ◌&&◌, ◌*◌, ◌+◌, ◌++◌, ◌<◌, ◌∷◌, ◌≡◌, ◌≤◌}
use Rattle.device_lock.specs.LockLine.{holder_of}
use Rattle.flat_machine.proofs.DueWork.{fewer-finished, less-next, work_left-begun, work_left-refused}
use Rattle.flat_machine.proofs.KeptLemmas.{kept_state}
use Rattle.flat_machine.proofs.LengthRuns.{sound_runs}
use Rattle.flat_machine.proofs.RequestCounts.{draws-next}
use Rattle.flat_machine.proofs.StepCauses.{Began, Caused, EndedMany, EndedOne, Nothing, RefusedEntry, Submitted, next_caused}
use Rattle.flat_machine.specs.EveryRun.{AtEveryStep, InEveryRun, after_step}
use Rattle.flat_machine.specs.Kept.{Kept, kept_next, kept_of}
use Rattle.flat_machine.specs.Machine.{due_in, next, next_work, run_from}
use Rattle.flat_machine.specs.PinFacts.{passes_submit}
use Rattle.flat_machine.specs.RequestFacts.{draws, work_left}
use Rattle.flat_machine.specs.Settings.{Setting}
use Rattle.flat_machine.specs.Sound.{allowed, pending_pass}
use Rattle.flat_machine.specs.State.{Flat, is_off}
use Rattle.flat_machine.specs.declared.types.Device.{Device}
use Rattle.pad_steps.specs.declared.answers.Out.{Out}
use Rattle.pad_steps.specs.declared.answers.Reply.TheVariants as reply
use Rattle.pad_steps.specs.declared.answers.Reply.{Reply}
use Rattle.pad_steps.specs.declared.commands.Command.{Command}
use Rattle.pad_steps.specs.declared.steps.DiskWord.{DiskWord}
use Rattle.pad_steps.specs.declared.steps.Step.{Step}
use Rattle.pad_words.specs.declared.numbers.Session.{Session}
use Rattle.request_queue.specs.Requests.{eligible, ended_where, request_in_work}
use Rattle.request_queue.specs.declared.requests.Request.{Request}
use Rattle.request_queue.specs.declared.requests.RequestRow.TheVariants.{Gone, InWork, Waiting}
use Rattle.request_queue.specs.declared.requests.RequestRow.{RequestRow}

abbrev Rows : Type 0
Rows = List (RequestRow Command Reply)

-- a request that waits is two steps of work more
left-push : (rows : Rows) (asked : Request Command) → work_left (rows ++ Waiting asked ∷ []) ≡ work_left rows + 2
left-push [] asked = refl
left-push (Waiting other ∷ rows) asked = let same : work_left (rows ++ Waiting asked ∷ []) ≡ work_left rows + 2 = left-push rows asked in omega (arith, same)
left-push (InWork other ∷ rows) asked = let same : work_left (rows ++ Waiting asked ∷ []) ≡ work_left rows + 2 = left-push rows asked in omega (arith, same)
left-push (Gone id session answer ∷ rows) asked = left-push rows asked

-- requests that end leave less to do
left-waiting : (b : Bool) (asked : Request Command) (answer : Reply) (rows : Rows) → work_left ((if b then Gone asked.id asked.session answer else Waiting asked) ∷ rows) ≤ 2 + work_left rows
left-waiting true asked answer rows = omega arith
left-waiting false asked answer rows = omega arith

left-work : (b : Bool) (asked : Request Command) (answer : Reply) (rows : Rows) → work_left ((if b then Gone asked.id asked.session answer else InWork asked) ∷ rows) ≤ 1 + work_left rows
left-work true asked answer rows = omega arith
left-work false asked answer rows = omega arith

left-ended_where : (test : Request Command → Bool) (answer : Reply) (rows : Rows) → work_left (ended_where test answer rows) ≤ work_left rows
left-ended_where test answer [] = omega arith
left-ended_where test answer (Waiting asked ∷ rows) =
    let first : work_left (ended_where test answer (Waiting asked ∷ rows)) ≤ 2 + work_left (ended_where test answer rows) = left-waiting (test asked) asked answer (ended_where test answer rows) in
    let rest : work_left (ended_where test answer rows) ≤ work_left rows = left-ended_where test answer rows in omega (arith, first, rest)
left-ended_where test answer (InWork asked ∷ rows) =
    let first : work_left (ended_where test answer (InWork asked ∷ rows)) ≤ 1 + work_left (ended_where test answer rows) = left-work (test asked) asked answer (ended_where test answer rows) in
    let rest : work_left (ended_where test answer rows) ≤ work_left rows = left-ended_where test answer rows in omega (arith, first, rest)
left-ended_where test answer (Gone id session old ∷ rows) = left-ended_where test answer rows

left-caused : (set : Setting) (h : Flat) (s : Step) (w : DiskWord) (after : Rows) (outs : List Out) → Caused set h s w after outs → work_left after ≤ work_left h.shared.requests + 2 * draws s
left-caused set h s w after outs (Nothing same said) = let e : work_left after ≡ work_left h.shared.requests = ap work_left same in omega (arith, e)
left-caused set h s w after outs (Submitted t limit c at ok same said) =
    let e : work_left after ≡ work_left h.shared.requests + 2 = ap work_left same ∙ left-push h.shared.requests (record { id = length h.shared.requests + 1; session = t; submitted = h.shared.clock; limit = limit; command = c }) in
    let one : draws s ≡ 1 = ap draws at in omega (arith, e, one)
left-caused set h s w after outs (EndedMany test r why same said) =
    let e : work_left after ≡ work_left (ended_where test (reply.No r) h.shared.requests) = ap work_left same in
    let less : work_left (ended_where test (reply.No r) h.shared.requests) ≤ work_left h.shared.requests = left-ended_where test (reply.No r) h.shared.requests in omega (arith, e, less)
left-caused set h s w after outs (Began a at none some same said) =
    let e = ap work_left same in let less = work_left-begun (holder_of h.shared.line) h.shared.requests a some in omega (arith, e, less)
left-caused set h s w after outs (RefusedEntry a entry r at none some is same said) =
    let e = ap work_left same in let less = work_left-refused (reply.No r) (holder_of h.shared.line) h.shared.requests a some in omega (arith, e, less)
left-caused set h s w after outs (EndedOne a r heard work why same said) =
    let e = ap work_left same in let less = fewer-finished r h.shared.requests a work in omega (arith, e, less)

-- no step leaves more than two steps of work for each id that it may draw
pub left-more : AtEveryStep (λ set state step word. work_left (after_step set state step word).shared.requests ≤ work_left state.shared.requests + 2 * draws step)
left-more set state step word = left-caused set state step word (next set state step word).state.shared.requests (next set state step word).outs (next_caused set state step word)

pub ids-more : AtEveryStep (λ set state step word. length (after_step set state step word).shared.requests ≤ length state.shared.requests + draws step)
ids-more set state step word =
    let same : length (next set state step word).state.shared.requests ≡ length (kept_next set (kept_of [] state) step word).state.shared.requests = ap (λ (kept : Kept). length kept.shared.requests) (kept_state set [] state step word) in
    let most : length (kept_next set (kept_of [] state) step word).state.shared.requests ≤ length state.shared.requests + draws step = draws-next set (kept_of [] state) step word in omega (arith, same, most)

-- nothing is due while the device is off

not_allowed : (passes off rest : Bool) → off ≡ true → IsTrue ((passes && not off) && rest) → ⊥
not_allowed true true rest is pass = cc
not_allowed true false rest is pass = cc
not_allowed false off rest is pass = cc

none-due : (passes : Command → Bool) (device : Device) (holder : Option Session) (rows : Rows) → is_off device ≡ true → IsTrue (pending_pass (allowed passes device) rows) → due_in (request_in_work rows) (eligible holder rows) ≡ None
none-due passes device holder [] off sound = refl
none-due passes device holder (Waiting asked ∷ rows) off sound = absurd (not_allowed (passes asked.command) (is_off device) (pending_pass (allowed passes device) rows) off sound)
none-due passes device holder (InWork asked ∷ rows) off sound = absurd (not_allowed (passes asked.command) (is_off device) (pending_pass (allowed passes device) rows) off sound)
none-due passes device holder (Gone id session answer ∷ rows) off sound = none-due passes device holder rows off sound

none-some : (step : Step) → None ≡ Some step → ⊥
none-some step e = cc

less-flat : (set : Setting) (state : Flat) (step : Step) (word : DiskWord) (off : Bool) → is_off state.shared.device ≡ off → IsTrue (pending_pass (allowed (passes_submit set.pin_rules) state.shared.device) state.shared.requests) → next_work state.shared ≡ Some step
    → work_left (next set state step word).state.shared.requests < work_left state.shared.requests
less-flat set state step word true off sound due = absurd (none-some step (sym (none-due (passes_submit set.pin_rules) state.shared.device (holder_of state.shared.line) state.shared.requests off sound) ∙ due))
less-flat set state step word false on sound due =
    let same : work_left (next set state step word).state.shared.requests ≡ work_left (kept_next set (kept_of [] state) step word).state.shared.requests = ap (λ (kept : Kept). work_left kept.shared.requests) (kept_state set [] state step word) in
    let less : work_left (kept_next set (kept_of [] state) step word).state.shared.requests < work_left state.shared.requests = less-next set (kept_of [] state) step word on due in omega (arith, same, less)

-- in every run a step that is due leaves less to do
pub left-less : InEveryRun (λ set state. (step : Step) (word : DiskWord) → next_work state.shared ≡ Some step → work_left (after_step set state step word).shared.requests < work_left state.shared.requests)
left-less set start acts begins step word due =
    less-flat set (run_from set start acts) step word (is_off (run_from set start acts).shared.device) refl (sound_runs set start acts begins) due
