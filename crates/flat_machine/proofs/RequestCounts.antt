-- How many requests there are after a step.
use Rattle.std.proofs.Common.{ap, arith, cond, length-append, ◌∙◌}
use Rattle.std.specs.Prelude.{Bool, List, None, Option, Some, [], false, if◌then◌else◌, length, refl, suc, true, ℕ, ◌+◌, ◌∷◌, ◌≡◌, ◌≤◌}
use Rattle.device_lock.specs.LockLine.{holder_of, holds}
use Rattle.entry_core.specs.Entries.{Entry, entry_of, entry_refusal}
use Rattle.entry_core.specs.declared.seen.Seen.TheVariants.{Ended, Ignored, Took}
use Rattle.entry_core.specs.declared.seen.Seen.{Seen}
use Rattle.flat_machine.specs.Commands.{work_of}
use Rattle.flat_machine.specs.EntrySteps.{begin_as, begin_entry, begin_with, first_of}
use Rattle.flat_machine.specs.FinishSteps.{deletes, finish_with, imports, inits, performs, reset_with}
use Rattle.flat_machine.specs.Kept.{Kept, KeptAfter, kept_next, kept_press_in, kept_seen}
use Rattle.flat_machine.specs.Power.{loads, replaces}
use Rattle.flat_machine.specs.RequestFacts.{draws}
use Rattle.flat_machine.specs.RequestSteps.{cancels, is_canceled, submit_by, submit_refusal}
use Rattle.flat_machine.specs.Settings.{Setting}
use Rattle.flat_machine.specs.State.{Running, Said, Shared, device_refusal, is_off, owner_of, running_entry}
use Rattle.flat_machine.specs.declared.types.Owner.{Owner}
use Rattle.flat_machine.specs.declared.types.Work.TheVariants as work
use Rattle.flat_machine.specs.declared.types.Work.{Work}
use Rattle.key_source.specs.Keys.{has_key}
use Rattle.key_source.specs.declared.Key.{Key}
use Rattle.key_table.specs.Changes.{Change, change_to, erasure, erasures}
use Rattle.pad_steps.specs.declared.answers.Answer.TheVariants as answers
use Rattle.pad_steps.specs.declared.answers.Refusal.{Refusal}
use Rattle.pad_steps.specs.declared.answers.Reply.TheVariants as reply
use Rattle.pad_steps.specs.declared.answers.Reply.{Reply}
use Rattle.pad_steps.specs.declared.commands.Command.{Command}
use Rattle.pad_steps.specs.declared.steps.DiskWord.TheVariants as word
use Rattle.pad_steps.specs.declared.steps.DiskWord.{DiskWord}
use Rattle.pad_steps.specs.declared.steps.Step.TheVariants as step
use Rattle.pad_steps.specs.declared.steps.Step.{Step}
use Rattle.pad_words.specs.declared.numbers.Session.{Session}
use Rattle.request_queue.specs.Requests.{begun_as, eligible, ended_where, finished, may_begin, pending_where, request_in_work}
use Rattle.request_queue.specs.declared.requests.Request.{Request}
use Rattle.request_queue.specs.declared.requests.RequestRow.TheVariants.{Gone, InWork, Waiting}
use Rattle.request_queue.specs.declared.requests.RequestRow.{RequestRow}
use Rattle.session_book.specs.Sessions.{is_open}

abbrev Rows : Type 0
Rows = List (RequestRow Command Reply)

length-begun_as : (new : Request Command → RequestRow Command Reply) (holder : Option Session) (rows : Rows) → length (begun_as new holder rows) ≡ length rows
length-begun_as new holder [] = refl
length-begun_as new holder (Waiting asked ∷ rows) = length-if (may_begin holder asked) (new asked) asked rows (begun_as new holder rows) (length-begun_as new holder rows)
  where
    length-if : (b : Bool) (row : RequestRow Command Reply) (asked : Request Command) (rows others : Rows) → length others ≡ length rows → length (if b then row ∷ rows else Waiting asked ∷ others) ≡ suc (length rows)
    length-if true row asked rows others same = refl
    length-if false row asked rows others same = ap (λ (n : ℕ). suc n) same
length-begun_as new holder (InWork asked ∷ rows) = ap (λ (n : ℕ). suc n) (length-begun_as new holder rows)
length-begun_as new holder (Gone id session answer ∷ rows) = ap (λ (n : ℕ). suc n) (length-begun_as new holder rows)

length-finished : (answer : Reply) (rows : Rows) → length (finished answer rows) ≡ length rows
length-finished answer [] = refl
length-finished answer (Waiting asked ∷ rows) = ap (λ (n : ℕ). suc n) (length-finished answer rows)
length-finished answer (InWork asked ∷ rows) = refl
length-finished answer (Gone id session old ∷ rows) = ap (λ (n : ℕ). suc n) (length-finished answer rows)

length-ended_where : (test : Request Command → Bool) (answer : Reply) (rows : Rows) → length (ended_where test answer rows) ≡ length rows
length-ended_where test answer [] = refl
length-ended_where test answer (Waiting asked ∷ rows) = ap (λ (n : ℕ). suc n) (length-ended_where test answer rows)
length-ended_where test answer (InWork asked ∷ rows) = ap (λ (n : ℕ). suc n) (length-ended_where test answer rows)
length-ended_where test answer (Gone id session old ∷ rows) = ap (λ (n : ℕ). suc n) (length-ended_where test answer rows)

-- the step draws no id
abbrev Stays : Shared → Said → Type 0
Stays shared effect = length effect.shared.requests ≡ length shared.requests

stays_if : (shared : Shared) (b : Bool) (x y : Said) → Stays shared x → Stays shared y → Stays shared (cond b x y)
stays_if shared true x y one other = one
stays_if shared false x y one other = other

stays-open : (shared : Shared) (session : Session) (x y : Said) → Stays shared x → Stays shared y → Stays shared (if is_open session shared.sessions then x else y)
stays-open shared session x y = stays_if shared (is_open session shared.sessions) x y

stays-off : (shared : Shared) (x y : Said) → Stays shared x → Stays shared y → Stays shared (if is_off shared.device then x else y)
stays-off shared x y = stays_if shared (is_off shared.device) x y

stays-cancels : (shared : Shared) (session : Session) (id : ℕ) (found : List (Request Command)) → Stays shared (cancels shared session id found)
stays-cancels shared session id found = stays_if shared _ _ _ refl (length-ended_where (is_canceled shared session id) _ shared.requests)

stays-loads : (shared : Shared) (w : DiskWord) → Stays shared (loads shared w)
stays-loads shared word.Quiet = refl
stays-loads shared word.Done = refl
stays-loads shared (word.Failed count) = refl
stays-loads shared (word.Cut count) = length-ended_where (λ asked. true) _ shared.requests
stays-loads shared (word.Loaded rows) = refl
stays-loads shared (word.Bad slot) = refl

stays-replaces : (shared : Shared) (owner : Owner) (todo : List Change) (done : Shared → Said) (w : DiskWord) → ((other : Shared) → Stays other (done other)) → Stays shared (replaces shared owner todo done w)
stays-replaces shared owner todo done word.Quiet ends = ends _
stays-replaces shared owner todo done word.Done ends = ends _
stays-replaces shared owner todo done (word.Failed count) ends = length-finished _ shared.requests
stays-replaces shared owner todo done (word.Cut count) ends = length-ended_where (λ asked. true) _ shared.requests
stays-replaces shared owner todo done (word.Loaded rows) ends = ends _
stays-replaces shared owner todo done (word.Bad slot) ends = ends _

stays-reset : (shared : Shared) (owner : Owner) (w : DiskWord) (loaded : Said) → Stays shared loaded → Stays shared (reset_with owner w loaded)
stays-reset shared owner word.Quiet loaded same = length-finished _ loaded.shared.requests ∙ same
stays-reset shared owner word.Done loaded same = length-finished _ loaded.shared.requests ∙ same
stays-reset shared owner (word.Failed count) loaded same = length-finished _ loaded.shared.requests ∙ same
stays-reset shared owner (word.Cut count) loaded same = same
stays-reset shared owner (word.Loaded rows) loaded same = length-finished _ loaded.shared.requests ∙ same
stays-reset shared owner (word.Bad slot) loaded same = length-finished _ loaded.shared.requests ∙ same

stays-performs : (set : Setting) (shared : Shared) (held : List ℕ) (owner : Owner) (found : Work) (w : DiskWord) → Stays shared (performs set shared held owner found w)
stays-performs set shared held owner work.Waits w = refl
stays-performs set shared held owner (work.Refuse refusal accused) w = length-finished _ shared.requests
stays-performs set shared held owner (work.Answer answer) w = length-finished _ shared.requests
stays-performs set shared held owner (work.Maintain on) w = length-finished _ shared.requests
stays-performs set shared held owner (work.Keep slot row check from_part) w = stays-replaces shared owner (change_to (slot, row) ∷ []) (imports owner check from_part) w (λ other. length-finished (reply.Ok (answers.Key check)) other.requests)
stays-performs set shared held owner (work.Erase slot) w = stays-replaces shared owner (erasure slot ∷ []) (deletes owner) w (λ other. length-finished (reply.Ok answers.Done) other.requests)
stays-performs set shared held owner work.EraseAll w = stays-replaces shared owner (erasures shared.keys) (inits owner) w (λ other. length-finished (reply.Ok answers.Done) other.requests)
stays-performs set shared held owner (work.Release request first second draws) w = length-finished _ shared.requests
stays-performs set shared held owner work.Load w = stays-reset shared owner w (loads (record shared { part = []; maintain = false }) w) (stays-loads (record shared { part = []; maintain = false }) w)

stays-finish : (set : Setting) (shared : Shared) (held : List ℕ) (found : Option (Request Command)) (w : DiskWord) → Stays shared (finish_with set shared held found w)
stays-finish set shared held None w = refl
stays-finish set shared held (Some asked) w = stays-performs set shared held (owner_of asked) (work_of set shared (length held) asked.command) w

stays-entry : (shared : Shared) (asked : Request Command) (entry : Entry) (refusal : Option Refusal) → Stays shared (begin_entry shared asked entry refusal)
stays-entry shared asked entry None = length-begun_as (λ a. InWork a) (holder_of shared.line) shared.requests
stays-entry shared asked entry (Some refusal) = length-begun_as (λ a. Gone a.id a.session (reply.No refusal)) (holder_of shared.line) shared.requests

stays-as : (shared : Shared) (asked : Request Command) (entry : Option Entry) → Stays shared (begin_as shared asked entry)
stays-as shared asked None = length-begun_as (λ a. InWork a) (holder_of shared.line) shared.requests
stays-as shared asked (Some entry) = stays-entry shared asked entry (first_of (device_refusal shared.device) (entry_refusal entry))

stays-begin : (shared : Shared) (current waiting : Option (Request Command)) → Stays shared (begin_with shared current waiting)
stays-begin shared (Some asked) waiting = refl
stays-begin shared None None = refl
stays-begin shared None (Some asked) = stays-as shared asked (entry_of asked.command)

count-seen : (set : Setting) (kept : Kept) (current : Running) (digits : List ℕ) (seen : Seen) → length (kept_seen set kept current digits seen).state.shared.requests ≡ length kept.shared.requests
count-seen set kept current digits Ignored = refl
count-seen set kept current digits (Took shown) = refl
count-seen set kept current digits (Ended shown completion) = length-finished _ kept.shared.requests

count-active : (b : Bool) (kept : Kept) (x : KeptAfter) → length x.state.shared.requests ≡ length kept.shared.requests → length (if b then x else record { state = kept; outs = [] }).state.shared.requests ≡ length kept.shared.requests
count-active true kept x same = same
count-active false kept x same = refl

count-press : (set : Setting) (kept : Kept) (found : Option Running) (key : Key) → length (kept_press_in set kept found key).state.shared.requests ≡ length kept.shared.requests
count-press set kept None key = refl
count-press set kept (Some current) key = count-active (has_key current.entry.active key) kept _ (count-seen set kept current _ _)

count-submit : (shared : Shared) (session : Session) (limit : ℕ) (command : Command) (refusal : Option Refusal) → length (submit_by refusal shared session limit command).shared.requests ≤ length shared.requests + 1
count-submit shared session limit command (Some refusal) = omega arith
count-submit shared session limit command None = rw (length-append shared.requests _) (omega arith)

le-of : {few many : ℕ} → few ≡ many → few ≤ many + 0
le-of same = omega (arith, same)

-- Submit draws one id at most, and no other step draws any
pub draws-next : (set : Setting) (kept : Kept) (s : Step) (w : DiskWord) → length (kept_next set kept s w).state.shared.requests ≤ length kept.shared.requests + draws s
draws-next set kept (step.Open session) w = le-of (stays-open kept.shared session _ _ refl refl)
draws-next set kept (step.Close session) w = le-of (stays-open kept.shared session _ _ (length-ended_where _ _ kept.shared.requests) refl)
draws-next set kept (step.Listen session classes) w = le-of (stays-open kept.shared session _ _ refl refl)
draws-next set kept (step.Lock session) w = le-of (stays-open kept.shared session _ _ refl refl)
draws-next set kept (step.Unlock session) w = le-of (stays-open kept.shared session _ _ (stays_if kept.shared (holds session kept.shared.line) _ _ refl refl) refl)
draws-next set kept (step.Submit session limit command) w = count-submit kept.shared session limit command (submit_refusal set.pin_rules kept.shared session command)
draws-next set kept (step.Cancel session id) w = le-of (stays-open kept.shared session _ _ (stays-cancels kept.shared session id (pending_where (is_canceled kept.shared session id) kept.shared.requests)) refl)
draws-next set kept step.Begin w = le-of (stays-off kept.shared _ _ refl (stays-begin kept.shared (request_in_work kept.shared.requests) (eligible (holder_of kept.shared.line) kept.shared.requests)))
draws-next set kept step.Finish w = le-of (stays-finish set kept.shared kept.held (request_in_work kept.shared.requests) w)
draws-next set kept (step.Press key) w = le-of (count-press set kept (running_entry kept.shared) key)
draws-next set kept (step.Tick ticks) w = le-of (length-ended_where _ _ kept.shared.requests)
draws-next set kept (step.Ask session question) w = le-of (stays-open kept.shared session _ _ refl refl)
draws-next set kept step.Off w = le-of (stays-off kept.shared _ _ refl (length-ended_where (λ asked. true) _ kept.shared.requests))
draws-next set kept step.Boot w = le-of (stays-off kept.shared _ _ (stays-loads kept.shared w) refl)
