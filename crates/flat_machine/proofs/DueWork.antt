-- A step that is due leaves less to do.
use Rattle.std.proofs.Common.{ap, arith, inl, inr, ◌∙◌}
use Rattle.std.specs.Prelude.{Bool, List, None, Option, Some, [], false, if◌then◌else◌, length, refl, true, ℕ, ◌+◌, ◌<◌, ◌∷◌, ◌≡◌, ◌≤◌, ◌⊎◌}
use Rattle.device_lock.specs.LockLine.{holder_of}
use Rattle.entry_core.specs.Entries.{Entry, entry_of, entry_refusal}
use Rattle.flat_machine.proofs.WorkChains.{work_ends}
use Rattle.flat_machine.specs.Commands.{work_of}
use Rattle.flat_machine.specs.EntrySteps.{begin_as, begin_entry, begin_with, first_of}
use Rattle.flat_machine.specs.FinishSteps.{deletes, finish_with, imports, inits, performs, reset_with}
use Rattle.flat_machine.specs.Kept.{Kept, kept_next}
use Rattle.flat_machine.specs.Machine.{due_finish, due_in, next_work}
use Rattle.flat_machine.specs.Power.{loads, replaces}
use Rattle.flat_machine.specs.RequestFacts.{work_left}
use Rattle.flat_machine.specs.Settings.{Setting}
use Rattle.flat_machine.specs.State.{Said, Shared, device_refusal, is_off, owner_of, unchanged}
use Rattle.flat_machine.specs.WorkFacts.{is_done}
use Rattle.flat_machine.specs.declared.types.Owner.{Owner}
use Rattle.flat_machine.specs.declared.types.Work.TheVariants as work
use Rattle.flat_machine.specs.declared.types.Work.{Work}
use Rattle.key_table.specs.Changes.{Change, change_to, erasure, erasures}
use Rattle.pad_steps.specs.declared.answers.Answer.TheVariants as answers
use Rattle.pad_steps.specs.declared.answers.Refusal.{Refusal}
use Rattle.pad_steps.specs.declared.answers.Reply.TheVariants as reply
use Rattle.pad_steps.specs.declared.answers.Reply.{Reply}
use Rattle.pad_steps.specs.declared.commands.Command.{Command}
use Rattle.pad_steps.specs.declared.steps.DiskWord.TheVariants as word
use Rattle.pad_steps.specs.declared.steps.DiskWord.{DiskWord}
use Rattle.pad_steps.specs.declared.steps.Step.TheVariants as step
use Rattle.pad_steps.specs.declared.steps.Step.{Step}
use Rattle.pad_words.specs.declared.numbers.Session.{Session}
use Rattle.request_queue.specs.Requests.{begun, eligible, ended_where, finished, may_begin, refused_at_begin, request_in_work}
use Rattle.request_queue.specs.declared.requests.Request.{Request}
use Rattle.request_queue.specs.declared.requests.RequestRow.TheVariants.{Gone, InWork, Waiting}
use Rattle.request_queue.specs.declared.requests.RequestRow.{RequestRow}

abbrev Rows : Type 0
Rows = List (RequestRow Command Reply)

-- a request that comes into work, or is refused as it does, leaves less to do
less-if : (b : Bool) (waiting : Request Command) (new : RequestRow Command Reply) (rows others : Rows) → work_left (new ∷ []) ≤ 1 → (b ≡ false → work_left others < work_left rows) → work_left (if b then new ∷ rows else Waiting waiting ∷ others) < 2 + work_left rows
less-if true waiting (Waiting asked) rows others small less = absurd (omega arith)
less-if true waiting (InWork asked) rows others small less = omega arith
less-if true waiting (Gone id session answer) rows others small less = omega arith
less-if false waiting new rows others small less = let fewer : work_left others < work_left rows = less refl in omega arith

found-not : (b : Bool) (asked found : Request Command) (rest : Option (Request Command)) → (if b then Some asked else rest) ≡ Some found → b ≡ false → rest ≡ Some found
found-not true asked found rest is differs = cc
found-not false asked found rest is differs = is

pub work_left-begun : (holder : Option Session) (rows : Rows) (found : Request Command) → eligible holder rows ≡ Some found → work_left (begun holder rows) < work_left rows
work_left-begun holder [] found is = cc
work_left-begun holder (Waiting asked ∷ rows) found is = less-if (may_begin holder asked) asked (InWork asked) rows (begun holder rows) (omega arith) (λ differs. work_left-begun holder rows found (found-not (may_begin holder asked) asked found (eligible holder rows) is differs))
work_left-begun holder (InWork asked ∷ rows) found is = let fewer : work_left (begun holder rows) < work_left rows = work_left-begun holder rows found is in omega arith
work_left-begun holder (Gone id session answer ∷ rows) found is = work_left-begun holder rows found is

pub work_left-refused : (answer : Reply) (holder : Option Session) (rows : Rows) (found : Request Command) → eligible holder rows ≡ Some found → work_left (refused_at_begin answer holder rows) < work_left rows
work_left-refused answer holder [] found is = cc
work_left-refused answer holder (Waiting asked ∷ rows) found is = less-if (may_begin holder asked) asked (Gone asked.id asked.session answer) rows (refused_at_begin answer holder rows) (omega arith) (λ differs. work_left-refused answer holder rows found (found-not (may_begin holder asked) asked found (eligible holder rows) is differs))
work_left-refused answer holder (InWork asked ∷ rows) found is = let fewer : work_left (refused_at_begin answer holder rows) < work_left rows = work_left-refused answer holder rows found is in omega arith
work_left-refused answer holder (Gone id session old ∷ rows) found is = work_left-refused answer holder rows found is

less-entry : (shared : Shared) (asked : Request Command) (entry : Entry) (refusal : Option Refusal) → eligible (holder_of shared.line) shared.requests ≡ Some asked → work_left (begin_entry shared asked entry refusal).shared.requests < work_left shared.requests
less-entry shared asked entry None is = work_left-begun (holder_of shared.line) shared.requests asked is
less-entry shared asked entry (Some refusal) is = work_left-refused (reply.No refusal) (holder_of shared.line) shared.requests asked is

less-as : (shared : Shared) (asked : Request Command) (entry : Option Entry) → eligible (holder_of shared.line) shared.requests ≡ Some asked → work_left (begin_as shared asked entry).shared.requests < work_left shared.requests
less-as shared asked None is = work_left-begun (holder_of shared.line) shared.requests asked is
less-as shared asked (Some entry) is = less-entry shared asked entry (first_of (device_refusal shared.device) (entry_refusal entry)) is

not-begin : (entry : Option Entry) → due_finish entry ≡ Some step.Begin → ⊥
not-begin None is = cc
not-begin (Some entry) is = cc

less-with : (shared : Shared) (work waiting : Option (Request Command)) → eligible (holder_of shared.line) shared.requests ≡ waiting → due_in work waiting ≡ Some step.Begin → work_left (begin_with shared work waiting).shared.requests < work_left shared.requests
less-with shared (Some asked) waiting found due = absurd (not-begin (entry_of asked.command) due)
less-with shared None None found due = cc
less-with shared None (Some asked) found due = less-as shared asked (entry_of asked.command) found

less-begin : (shared : Shared) (off : Bool) → off ≡ false → next_work shared ≡ Some step.Begin → work_left (if off then unchanged shared else begin_with shared (request_in_work shared.requests) (eligible (holder_of shared.line) shared.requests)).shared.requests < work_left shared.requests
less-begin shared true on due = cc
less-begin shared false on due = less-with shared (request_in_work shared.requests) (eligible (holder_of shared.line) shared.requests) refl due

-- the step that is due is Finish or Begin
due-is : (found : Step) (entry : Option Entry) → due_finish entry ≡ Some found → found ≡ step.Finish
due-is found None is = cc
due-is found (Some entry) is = cc

work-in : (found : Step) (work waiting : Option (Request Command)) → due_in work waiting ≡ Some found → (found ≡ step.Finish) ⊎ (found ≡ step.Begin)
work-in found (Some asked) waiting is = inl (due-is found (entry_of asked.command) is)
work-in found None None is = cc
work-in found None (Some asked) is = inr (begin-is found is)
  where
    begin-is : (found : Step) → Some step.Begin ≡ Some found → found ≡ step.Begin
    begin-is found is = cc

-- the request in work is gone, and so is every other that was pending where the device goes off
pub fewer-finished : (answer : Reply) (rows : Rows) (asked : Request Command) → request_in_work rows ≡ Some asked → work_left (finished answer rows) < work_left rows
fewer-finished answer [] asked is = cc
fewer-finished answer (Waiting other ∷ rows) asked is = let fewer : work_left (finished answer rows) < work_left rows = fewer-finished answer rows asked is in omega arith
fewer-finished answer (InWork other ∷ rows) asked is = omega arith
fewer-finished answer (Gone id session old ∷ rows) asked is = fewer-finished answer rows asked is

none_left : (answer : Reply) (rows : Rows) → work_left (ended_where (λ (asked : Request Command). true) answer rows) ≡ 0
none_left answer [] = refl
none_left answer (Waiting asked ∷ rows) = none_left answer rows
none_left answer (InWork asked ∷ rows) = none_left answer rows
none_left answer (Gone id session old ∷ rows) = none_left answer rows

fewer-ended : (answer : Reply) (rows : Rows) (asked : Request Command) → request_in_work rows ≡ Some asked → work_left (ended_where (λ (other : Request Command). true) answer rows) < work_left rows
fewer-ended answer rows asked is = rw (none_left answer rows) (let fewer : work_left (finished answer rows) < work_left rows = fewer-finished answer rows asked is in omega arith)

-- the step leaves fewer of these requests
abbrev Fewer : Rows → Said → Type 0
Fewer rows effect = work_left effect.shared.requests < work_left rows

fewer-replaces : (shared : Shared) (owner : Owner) (todo : List Change) (done : Shared → Said) (asked : Request Command) (w : DiskWord) → request_in_work shared.requests ≡ Some asked
    → ((other : Shared) → request_in_work other.requests ≡ Some asked → Fewer other.requests (done other)) → Fewer shared.requests (replaces shared owner todo done w)
fewer-replaces shared owner todo done asked word.Quiet is ends = ends _ is
fewer-replaces shared owner todo done asked word.Done is ends = ends _ is
fewer-replaces shared owner todo done asked (word.Failed count) is ends = fewer-finished _ shared.requests asked is
fewer-replaces shared owner todo done asked (word.Cut count) is ends = fewer-ended _ shared.requests asked is
fewer-replaces shared owner todo done asked (word.Loaded rows) is ends = ends _ is
fewer-replaces shared owner todo done asked (word.Bad slot) is ends = ends _ is

fewer-resets : (shared : Shared) (owner : Owner) (asked : Request Command) (w : DiskWord) → request_in_work shared.requests ≡ Some asked → Fewer shared.requests (reset_with owner w (loads shared w))
fewer-resets shared owner asked word.Quiet is = fewer-finished _ shared.requests asked is
fewer-resets shared owner asked word.Done is = fewer-finished _ shared.requests asked is
fewer-resets shared owner asked (word.Failed count) is = fewer-finished _ shared.requests asked is
fewer-resets shared owner asked (word.Cut count) is = fewer-ended _ shared.requests asked is
fewer-resets shared owner asked (word.Loaded rows) is = fewer-finished _ shared.requests asked is
fewer-resets shared owner asked (word.Bad slot) is = fewer-finished _ shared.requests asked is

fewer-performs : (set : Setting) (shared : Shared) (held : List ℕ) (owner : Owner) (asked : Request Command) (found : Work) (w : DiskWord) → request_in_work shared.requests ≡ Some asked → is_done found ≡ true → Fewer shared.requests (performs set shared held owner found w)
fewer-performs set shared held owner asked work.Waits w is done = cc
fewer-performs set shared held owner asked (work.Refuse refusal accused) w is done = fewer-finished _ shared.requests asked is
fewer-performs set shared held owner asked (work.Answer answer) w is done = fewer-finished _ shared.requests asked is
fewer-performs set shared held owner asked (work.Maintain on) w is done = fewer-finished _ shared.requests asked is
fewer-performs set shared held owner asked (work.Keep slot row check from_part) w is done = fewer-replaces shared owner (change_to (slot, row) ∷ []) (imports owner check from_part) asked w is (λ other at. fewer-finished (reply.Ok (answers.Key check)) other.requests asked at)
fewer-performs set shared held owner asked (work.Erase slot) w is done = fewer-replaces shared owner (erasure slot ∷ []) (deletes owner) asked w is (λ other at. fewer-finished (reply.Ok answers.Done) other.requests asked at)
fewer-performs set shared held owner asked work.EraseAll w is done = fewer-replaces shared owner (erasures shared.keys) (inits owner) asked w is (λ other at. fewer-finished (reply.Ok answers.Done) other.requests asked at)
fewer-performs set shared held owner asked (work.Release request first second draws) w is done = fewer-finished _ shared.requests asked is
fewer-performs set shared held owner asked work.Load w is done = fewer-resets (record shared { part = []; maintain = false }) owner asked w is

no_entry : (entry : Option Entry) → due_finish entry ≡ Some step.Finish → entry ≡ None
no_entry None due = refl
no_entry (Some entry) due = cc

module _ (set : Setting) where
  less-finish : (shared : Shared) (held : List ℕ) (found waiting : Option (Request Command)) (w : DiskWord) → request_in_work shared.requests ≡ found → due_in found waiting ≡ Some step.Finish → Fewer shared.requests (finish_with set shared held found w)
  less-finish shared held None None w is due = cc
  less-finish shared held None (Some asked) w is due = cc
  less-finish shared held (Some asked) waiting w is due =
      fewer-performs set shared held (owner_of asked) asked (work_of set shared (length held) asked.command) w is (work_ends set shared (length held) asked.command (no_entry (entry_of asked.command) due))

  less-work : (kept : Kept) (s : Step) (w : DiskWord) → (s ≡ step.Finish) ⊎ (s ≡ step.Begin) → is_off kept.shared.device ≡ false → next_work kept.shared ≡ Some s → work_left (kept_next set kept s w).state.shared.requests < work_left kept.shared.requests
  less-work kept s w (inl is) on due = rw is (less-finish kept.shared kept.held (request_in_work kept.shared.requests) (eligible (holder_of kept.shared.line) kept.shared.requests) w refl (due ∙ ap (λ (t : Step). Some t) is))
  less-work kept s w (inr is) on due = rw is (less-begin kept.shared (is_off kept.shared.device) on (due ∙ ap (λ (t : Step). Some t) is))

  -- a step that is due leaves less to do, while the device is on
  pub less-next : (kept : Kept) (s : Step) (w : DiskWord) → is_off kept.shared.device ≡ false → next_work kept.shared ≡ Some s → work_left (kept_next set kept s w).state.shared.requests < work_left kept.shared.requests
  less-next kept s w on due = less-work kept s w (work-in s (request_in_work kept.shared.requests) (eligible (holder_of kept.shared.line) kept.shared.requests) due) on due
