-- What a prepared step says fits its places, and holds no list where it was not known; and a loading has room for its rows.
use Rattle.device_lock.specs.LockLine.{holds, locked_out, out_of_line}
use Rattle.disk_core.specs.DiskStates.{DiskState}
use Rattle.entry_core.specs.Entries.{active_seen, after_value, digit_in}
use Rattle.entry_core.specs.declared.seen.Seen.TheVariants.{Ended, Ignored, Took}
use Rattle.entry_core.specs.declared.seen.Seen.{Seen}
use Rattle.flat_machine.specs.Commands.{work_of}
use Rattle.flat_machine.specs.EntrySteps.{entry_answer}
use Rattle.flat_machine.specs.FinishSteps.{deletes, device_reply, imports, inits, performs, plan_of, resets}
use Rattle.flat_machine.specs.Kept.{Kept, KeptAfter, kept_next, kept_press_in, kept_seen}
use Rattle.flat_machine.specs.Machine.{next}
use Rattle.flat_machine.specs.PinCommands.{pin_answer, pin_reply}
use Rattle.flat_machine.specs.Power.{Plan, fits_plan, loads, powers_off, replaces}
use Rattle.flat_machine.specs.Sessions.{execute_event, grants, grants_after, service_events, told_lock}
use Rattle.flat_machine.specs.Settings.{Setting}
use Rattle.flat_machine.specs.State.{Running, Said, Shared, accuses, refuses, replies}
use Rattle.flat_machine.specs.WorkFacts.{is_load, is_reset}
use Rattle.flat_machine.specs.declared.types.Device.TheVariants as devices
use Rattle.flat_machine.specs.declared.types.Device.{Device}
use Rattle.flat_machine.specs.declared.types.Owner.{Owner}
use Rattle.flat_machine.specs.declared.types.Work.TheVariants as work
use Rattle.flat_machine.specs.declared.types.Work.{Work}
use Rattle.key_source.specs.Keys.{has_key}
use Rattle.key_source.specs.declared.Key.{Key}
use Rattle.key_table.specs.Changes.{Change, change_to, changed, erasure, erasures}
use Rattle.key_table.specs.KeyRows.{KeyRows}
use Rattle.pad_machine.proofs.EndingLemmas.{fewer_pass}
use Rattle.pad_machine.proofs.HearerLemmas.{length_hearers}
use Rattle.pad_machine.proofs.PlanLemmas.{same_plan}
use Rattle.pad_machine.proofs.StepLemmas.{effect-is, step-planned}
use Rattle.pad_machine.specs.Endings.{cancels, closes, is_meant, meant_in, ticks_to}
use Rattle.pad_machine.specs.Memory.{pending_in_all}
use Rattle.pad_machine.specs.Prepares.{IsPlanned, IsPrepared, calls_of, deciding, effect_of, places_of, pressed, said_of, with_key}
use Rattle.pad_machine.specs.Runs.{IsKeptStep, IsPadStep, PadStepOnDisk}
use Rattle.pad_machine.specs.Stands.{Common, PadState, Whole, kept_by, pad_state, running_of, set_by, set_of, shared_of}
use Rattle.pad_machine.specs.Twice.{AreAsKnown, HasRoomForWord, answer_holds_list, answer_out, holds_list, known_out, reply_holds_list, rows_room}
use Rattle.pad_machine.specs.declared.endings.Ending.TheVariants as ending
use Rattle.pad_machine.specs.declared.keyless.KeylessStep.{KeylessStep}
use Rattle.pad_machine.specs.declared.pad.Stepped.{Stepped}
use Rattle.pad_machine.specs.declared.prepared.Prepared.TheVariants as prepared
use Rattle.pad_machine.specs.declared.prepared.Prepared.{Prepared}
use Rattle.pad_steps.specs.declared.answers.Answer.TheVariants as answers
use Rattle.pad_steps.specs.declared.answers.Completion.{Completion}
use Rattle.pad_steps.specs.declared.answers.Event.TheVariants as events
use Rattle.pad_steps.specs.declared.answers.Event.{Event}
use Rattle.pad_steps.specs.declared.answers.Out.TheVariants as out
use Rattle.pad_steps.specs.declared.answers.Out.{Out}
use Rattle.pad_steps.specs.declared.answers.Refusal.TheVariants as refusals
use Rattle.pad_steps.specs.declared.answers.Refusal.{Refusal}
use Rattle.pad_steps.specs.declared.answers.Reply.TheVariants as replied
use Rattle.pad_steps.specs.declared.answers.Reply.{Reply}
use Rattle.pad_steps.specs.declared.answers.Told.TheVariants as telling
use Rattle.pad_steps.specs.declared.commands.Command.{Command}
use Rattle.pad_steps.specs.declared.commands.EntryKind.TheVariants as entry_kind
use Rattle.pad_steps.specs.declared.commands.EntryKind.{EntryKind}
use Rattle.pad_steps.specs.declared.commands.Verify.{Verify}
use Rattle.pad_steps.specs.declared.steps.Class.TheVariants.{Service}
use Rattle.pad_steps.specs.declared.steps.DiskWord.TheVariants as words
use Rattle.pad_steps.specs.declared.steps.DiskWord.{DiskWord}
use Rattle.pad_steps.specs.declared.steps.Step.{Step}
use Rattle.pad_words.specs.declared.numbers.Session.{Session}
use Rattle.pin_blocks.specs.PinRules.{PinRules}
use Rattle.pin_blocks.specs.declared.work.PinAnswer.TheVariants as pin_answers
use Rattle.pin_blocks.specs.declared.work.PinAnswer.{PinAnswer}
use Rattle.request_queue.specs.Requests.{pending_count, pending_where}
use Rattle.request_queue.specs.declared.requests.Request.{Request}
use Rattle.session_book.specs.Sessions.{hearers}
use Rattle.session_book.specs.declared.sessions.SessionRow.{SessionRow}
use Rattle.std.proofs.Common.{ap, arith, refl, subst, sym, ◌∙◌}
use Rattle.std.proofs.lemmas.Grind.{common_steps}
use Rattle.std.proofs.lemmas.List.Elements.{All-append, All-cons, All-map, All-nil}
use Rattle.std.proofs.lemmas.List.{length-append, length-map}
use Rattle.std.specs.List.{range_with_len}
use Rattle.std.specs.Prelude.{Bool, IsTrue, List, None, Option, Some, [], drop, false, if◌then◌else◌, length, map, max, take, true, vec_capacity, ℕ, ◌++◌, ◌+◌, ◌-◌, ◌∷◌, ◌≡◌, ◌≤◌}

-- the outs fit so many places, and are the one that was known, or hold no list
pub record IsToldAgain (places : ℕ) (only : Option Out) (said : List Out) : Type 0 where
  pub few : length said ≤ places
  pub known : AreAsKnown only said

-- none was known
abbrev Brief : ℕ → List Out → Type 0
Brief places said = IsToldAgain places None said

abbrev nothing_said : (places : ℕ) → Brief places []
nothing_said places = record { few = omega arith; known = All-nil (λ item. holds_list item ≡ false) }

one_said : (only : Out) → holds_list only ≡ false → Brief 1 (only ∷ [])
one_said only listless = record { few = omega arith; known = All-cons (λ item. holds_list item ≡ false) only [] listless (All-nil (λ item. holds_list item ≡ false)) }

both_said : (a b : ℕ) (first second : List Out) → Brief a first → Brief b second → Brief (a + b) (first ++ second)
both_said a b first second one other = record {
  few = omega (arith, length-append first second, one.few, other.few);
  known = All-append (λ item. holds_list item ≡ false) first second one.known other.known;
}

with_room : (a b : ℕ) (said : List Out) → a ≤ b → Brief a said → Brief b said
with_room a b said more brief = record { few = omega (arith, more, brief.few); known = brief.known }

-- requests that end with a refusal
all_told : (refusal : Refusal) (requests : List (Request Command)) → Brief (length requests) (map (λ (request : Request Command). out.Ended request.session request.id (replied.No refusal)) requests)
all_told refusal requests = record {
  few = omega (arith, length-map requests (λ (request : Request Command). out.Ended request.session request.id (replied.No refusal)));
  known = All-map (λ item. holds_list item ≡ false) (λ (request : Request Command). out.Ended request.session request.id (replied.No refusal)) requests (λ k d lt. refl);
}

off_told : (shared : Shared) → Brief (pending_in_all shared.requests) (powers_off shared).outs
off_told shared = all_told refusals.ConnectionLost (pending_where (λ request. true) shared.requests)

-- events
events_told : (rows : List SessionRow) (event : Event) → Brief (length rows) (service_events rows event)
events_told rows event = record {
  few = omega (arith, length-map (hearers Service rows) (λ (session : Session). out.Event session event), length_hearers Service rows);
  known = All-map (λ item. holds_list item ≡ false) (λ (session : Session). out.Event session event) (hearers Service rows) (λ k d lt. refl);
}

if_told : (b : Bool) (said : List Out) → Brief 1 said → Brief 1 (if b then said else [])
if_told true said brief = brief
if_told false said brief = nothing_said 1

event_told : (rows : List SessionRow) (session : Session) (event : Event) → Brief 1 (execute_event rows session event)
event_told rows session event = if_told _ (out.Event session event ∷ []) (one_said (out.Event session event) refl)

grants_told : (line : List Session) → Brief 1 (grants line)
grants_told [] = nothing_said 1
grants_told (first ∷ line) = one_said (out.Told first telling.Granted) refl

grants_after_told : (session : Session) (line : List Session) → Brief 1 (grants_after session line)
grants_after_told session line = if_told (holds session line) (grants (out_of_line session line)) (grants_told (out_of_line session line))

lock_listless : (session : Session) (found : Option Session) → holds_list (out.Told session (told_lock found)) ≡ false
lock_listless session None = refl
lock_listless session (Some holder) = refl

-- the request in work ends
reply_told : (shared : Shared) (owner : Owner) (reply : Reply) → reply_holds_list reply ≡ false → Brief 1 (replies shared owner reply).outs
reply_told shared owner reply listless = one_said (out.Ended owner.session owner.id reply) listless

-- the places of a Finish
abbrev finish_places : Shared → ℕ
finish_places shared = max (length shared.sessions + 1) (pending_in_all shared.requests)

in_finish : (a : ℕ) (shared : Shared) (said : List Out) → a ≤ length shared.sessions + 1 → Brief a said → Brief (finish_places shared) said
in_finish a shared said few brief = with_room a (finish_places shared) said (omega (arith, few)) brief

replied_in_finish : (shared : Shared) (owner : Owner) (reply : Reply) → reply_holds_list reply ≡ false → Brief (finish_places shared) (replies shared owner reply).outs
replied_in_finish shared owner reply listless = in_finish 1 shared (replies shared owner reply).outs (omega arith) (reply_told shared owner reply listless)

off_in_finish : (shared : Shared) → Brief (finish_places shared) (powers_off shared).outs
off_in_finish shared = with_room (pending_in_all shared.requests) (finish_places shared) (powers_off shared).outs (omega arith) (off_told shared)

accused_told : (shared : Shared) (accused : Option (List ℕ)) (refusal : Refusal) → Brief (length shared.sessions) (accuses shared accused refusal)
accused_told shared None refusal = nothing_said (length shared.sessions)
accused_told shared (Some name) refusal = events_told shared.sessions (events.IllegalKeyAccess name refusal)

refused_told : (shared : Shared) (owner : Owner) (refusal : Refusal) (accused : Option (List ℕ)) → Brief (finish_places shared) (refuses shared owner refusal accused).outs
refused_told shared owner refusal accused = in_finish (1 + length shared.sessions) shared (refuses shared owner refusal accused).outs (omega arith)
    (both_said 1 (length shared.sessions) (replies shared owner (replied.No refusal)).outs (accuses shared accused refusal) (reply_told shared owner (replied.No refusal) refl) (accused_told shared accused refusal))

inits_told : (owner : Owner) (shared : Shared) → Brief (finish_places shared) (inits owner shared).outs
inits_told owner shared = in_finish (1 + length shared.sessions) shared (inits owner shared).outs (omega arith)
    (both_said 1 (length shared.sessions) (out.Ended owner.session owner.id (replied.Ok answers.Done) ∷ []) (service_events shared.sessions events.Initialized)
    (one_said (out.Ended owner.session owner.id (replied.Ok answers.Done)) refl) (events_told shared.sessions events.Initialized))

replacing_told : (shared : Shared) (owner : Owner) (todo : List Change) (done : Shared → Said) (word : DiskWord) → ((keys : KeyRows) → Brief (finish_places shared) (done (record shared { keys = keys })).outs)
    → Brief (finish_places shared) (replaces shared owner todo done word).outs
replacing_told shared owner todo done words.Quiet brief = brief (changed todo shared.keys)
replacing_told shared owner todo done words.Done brief = brief (changed todo shared.keys)
replacing_told shared owner todo done (words.Failed count) brief = replied_in_finish shared owner (replied.No refusals.HardwareError) refl
replacing_told shared owner todo done (words.Cut count) brief = off_in_finish shared
replacing_told shared owner todo done (words.Loaded rows) brief = brief (changed todo shared.keys)
replacing_told shared owner todo done (words.Bad slot) brief = brief (changed todo shared.keys)

device_listless : (device : Device) → reply_holds_list (device_reply device) ≡ false
device_listless devices.Off = refl
device_listless devices.Ready = refl
device_listless devices.Stopped = refl
device_listless (devices.Bad slot) = refl

reset_told : (owner : Owner) (word : DiskWord) (shared : Shared) → Brief (finish_places shared) (resets owner word shared).outs
reset_told owner words.Quiet shared = replied_in_finish shared owner (device_reply shared.device) (device_listless shared.device)
reset_told owner words.Done shared = replied_in_finish shared owner (device_reply shared.device) (device_listless shared.device)
reset_told owner (words.Failed count) shared = replied_in_finish shared owner (replied.No refusals.HardwareError) refl
reset_told owner (words.Cut count) shared = off_in_finish shared
reset_told owner (words.Loaded rows) shared = replied_in_finish shared owner (replied.Ok answers.Done) refl
reset_told owner (words.Bad slot) shared = replied_in_finish shared owner (replied.No (refusals.BadStore slot)) refl

pin_listless : (answer : PinAnswer) → answer_holds_list (pin_reply answer) ≡ false
pin_listless (pin_answers.Block block) = refl
pin_listless (pin_answers.Wide left right) = refl
pin_listless (pin_answers.Checked holds) = refl

module _ (set : Setting) (shared : Shared) (held : List ℕ) (owner : Owner) where
  work_told : (wanted : Work) (word : DiskWord) → IsToldAgain (finish_places shared) (answer_out owner wanted) (performs set shared held owner wanted word).outs
  work_told work.Waits word = nothing_said (finish_places shared)
  work_told (work.Refuse refusal accused) word = refused_told shared owner refusal accused
  work_told (work.Answer answer) word = record { few = omega arith; known = refl }
  work_told (work.Maintain on) word = replied_in_finish shared owner (replied.Ok answers.Done) refl
  work_told (work.Keep slot row check from_part) word = replacing_told shared owner (change_to (slot, row) ∷ []) (imports owner check from_part) word (λ keys. replied_in_finish shared owner (replied.Ok (answers.Key check)) refl)
  work_told (work.Erase slot) word = replacing_told shared owner (erasure slot ∷ []) (deletes owner) word (λ keys. replied_in_finish shared owner (replied.Ok answers.Done) refl)
  work_told work.EraseAll word = replacing_told shared owner (erasures shared.keys) (inits owner) word (λ keys. inits_told owner shared)
  work_told (work.Release wanted first second draws) word = replied_in_finish shared owner (replied.Ok (pin_answer set shared.drawn held wanted first second draws))
      (pin_listless (set.pin_rules.result wanted held first second (map set.fill_word (range_with_len shared.drawn draws))))
  work_told work.Load word = reset_told owner word shared

boot_told : (shared : Shared) (word : DiskWord) → Brief (pending_in_all shared.requests) (loads shared word).outs
boot_told shared words.Quiet = nothing_said (pending_in_all shared.requests)
boot_told shared words.Done = nothing_said (pending_in_all shared.requests)
boot_told shared (words.Failed count) = nothing_said (pending_in_all shared.requests)
boot_told shared (words.Cut count) = off_told shared
boot_told shared (words.Loaded rows) = nothing_said (pending_in_all shared.requests)
boot_told shared (words.Bad slot) = nothing_said (pending_in_all shared.requests)

close_told : (session : Session) (shared : Shared) → Brief (pending_count session shared.requests + 2) (closes session shared).outs
close_told session shared =
    let waiting = pending_where (is_meant (ending.Of session)) shared.requests in
    both_said (length waiting) 2 (map (λ (request : Request Command). out.Ended request.session request.id (replied.No refusals.Canceled)) waiting) (out.Told session telling.Closed ∷ grants_after session shared.line)
    (all_told refusals.Canceled waiting)
    (both_said 1 1 (out.Told session telling.Closed ∷ []) (grants_after session shared.line) (one_said (out.Told session telling.Closed) refl) (grants_after_told session shared.line))

cancel_told : (session : Session) (floor id count : ℕ) (shared : Shared) → Brief (length (meant_in (ending.Named session floor id) shared.requests) + 1) (cancels session floor id count shared).outs
cancel_told session floor id count shared =
    let named = meant_in (ending.Named session floor id) shared.requests in
    with_room (1 + length named) (length named + 1) (cancels session floor id count shared).outs (omega arith)
    (both_said 1 (length named) (out.Told session (telling.Canceled count) ∷ []) (map (λ (request : Request Command). out.Ended request.session request.id (replied.No refusals.Canceled)) named)
    (one_said (out.Told session (telling.Canceled count)) refl) (all_told refusals.Canceled named))

tick_told : (clock : ℕ) (shared : Shared) → Brief (pending_in_all shared.requests) (ticks_to clock shared).outs
tick_told clock shared =
    let due = meant_in (ending.Due clock) shared.requests in
    with_room (length due) (pending_in_all shared.requests) (ticks_to clock shared).outs (fewer_pass (is_meant (ending.Due clock)) shared.requests) (all_told refusals.Timeout due)

module _ (set : Setting) (common : Common) (held : List ℕ) where
  -- what is said of a prepared step that is no press
  keyless_told : (step : Prepared) (word : DiskWord) → IsToldAgain (places_of common step) (known_out step) (said_of set step (shared_of common) held word).outs
  keyless_told prepared.Nothing word = nothing_said 0
  keyless_told (prepared.Say only) word = record { few = omega arith; known = refl }
  keyless_told (prepared.Open session) word = one_said (out.Told session telling.Opened) refl
  keyless_told (prepared.Close session) word = close_told session (shared_of common)
  keyless_told (prepared.Lock session) word = one_said (out.Told session (told_lock (locked_out session common.line))) (lock_listless session (locked_out session common.line))
  keyless_told (prepared.Unlock session) word = both_said 1 1 (out.Told session telling.Released ∷ []) (grants (out_of_line session common.line)) (one_said (out.Told session telling.Released) refl) (grants_told (out_of_line session common.line))
  keyless_told (prepared.Submit session limit command) word = one_said (out.Request session (length common.requests + 1)) refl
  keyless_told (prepared.Listen session classes) word = one_said (out.Told session (telling.Listening classes)) refl
  keyless_told (prepared.Cancel session floor id count) word = cancel_told session floor id count (shared_of common)
  keyless_told (prepared.Tick clock) word = tick_told clock (shared_of common)
  keyless_told (prepared.Begin id) word = nothing_said 1
  keyless_told (prepared.RefuseEntry owner refusal) word = one_said (out.Ended owner.session owner.id (replied.No refusal)) refl
  keyless_told (prepared.StartEntry owner kind) word = event_told common.sessions owner.session events.EnterData
  keyless_told (prepared.Finish owner wanted told) word = work_told set (shared_of common) held owner wanted word
  keyless_told (prepared.Reset owner kept) word = reset_told owner word (shared_of common)
  keyless_told (prepared.Press current) word = nothing_said 2
  keyless_told prepared.Off word = off_told (shared_of common)
  keyless_told (prepared.Boot kept) word = boot_told (shared_of common) word

-- a press
module _ (set : Setting) (kept : Kept) where
  entry_listless : (kind : EntryKind) (check : Verify) (completion : Completion) (digits : List ℕ) → answer_holds_list (entry_answer set.cipher kind check completion digits) ≡ false
  entry_listless entry_kind.Pin check completion digits = refl
  entry_listless entry_kind.Figures check completion digits = refl
  entry_listless entry_kind.Part check completion digits = refl

  seen_told : (current : Running) (digits : List ℕ) (seen : Seen) → Brief 2 (kept_seen set kept current digits seen).outs
  seen_told current digits Ignored = nothing_said 2
  seen_told current digits (Took shown) = with_room 1 2 (execute_event kept.shared.sessions current.session (events.Key shown)) (omega arith) (event_told kept.shared.sessions current.session (events.Key shown))
  seen_told current digits (Ended shown completion) =
      let reply = replied.Ok (entry_answer set.cipher current.entry.kind current.entry.check completion digits) in
      both_said 1 1 (execute_event kept.shared.sessions current.session (events.Key shown)) (out.Ended current.session current.id reply ∷ [])
      (event_told kept.shared.sessions current.session (events.Key shown)) (one_said (out.Ended current.session current.id reply) (entry_listless current.entry.kind current.entry.check completion digits))

  press_told : (current : Running) (key : Key) → Brief 2 (kept_press_in set kept (Some current) key).outs
  press_told current key = active (has_key current.entry.active key) (kept_seen set kept current (after_value current.entry (digit_in current.entry.kind key) key kept.digits) (active_seen current.entry (length kept.digits) key))
      (seen_told current (after_value current.entry (digit_in current.entry.kind key) key kept.digits) (active_seen current.entry (length kept.digits) key))
    where
      active : (b : Bool) (seen : KeptAfter) → Brief 2 seen.outs → Brief 2 (if b then seen else record { state = kept; outs = [] }).outs
      active true seen brief = brief
      active false seen brief = nothing_said 2

-- what is said of a prepared step
pub told_again : (pin_rules : PinRules) (key : Option Key) (whole : Whole) (step : Prepared) (word : DiskWord) → IsToldAgain (places_of whole.common step) (known_out step) (effect_of pin_rules key whole step word).outs
told_again pin_rules None whole step word = keyless_told (set_by pin_rules whole.seed) whole.common whole.held step word
told_again pin_rules (Some key) whole (prepared.Press current) word = press_told (set_by pin_rules whole.seed) (kept_by whole) (running_of current) key
told_again pin_rules (Some key) whole prepared.Nothing word = keyless_told (set_by pin_rules whole.seed) whole.common whole.held prepared.Nothing word
told_again pin_rules (Some key) whole (prepared.Say only) word = keyless_told (set_by pin_rules whole.seed) whole.common whole.held (prepared.Say only) word
told_again pin_rules (Some key) whole (prepared.Open session) word = keyless_told (set_by pin_rules whole.seed) whole.common whole.held (prepared.Open session) word
told_again pin_rules (Some key) whole (prepared.Close session) word = keyless_told (set_by pin_rules whole.seed) whole.common whole.held (prepared.Close session) word
told_again pin_rules (Some key) whole (prepared.Lock session) word = keyless_told (set_by pin_rules whole.seed) whole.common whole.held (prepared.Lock session) word
told_again pin_rules (Some key) whole (prepared.Unlock session) word = keyless_told (set_by pin_rules whole.seed) whole.common whole.held (prepared.Unlock session) word
told_again pin_rules (Some key) whole (prepared.Submit session limit command) word = keyless_told (set_by pin_rules whole.seed) whole.common whole.held (prepared.Submit session limit command) word
told_again pin_rules (Some key) whole (prepared.Listen session classes) word = keyless_told (set_by pin_rules whole.seed) whole.common whole.held (prepared.Listen session classes) word
told_again pin_rules (Some key) whole (prepared.Cancel session floor id count) word = keyless_told (set_by pin_rules whole.seed) whole.common whole.held (prepared.Cancel session floor id count) word
told_again pin_rules (Some key) whole (prepared.Tick clock) word = keyless_told (set_by pin_rules whole.seed) whole.common whole.held (prepared.Tick clock) word
told_again pin_rules (Some key) whole (prepared.Begin id) word = keyless_told (set_by pin_rules whole.seed) whole.common whole.held (prepared.Begin id) word
told_again pin_rules (Some key) whole (prepared.RefuseEntry owner refusal) word = keyless_told (set_by pin_rules whole.seed) whole.common whole.held (prepared.RefuseEntry owner refusal) word
told_again pin_rules (Some key) whole (prepared.StartEntry owner kind) word = keyless_told (set_by pin_rules whole.seed) whole.common whole.held (prepared.StartEntry owner kind) word
told_again pin_rules (Some key) whole (prepared.Finish owner wanted told) word = keyless_told (set_by pin_rules whole.seed) whole.common whole.held (prepared.Finish owner wanted told) word
told_again pin_rules (Some key) whole (prepared.Reset owner kept) word = keyless_told (set_by pin_rules whole.seed) whole.common whole.held (prepared.Reset owner kept) word
told_again pin_rules (Some key) whole prepared.Off word = keyless_told (set_by pin_rules whole.seed) whole.common whole.held prepared.Off word
told_again pin_rules (Some key) whole (prepared.Boot kept) word = keyless_told (set_by pin_rules whole.seed) whole.common whole.held (prepared.Boot kept) word

-- a word that fits what was prepared loads rows for which there is room
module _ (pin_rules : PinRules) (whole : Whole) (rows : KeyRows) (few : length rows ≤ 64) where
  unloaded : (wanted : Work) (loaded : KeyRows) → is_load wanted ≡ false → IsTrue (fits_plan (plan_of (shared_of whole.common) wanted) (words.Loaded loaded)) → ⊥
  unloaded work.Waits loaded other fits = cc
  unloaded (work.Refuse refusal accused) loaded other fits = cc
  unloaded (work.Answer answer) loaded other fits = cc
  unloaded (work.Maintain on) loaded other fits = cc
  unloaded (work.Keep slot row check from_part) loaded other fits = cc
  unloaded (work.Erase slot) loaded other fits = cc
  unloaded work.EraseAll loaded other fits = cc
  unloaded (work.Release wanted first second draws) loaded other fits = cc
  unloaded work.Load loaded other fits = cc

  room_for_rows : (key : Option Key) (step : Prepared) (loaded : KeyRows)
      → ((count : ℕ) (command : Command) → is_reset command ≡ false → is_load (work_of (deciding pin_rules) (shared_of whole.common) count command) ≡ false)
      → IsPrepared pin_rules whole.common (length whole.held) step → IsTrue (fits_plan (calls_of (shared_of whole.common) step) (words.Loaded loaded))
      → rows ≡ (effect_of pin_rules key whole step (words.Loaded loaded)).state.shared.keys → HasRoomForWord (words.Loaded loaded) (rows_room step)
  room_for_rows key prepared.Nothing loaded loads fits planned same = cc
  room_for_rows key (prepared.Say only) loaded loads fits planned same = cc
  room_for_rows key (prepared.Open session) loaded loads fits planned same = cc
  room_for_rows key (prepared.Close session) loaded loads fits planned same = cc
  room_for_rows key (prepared.Lock session) loaded loads fits planned same = cc
  room_for_rows key (prepared.Unlock session) loaded loads fits planned same = cc
  room_for_rows key (prepared.Submit session limit command) loaded loads fits planned same = cc
  room_for_rows key (prepared.Listen session classes) loaded loads fits planned same = cc
  room_for_rows key (prepared.Cancel session floor id count) loaded loads fits planned same = cc
  room_for_rows key (prepared.Tick clock) loaded loads fits planned same = cc
  room_for_rows key (prepared.Begin id) loaded loads fits planned same = cc
  room_for_rows key (prepared.RefuseEntry owner refusal) loaded loads fits planned same = cc
  room_for_rows key (prepared.StartEntry owner kind) loaded loads fits planned same = cc
  room_for_rows key (prepared.Press current) loaded loads fits planned same = cc
  room_for_rows key prepared.Off loaded loads fits planned same = cc
  room_for_rows key (prepared.Finish owner wanted told) loaded loads fits planned same =
      absurd (unloaded wanted loaded (ap (λ (w : Work). is_load w) fits.is ∙ loads (length whole.held) fits.command fits.reset) planned)
  room_for_rows None (prepared.Reset owner kept) loaded loads fits planned same = subst (λ (keys : KeyRows). length keys ≤ vec_capacity kept) same (omega (arith, few, fits.copy.room))
  room_for_rows (Some key) (prepared.Reset owner kept) loaded loads fits planned same = subst (λ (keys : KeyRows). length keys ≤ vec_capacity kept) same (omega (arith, few, fits.copy.room))
  room_for_rows None (prepared.Boot kept) loaded loads fits planned same = subst (λ (keys : KeyRows). length keys ≤ vec_capacity kept) same (omega (arith, few, fits.1.room))
  room_for_rows (Some key) (prepared.Boot kept) loaded loads fits planned same = subst (λ (keys : KeyRows). length keys ≤ vec_capacity kept) same (omega (arith, few, fits.1.room))

  pub room_for_word : (key : Option Key) (step : Prepared) (word : DiskWord)
      → ((count : ℕ) (command : Command) → is_reset command ≡ false → is_load (work_of (deciding pin_rules) (shared_of whole.common) count command) ≡ false)
      → IsPrepared pin_rules whole.common (length whole.held) step → IsTrue (fits_plan (calls_of (shared_of whole.common) step) word)
      → rows ≡ (effect_of pin_rules key whole step word).state.shared.keys → HasRoomForWord word (rows_room step)
  room_for_word key step words.Quiet loads fits planned same = tt
  room_for_word key step words.Done loads fits planned same = tt
  room_for_word key step (words.Failed count) loads fits planned same = tt
  room_for_word key step (words.Cut count) loads fits planned same = tt
  room_for_word key step (words.Loaded loaded) loads fits planned same = room_for_rows key step loaded loads fits planned same
  room_for_word key step (words.Bad slot) loads fits planned same = tt

-- the items behind the old ones
new_items : (before after said : List Out) → after ≡ before ++ said → take (length after - length before) (drop (length before) after) ≡ said
new_items before after said grown = grind (arith, common_steps)

module _ (pin_rules : PinRules) (mid : Whole) (step : Prepared) (taken : Step) (keyless : KeylessStep) (is : (k : Key) × (taken ≡ with_key keyless k)) where
  -- what was said of the step that was taken is what was prepared
  pub said_again : ((k : Key) (w : DiskWord) → effect_of pin_rules (pressed (with_key keyless k)) mid step w ≡ kept_next (set_by pin_rules mid.seed) (kept_by mid) (with_key keyless k) w)
      → (new : PadState) (before after : List Out) (word : DiskWord) → IsKeptStep pin_rules (pad_state mid) new before after taken word
      → IsToldAgain (places_of mid.common step) (known_out step) (take (length after - length before) (drop (length before) after))
  said_again does new before after word kept =
      subst (IsToldAgain (places_of mid.common step) (known_out step))
      (ap (λ (effect : KeptAfter). effect.outs) (effect-is pin_rules (kept_by mid) mid step taken (pressed taken) word keyless is does refl refl)
      ∙ sym (new_items before after (kept_next (set_of pin_rules (kept_by mid)) (kept_by mid) taken word).outs kept.outs))
      (told_again pin_rules (pressed taken) mid step word)

  -- there is room for the rows that it loaded, which are the kept ones
  pub rows_again : ((k : Key) (w : DiskWord) → effect_of pin_rules (pressed (with_key keyless k)) mid step w ≡ kept_next (set_by pin_rules mid.seed) (kept_by mid) (with_key keyless k) w)
      → ((k : Key) → IsPlanned (deciding pin_rules) (shared_of mid.common) step (with_key keyless k))
      → ((set : Setting) (shared : Shared) (count : ℕ) (command : Command) → is_reset command ≡ false → is_load (work_of set shared count command) ≡ false)
      → IsPrepared pin_rules mid.common (length mid.held) step
      → (new : PadState) (before after : List Out) (word : DiskWord) (s t : DiskState) → IsKeptStep pin_rules (pad_state mid) new before after taken word → PadStepOnDisk pin_rules (pad_state mid) new taken word s t
      → length new.kept.shared.keys ≤ 64 → HasRoomForWord word (rows_room step)
  rows_again does planned loads fits new before after word s t kept on few =
      let calls = sym (same_plan pin_rules mid.seed (shared_of mid.common) taken) ∙ (step-planned pin_rules mid step taken keyless is planned).calls in
      room_for_word pin_rules mid new.kept.shared.keys few (pressed taken) step word (loads (deciding pin_rules) (shared_of mid.common)) fits
      (subst (λ (calls : Plan). IsTrue (fits_plan calls word)) calls on.fits)
      (ap (λ (k : Kept). k.shared.keys) kept.state ∙ ap (λ (effect : KeptAfter). effect.state.shared.keys) (sym (effect-is pin_rules (kept_by mid) mid step taken (pressed taken) word keyless is does refl refl)))

-- the step is told to the second list, and by the second answer
pub second_step : (pin_rules : PinRules) (old new : PadState) (before after other other_after : List Out) (taken : Step) (stepped : Stepped) (word : DiskWord) (s t : DiskState)
    → word ≡ stepped.word → other_after ≡ other ++ take (length after - length before) (drop (length before) after)
    → IsPadStep pin_rules old new before after taken stepped s t → IsPadStep pin_rules old new other other_after taken (record { word = word; fate = stepped.fate }) s t
second_step pin_rules old new before after other other_after taken stepped word s t same again done =
    subst (λ (w : DiskWord). IsPadStep pin_rules old new other other_after taken (record { word = w; fate = stepped.fate }) s t) (sym same)
    (record {
      tied = done.tied;
      machine = λ seed state stands. let machine = done.machine seed state stands in record {
        stands = machine.stands;
        outs = again ∙ ap (λ (outs : List Out). other ++ outs) (new_items before after (next (set_by pin_rules seed) state taken stepped.word).outs machine.outs);
        fate = machine.fate;
      };
      on_disk = done.on_disk;
      history = done.history;
      unwinding = done.unwinding;
      less = done.less;
      ids = done.ids;
    })
