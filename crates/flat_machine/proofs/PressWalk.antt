-- What a press does to the requests, the sessions and the line, and what each step does to the requests of a run.
use Rattle.flat_machine.proofs.EndingLemmas.{endings-append, endings-ended, endings-execute_event, endings-grants, endings-grants_after}
use Rattle.flat_machine.proofs.RequestMoves.{EndedWhere, Finished, Moves, Rows, Unmoved, ending_of}
use Rattle.flat_machine.proofs.StepWalk.{walk_begin, walk_cancel, walk_finish, walk_if, walk_if_open, walk_loads, walk_nothing, walk_power, walk_submit, walk_tick}
use Rattle.flat_machine.proofs.SubmitLemmas.{submit_room}
use Rattle.entry_core.specs.Entries.{Entry, active_seen, entered, entry_of}
use Rattle.flat_machine.specs.EntrySteps.{next_press, press_in, press_seen}
use Rattle.flat_machine.specs.Machine.{next}
use Rattle.flat_machine.specs.RequestFacts.{Ending, endings}
use Rattle.flat_machine.specs.RequestSteps.{is_canceled, submit_refusal}
use Rattle.request_queue.specs.Requests.{pending_where, request_in_work}
use Rattle.pad_words.specs.Numbers.{same_session}
use Rattle.flat_machine.specs.SessionSteps.{if_open, next_close, next_unlock}
use Rattle.flat_machine.specs.Sessions.{execute_event, grants_after}
use Rattle.device_lock.specs.LockLine.{holds, out_of_line}
use Rattle.session_book.specs.Sessions.{is_open}
use Rattle.flat_machine.specs.State.{After, Flat, Shared, Running, Said, is_off, running_entry, running_by, running_in, says}
use Rattle.flat_machine.specs.Settings.{Setting}
use Rattle.request_queue.specs.declared.requests.Request.{Request}
use Rattle.entry_core.specs.declared.seen.Seen.{Seen}
use Rattle.entry_core.specs.declared.seen.Seen.TheVariants.{Ended, Ignored, Took}
use Rattle.session_book.specs.declared.sessions.SessionRow.{SessionRow}
use Rattle.key_source.specs.Keys.{has_key}
use Rattle.key_source.specs.declared.Key.{Key}
use Rattle.pad_steps.specs.declared.answers.Out.{Out}
use Rattle.pad_steps.specs.declared.answers.Reply.{Reply}
use Rattle.pad_steps.specs.declared.answers.Shown.{Shown}
use Rattle.pad_steps.specs.declared.answers.Told.{Told}
use Rattle.pad_steps.specs.declared.commands.Command.{Command}
use Rattle.pad_steps.specs.declared.steps.DiskWord.{DiskWord}
use Rattle.pad_steps.specs.declared.steps.Step.{Step}
use Rattle.pad_words.specs.declared.numbers.Session.{Session}
use Rattle.std.proofs.Common.{ap, sym, ◌∙◌}
use Rattle.std.proofs.lemmas.List.{append-nil}
use Rattle.std.specs.Prelude.{Bool, List, None, Option, Some, [], cond, false, length, map, refl, true, ℕ, ◌++◌, ◌∷◌, ◌≡◌}
use Rattle.pad_steps.specs.declared.answers.Event.TheVariants as event
use Rattle.pad_steps.specs.declared.answers.Out.TheVariants as out
use Rattle.pad_steps.specs.declared.answers.Refusal.TheVariants as refusal
use Rattle.pad_steps.specs.declared.answers.Reply.TheVariants as reply
use Rattle.pad_steps.specs.declared.answers.Told.TheVariants as told
use Rattle.pad_steps.specs.declared.steps.Step.TheVariants as step

-- the entry that runs is that of the request in work
pub record InWorkOf (rows : Rows) (w : Running) : Type 0 where
  pub request : Request Command
  pub work : request_in_work rows ≡ Some request
  pub id : w.id ≡ request.id
  pub session : w.session ≡ request.session
  pub entry : entry_of request.command ≡ Some w.entry

run_by : (a : Request Command) (e : Option Entry) (w : Running) (rows : Rows) → request_in_work rows ≡ Some a → entry_of a.command ≡ e → running_by a e ≡ Some w → InWorkOf rows w
run_by a None w rows work entry r = cc
run_by a (Some e) w rows work entry r =
    let same : record { id = a.id; session = a.session; entry = e } ≡ w = some_running _ w r in
    record { request = a; work = work; id = ap (λ (x : Running). x.id) (sym same); session = ap (λ (x : Running). x.session) (sym same); entry = entry ∙ ap (λ (x : Running). Some x.entry) same }
  where
    some_running : (x y : Running) → Some x ≡ Some y → x ≡ y
    some_running x y e = cc

run_in : (o : Option (Request Command)) (w : Running) (rows : Rows) → request_in_work rows ≡ o → running_in o ≡ Some w → InWorkOf rows w
run_in None w rows work r = cc
run_in (Some a) w rows work r = run_by a (entry_of a.command) w rows work refl r

pub running_request : (p : Shared) (w : Running) → running_entry p ≡ Some w → InWorkOf p.requests w
running_request p w r = run_in (request_in_work p.requests) w p.requests refl r

-- what a press leaves
pub record PressWalk (p : Shared) (after : After) : Type 0 where
  pub moves : Moves p.requests after.state.shared.requests after.outs
  pub sessions : after.state.shared.sessions ≡ p.sessions
  pub line : after.state.shared.line ≡ p.line

press_stays : (h : Flat) → PressWalk h.shared (record { state = h; outs = [] })
press_stays h = record { moves = Unmoved refl refl; sessions = refl; line = refl }

told_end : (rows : List SessionRow) (w : Running) (s : Shown) (r : Reply) (a : Request Command) → w.id ≡ a.id → w.session ≡ a.session → endings (execute_event rows w.session (event.Key s) ++ out.Ended w.session w.id r ∷ []) ≡ ending_of a r ∷ []
told_end rows w s r a i t = endings-append (execute_event rows w.session (event.Key s)) (out.Ended w.session w.id r ∷ []) ∙ ap (λ (es : List Ending). es ++ record { id = w.id; session = w.session; reply = r } ∷ []) (endings-execute_event rows w.session (event.Key s)) ∙ same_end w.id w.session a r i t
  where
    same_end : (id : ℕ) (s : Session) (a : Request Command) (r : Reply) → id ≡ a.id → s ≡ a.session → record { id = id; session = s; reply = r } ∷ [] ≡ ending_of a r ∷ []
    same_end id s a r e f = rw (e, f) refl

press_sees : (set : Setting) (h : Flat) (w : Running) (k : Key) (seen : Seen) → InWorkOf h.shared.requests w → PressWalk h.shared (press_seen set.cipher h w k seen)
press_sees set h w k Ignored at = record { moves = Unmoved refl refl; sessions = refl; line = refl }
press_sees set h w k (Took s) at = record { moves = Unmoved refl (endings-execute_event h.shared.sessions w.session (event.Key s)); sessions = refl; line = refl }
press_sees set h w k (Ended s c) at =
    record { moves = Finished _ at.request at.work refl (told_end h.shared.sessions w s _ at.request at.id at.session); sessions = refl; line = refl }

press_if : (p : Shared) (b : Bool) (x y : After) → PressWalk p x → PressWalk p y → PressWalk p (cond b x y)
press_if p true x y one other = one
press_if p false x y one other = other

press_walk : (set : Setting) (h : Flat) (o : Option Running) (k : Key) → running_entry h.shared ≡ o → PressWalk h.shared (press_in set.cipher h o k)
press_walk set h None k r = press_stays h
press_walk set h (Some w) k r = press_if h.shared (has_key w.entry.active k) _ _ (press_sees set h w k (active_seen w.entry (length (entered w.entry h.presses)) k) (running_request h.shared w r)) (press_stays h)

pub walk_press : (set : Setting) (h : Flat) (k : Key) → PressWalk h.shared (next_press set.cipher h k)
walk_press set h k = press_walk set h (running_entry h.shared) k refl

-- the session's own steps

told_moves : (p q : Shared) (s : Session) (t : Told) → q.requests ≡ p.requests → Moves p.requests (says q (out.Told s t)).shared.requests (says q (out.Told s t)).outs
told_moves p q s t e = Unmoved e refl

moves_if : (p : Shared) (b : Bool) (x y : Said) → Moves p.requests x.shared.requests x.outs → Moves p.requests y.shared.requests y.outs → Moves p.requests (cond b x y).shared.requests (cond b x y).outs
moves_if p true x y one other = one
moves_if p false x y one other = other

moves_if_open : (p : Shared) (s : Session) (x : Said) → Moves p.requests x.shared.requests x.outs → Moves p.requests (if_open p s x).shared.requests (if_open p s x).outs
moves_if_open p s x one = moves_if p (is_open s p.sessions) x (says p (out.Told s (told.No refusal.NoSession))) one (told_moves p p s (told.No refusal.NoSession) refl)

close_told : (s : Session) (line : List Session) → endings (out.Told s told.Closed ∷ grants_after s line) ≡ []
close_told s line = endings-grants_after s line

closed_endings : (s : Session) (line : List Session) (outs : List Out) (es : List Ending) → endings outs ≡ es → endings (outs ++ out.Told s told.Closed ∷ grants_after s line) ≡ es
closed_endings s line outs es e = endings-append outs (out.Told s told.Closed ∷ grants_after s line) ∙ rw (close_told s line, append-nil (endings outs)) e

moves_close : (p : Shared) (s : Session) → Moves p.requests (next_close p s).shared.requests (next_close p s).outs
moves_close p s =
    let mine = λ (a : Request Command). same_session a.session s in
    let ended = map (λ (a : Request Command). out.Ended a.session a.id (reply.No refusal.Canceled)) (pending_where mine p.requests) in
    moves_if_open p s _ (EndedWhere mine (reply.No refusal.Canceled) refl (closed_endings s p.line ended _ (endings-ended mine (reply.No refusal.Canceled) p.requests)))

moves_unlock : (p : Shared) (s : Session) → Moves p.requests (next_unlock p s).shared.requests (next_unlock p s).outs
moves_unlock p s = moves_if_open p s _ (moves_if p (holds s p.line) _ _ (Unmoved refl (endings-grants (out_of_line s p.line))) (told_moves p p s (told.No refusal.NotLocked) refl))

-- each step does one of the six things to the requests
pub moves_next : (set : Setting) (h : Flat) (s : Step) (w : DiskWord) → Moves h.shared.requests (next set h s w).state.shared.requests (next set h s w).outs
moves_next set h (step.Open s) w = moves_if h.shared (is_open s h.shared.sessions) _ _ (Unmoved refl refl) (Unmoved refl refl)
moves_next set h (step.Close s) w = moves_close h.shared s
moves_next set h (step.Listen s c) w = moves_if_open h.shared s _ (Unmoved refl refl)
moves_next set h (step.Lock s) w = moves_if_open h.shared s _ (Unmoved refl refl)
moves_next set h (step.Unlock s) w = moves_unlock h.shared s
moves_next set h (step.Submit s limit c) w = (walk_submit h.shared (submit_refusal set.pin_rules h.shared s c) s limit c (submit_room set.pin_rules h.shared s c)).moves
moves_next set h (step.Cancel s id) w = (walk_if_open h.shared s _ (walk_cancel h.shared s id (pending_where (is_canceled h.shared s id) h.shared.requests))).moves
moves_next set h step.Begin w = (walk_begin h.shared).moves
moves_next set h step.Finish w = (walk_finish set h.shared h.held (request_in_work h.shared.requests) w refl).moves
moves_next set h (step.Press k) w = (walk_press set h k).moves
moves_next set h (step.Tick n) w = (walk_tick h.shared n).moves
moves_next set h (step.Ask s q) w = moves_if_open h.shared s _ (Unmoved refl refl)
moves_next set h step.Off w = (walk_if h.shared (is_off h.shared.device) _ _ (walk_nothing h.shared) (walk_power h.shared)).moves
moves_next set h step.Boot w = (walk_if h.shared (is_off h.shared.device) _ _ (walk_loads h.shared w) (walk_nothing h.shared)).moves
