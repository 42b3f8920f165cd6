-- The blocks and checks that a run tells are the values that it releases.
use Rattle.crypt_commands.specs.declared.CryptOut.{CryptOut}
use Rattle.crypt_commands.specs.declared.CryptOut.TheVariants as output
use Rattle.device_lock.specs.LockLine.{holder_of, holds, out_of_line}
use Rattle.entry_core.specs.Entries.{Entry, active_seen, entered, entry_of, entry_refusal}
use Rattle.entry_core.specs.declared.seen.Seen.{Seen}
use Rattle.entry_core.specs.declared.seen.Seen.TheVariants.{Ended, Ignored, Took}
use Rattle.flat_machine.proofs.ClearingWorks.{FromCommand, from_command}
use Rattle.flat_machine.proofs.EndingLemmas.{endings-accuses, endings-append, endings-ended, endings-execute_event, endings-grants, endings-grants_after, endings-service_events}
use Rattle.flat_machine.proofs.RequestMoves.{Rows, ending_of, endings_where}
use Rattle.flat_machine.specs.Commands.{work_of}
use Rattle.flat_machine.specs.Crypts.{answer_of}
use Rattle.flat_machine.specs.Disclosure.{is_pin_answer, pin_answer_in, pin_answers}
use Rattle.flat_machine.specs.EntrySteps.{begin_as, begin_entry, begin_with, entry_answer, first_of, next_begin, press_in, press_seen}
use Rattle.flat_machine.specs.Facts.{outs_of}
use Rattle.flat_machine.specs.FinishSteps.{deletes, device_reply, finish_with, imports, inits, performs, release_with, released, resets}
use Rattle.flat_machine.specs.Machine.{Act, lines_from, next, release, releases_from}
use Rattle.flat_machine.specs.PinCommands.{pin_answer, pin_reply}
use Rattle.flat_machine.specs.Power.{loads, powers_off, replaces}
use Rattle.flat_machine.specs.RequestFacts.{Ending, endings}
use Rattle.flat_machine.specs.RequestSteps.{is_canceled, next_cancel, submit_by, submit_refusal}
use Rattle.flat_machine.specs.SessionSteps.{if_open, next_close, next_unlock}
use Rattle.flat_machine.specs.Sessions.{execute_event, grants, grants_after, service_events}
use Rattle.flat_machine.specs.Settings.{Setting}
use Rattle.flat_machine.specs.State.{After, Flat, Running, Said, Shared, accuses, device_refusal, ends, is_off, owner_of, running_entry}
use Rattle.flat_machine.specs.declared.types.Device.{Device}
use Rattle.flat_machine.specs.declared.types.Device.TheVariants.{Bad, Off, Ready, Stopped}
use Rattle.flat_machine.specs.declared.types.Work.{Work}
use Rattle.flat_machine.specs.declared.types.Work.TheVariants as work
use Rattle.key_source.specs.Keys.{has_key}
use Rattle.key_source.specs.declared.Key.{Key}
use Rattle.key_table.specs.Changes.{Change, change_to, erasure, erasures}
use Rattle.pad_steps.specs.declared.answers.Answer.{Answer}
use Rattle.pad_steps.specs.declared.answers.Completion.{Completion}
use Rattle.pad_steps.specs.declared.answers.Event.TheVariants as event
use Rattle.pad_steps.specs.declared.answers.Out.{Out}
use Rattle.pad_steps.specs.declared.answers.Out.TheVariants as out
use Rattle.pad_steps.specs.declared.answers.Refusal.{Refusal}
use Rattle.pad_steps.specs.declared.answers.Refusal.TheVariants as refusal
use Rattle.pad_steps.specs.declared.answers.Reply.TheVariants as reply
use Rattle.pad_steps.specs.declared.answers.Told.TheVariants as told
use Rattle.pad_steps.specs.declared.commands.Command.{Command}
use Rattle.pad_steps.specs.declared.commands.EntryKind.{EntryKind}
use Rattle.pad_steps.specs.declared.commands.EntryKind.TheVariants as entry_kind
use Rattle.pad_steps.specs.declared.commands.Verify.{Verify}
use Rattle.pad_steps.specs.declared.steps.DiskWord.{DiskWord}
use Rattle.pad_steps.specs.declared.steps.DiskWord.TheVariants as word
use Rattle.pad_steps.specs.declared.steps.Step.{Step}
use Rattle.pad_steps.specs.declared.steps.Step.TheVariants as step
use Rattle.pad_words.specs.Numbers.{same_session}
use Rattle.pad_words.specs.declared.numbers.Session.{Session}
use Rattle.pin_blocks.specs.declared.work.PinAnswer.{PinAnswer}
use Rattle.pin_blocks.specs.declared.work.PinAnswer.TheVariants as pin_answers_of
use Rattle.request_queue.specs.Requests.{eligible, is_due, pending_where, request_in_work}
use Rattle.request_queue.specs.declared.requests.Request.{Request}
use Rattle.request_queue.specs.declared.requests.RequestRow.TheVariants.{Gone, InWork, Waiting}
use Rattle.session_book.specs.Sessions.{is_open}
use Rattle.std.proofs.Common.{ap, append_assoc, subst, sym, ◌∙◌}
use Rattle.std.proofs.lemmas.List.{append-nil}
use Rattle.std.specs.Prelude.{Bool, List, None, Option, Some, [], cond, false, if◌then◌else◌, length, map, not, option_to_list, refl, true, ℕ, ◌&&◌, ◌++◌, ◌+◌, ◌==◌, ◌∷◌, ◌≡◌}

-- blocks and checks among ends

pin_answers-append : (xs ys : List Ending) → pin_answers (xs ++ ys) ≡ pin_answers xs ++ pin_answers ys
pin_answers-append [] ys = refl
pin_answers-append (x ∷ xs) ys = ap (λ (zs : List Answer). pin_answer_in x.reply ++ zs) (pin_answers-append xs ys) ∙ sym (append_assoc (pin_answer_in x.reply) (pin_answers xs) (pin_answers ys))

refused_if : (b : Bool) (a : Request Command) (r : Refusal) (es : List Ending) → pin_answers es ≡ [] → pin_answers (if b then ending_of a (reply.No r) ∷ es else es) ≡ []
refused_if true a r es e = e
refused_if false a r es e = e

refused_where : (test : Request Command → Bool) (r : Refusal) (rows : Rows) → pin_answers (endings_where test (reply.No r) rows) ≡ []
refused_where test r [] = refl
refused_where test r (Waiting a ∷ rows) = refused_if (test a) a r (endings_where test (reply.No r) rows) (refused_where test r rows)
refused_where test r (InWork a ∷ rows) = refused_if (test a) a r (endings_where test (reply.No r) rows) (refused_where test r rows)
refused_where test r (Gone id s q ∷ rows) = refused_where test r rows

no_ends : (outs : List Out) → endings outs ≡ [] → pin_answers (endings outs) ≡ []
no_ends outs e = ap pin_answers e

-- these outs tell no block and no check
record TellsNone (x : Said) : Type 0 where
  pub none : pin_answers (endings x.outs) ≡ []

none_if : (b : Bool) (x y : Said) → TellsNone x → TellsNone y → TellsNone (cond b x y)
none_if true x y one other = one
none_if false x y one other = other

none_open : (p : Shared) (s : Session) (x : Said) → TellsNone x → TellsNone (if_open p s x)
none_open p s x one = none_if (is_open s p.sessions) x _ one (record { none = refl })

none_ends : (test : Request Command → Bool) (r : Refusal) (p : Shared) → TellsNone (ends test r p)
none_ends test r p = record { none = ap pin_answers (endings-ended test (reply.No r) p.requests) ∙ refused_where test r p.requests }

none_power : (p : Shared) → TellsNone (powers_off p)
none_power p = record { none = (none_ends (λ a. true) refusal.ConnectionLost p).none }

none_close : (p : Shared) (s : Session) → TellsNone (next_close p s)
none_close p s =
    let mine = λ (a : Request Command). same_session a.session s in
    let ended = map (λ (a : Request Command). out.Ended a.session a.id (reply.No refusal.Canceled)) (pending_where mine p.requests) in
    none_open p s _ (record {
      none =
          ap pin_answers (endings-append ended (out.Told s told.Closed ∷ grants_after s p.line)) ∙ pin_answers-append (endings ended) (endings (grants_after s p.line))
          ∙ ap (λ (xs : List Answer). pin_answers (endings ended) ++ xs) (no_ends (grants_after s p.line) (endings-grants_after s p.line)) ∙ append-nil (pin_answers (endings ended))
          ∙ (none_ends mine refusal.Canceled p).none;
    })

none_unlock : (p : Shared) (s : Session) → TellsNone (next_unlock p s)
none_unlock p s = none_open p s _ (none_if (holds s p.line) _ _ (record { none = no_ends (grants (out_of_line s p.line)) (endings-grants (out_of_line s p.line)) }) (record { none = refl }))

none_submit : (p : Shared) (o : Option Refusal) (s : Session) (limit : ℕ) (c : Command) → TellsNone (submit_by o p s limit c)
none_submit p (Some r) s limit c = record { none = refl }
none_submit p None s limit c = record { none = refl }

none_cancel : (p : Shared) (s : Session) (id : ℕ) → TellsNone (next_cancel p s id)
none_cancel p s id = none_open p s _ (none_if (not (id == 0) && (length (pending_where (is_canceled p s id) p.requests) == 0)) _ _ (record { none = refl }) (record { none = (none_ends (is_canceled p s id) refusal.Canceled p).none }))

none_entry : (p : Shared) (a : Request Command) (e : Entry) (o : Option Refusal) → TellsNone (begin_entry p a e o)
none_entry p a e (Some r) = record { none = refl }
none_entry p a e None = record { none = no_ends (execute_event p.sessions a.session event.EnterData) (endings-execute_event p.sessions a.session event.EnterData) }

none_as : (p : Shared) (a : Request Command) (o : Option Entry) → TellsNone (begin_as p a o)
none_as p a None = record { none = refl }
none_as p a (Some e) = none_entry p a e (first_of (device_refusal p.device) (entry_refusal e))

none_with : (p : Shared) (o q : Option (Request Command)) → TellsNone (begin_with p o q)
none_with p (Some b) q = record { none = refl }
none_with p None None = record { none = refl }
none_with p None (Some a) = none_as p a (entry_of a.command)

none_begin : (p : Shared) → TellsNone (next_begin p)
none_begin p = none_if (is_off p.device) _ _ (record { none = refl }) (none_with p (request_in_work p.requests) (eligible (holder_of p.line) p.requests))

none_loads : (p : Shared) (w : DiskWord) → TellsNone (loads p w)
none_loads p word.Quiet = record { none = refl }
none_loads p word.Done = record { none = refl }
none_loads p (word.Failed n) = record { none = refl }
none_loads p (word.Cut n) = none_power p
none_loads p (word.Loaded rows) = record { none = refl }
none_loads p (word.Bad slot) = record { none = refl }

none_replaces : (p : Shared) (a : Request Command) (todo : List Change) (done : Shared → Said) (w : DiskWord) → ((q : Shared) → TellsNone (done q)) → TellsNone (replaces p (owner_of a) todo done w)
none_replaces p a todo done word.Quiet k = k _
none_replaces p a todo done word.Done k = k _
none_replaces p a todo done (word.Failed n) k = record { none = refl }
none_replaces p a todo done (word.Cut n) k = record { none = (none_power p).none }
none_replaces p a todo done (word.Loaded rows) k = k _
none_replaces p a todo done (word.Bad slot) k = k _

none_inits : (a : Request Command) (p : Shared) → TellsNone (inits (owner_of a) p)
none_inits a p = record { none = no_ends (service_events p.sessions event.Initialized) (endings-service_events p.sessions event.Initialized) }

none_reply : (d : Device) → pin_answer_in (device_reply d) ≡ []
none_reply Off = refl
none_reply Ready = refl
none_reply Stopped = refl
none_reply (Bad slot) = refl

none_reset : (p : Shared) (a : Request Command) (w : DiskWord) → TellsNone (resets (owner_of a) w p)
none_reset p a word.Quiet = record { none = ap (λ (xs : List Answer). xs ++ []) (none_reply p.device) }
none_reset p a word.Done = record { none = ap (λ (xs : List Answer). xs ++ []) (none_reply p.device) }
none_reset p a (word.Failed n) = record { none = refl }
none_reset p a (word.Cut n) = record { none = (none_power p).none }
none_reset p a (word.Loaded rows) = record { none = refl }
none_reset p a (word.Bad slot) = record { none = refl }

no_pin_answer : (x : CryptOut) → is_pin_answer (answer_of x) ≡ false
no_pin_answer (output.Bytes bytes) = refl
no_pin_answer (output.Mac block) = refl

is_pin_reply : (x : PinAnswer) → is_pin_answer (pin_reply x) ≡ true
is_pin_reply (pin_answers_of.Block block) = refl
is_pin_reply (pin_answers_of.Wide left right) = refl
is_pin_reply (pin_answers_of.Checked holds) = refl

-- a Finish tells what it releases

module _ (set : Setting) (p : Shared) (held : List ℕ) (a : Request Command) (w : DiskWord) where
  performs_tells : (v : Work) → FromCommand a.command v → option_to_list (released set p held v) ≡ pin_answers (endings (performs set p held (owner_of a) v w).outs)
  performs_tells work.Waits from = refl
  performs_tells (work.Refuse r accused) from = sym (no_ends (accuses p accused r) (endings-accuses p accused r))
  performs_tells (work.Answer x) from = sym (ap (λ (b : Bool). (if b then x ∷ [] else []) ++ []) (ap is_pin_answer from.1 ∙ no_pin_answer from.0))
  performs_tells (work.Maintain on) from = refl
  performs_tells (work.Keep slot row x from_part) from = sym (none_replaces p a (change_to (slot, row) ∷ []) (imports (owner_of a) x from_part) w (λ q. record { none = refl })).none
  performs_tells (work.Erase slot) from = sym (none_replaces p a (erasure slot ∷ []) (deletes (owner_of a)) w (λ q. record { none = refl })).none
  performs_tells work.EraseAll from = sym (none_replaces p a (erasures p.keys) (inits (owner_of a)) w (none_inits a)).none
  performs_tells (work.Release r first second draws) from =
      let x = pin_answer set p.drawn held r first second draws in
      sym (ap (λ (b : Bool). (if b then x ∷ [] else []) ++ []) (is_pin_reply _))
  performs_tells work.Load from = sym (none_reset p a w).none

  finish_tells : (o : Option (Request Command)) → o ≡ Some a → option_to_list (release_with set p held o) ≡ pin_answers (endings (finish_with set p held o w).outs)
  finish_tells o is = subst (λ (q : Option (Request Command)). option_to_list (release_with set p held q) ≡ pin_answers (endings (finish_with set p held q w).outs)) (sym is) (performs_tells (work_of set p (length held) a.command) (from_command set p (length held) a.command))

finish_tells_all : (set : Setting) (p : Shared) (held : List ℕ) (o : Option (Request Command)) (w : DiskWord) → option_to_list (release_with set p held o) ≡ pin_answers (endings (finish_with set p held o w).outs)
finish_tells_all set p held None w = refl
finish_tells_all set p held (Some a) w = finish_tells set p held a w (Some a) refl

-- a press tells no block and no check

none_answer : (set : Setting) (k : EntryKind) (v : Verify) (c : Completion) (ds : List ℕ) → pin_answer_in (reply.Ok (entry_answer set.cipher k v c ds)) ≡ []
none_answer set entry_kind.Pin v c ds = refl
none_answer set entry_kind.Figures v c ds = refl
none_answer set entry_kind.Part v c ds = refl

none_seen : (set : Setting) (h : Flat) (w : Running) (k : Key) (seen : Seen) → pin_answers (endings (press_seen set.cipher h w k seen).outs) ≡ []
none_seen set h w k Ignored = refl
none_seen set h w k (Took s) = no_ends (execute_event h.shared.sessions w.session (event.Key s)) (endings-execute_event h.shared.sessions w.session (event.Key s))
none_seen set h w k (Ended s c) =
    let says_key = execute_event h.shared.sessions w.session (event.Key s) in
    let ds = entered w.entry (k ∷ h.presses) in
    let ended = out.Ended w.session w.id (reply.Ok (entry_answer set.cipher w.entry.kind w.entry.check c ds)) ∷ [] in
    ap pin_answers (endings-append says_key ended) ∙ pin_answers-append (endings says_key) (endings ended)
    ∙ ap (λ (xs : List Answer). xs ++ pin_answers (endings ended)) (no_ends says_key (endings-execute_event h.shared.sessions w.session (event.Key s)))
    ∙ ap (λ (xs : List Answer). xs ++ []) (none_answer set w.entry.kind w.entry.check c ds)

none_cond : (h : Flat) (b : Bool) (x : After) → pin_answers (endings x.outs) ≡ [] → pin_answers (endings (cond b x (record { state = h; outs = [] })).outs) ≡ []
none_cond h true x e = e
none_cond h false x e = refl

none_press : (set : Setting) (h : Flat) (o : Option Running) (k : Key) → pin_answers (endings (press_in set.cipher h o k).outs) ≡ []
none_press set h None k = refl
none_press set h (Some w) k = none_cond h (has_key w.entry.active k) _ (none_seen set h w k (active_seen w.entry (length (entered w.entry h.presses)) k))

-- what a step releases is what its outs tell
step_tells : (set : Setting) (h : Flat) (s : Step) (w : DiskWord) → option_to_list (release set h s) ≡ pin_answers (endings (next set h s w).outs)
step_tells set h (step.Open s) w = sym (none_if (is_open s h.shared.sessions) _ _ (record { none = refl }) (record { none = refl })).none
step_tells set h (step.Close s) w = sym (none_close h.shared s).none
step_tells set h (step.Listen s c) w = sym (none_open h.shared s _ (record { none = refl })).none
step_tells set h (step.Lock s) w = sym (none_open h.shared s _ (record { none = refl })).none
step_tells set h (step.Unlock s) w = sym (none_unlock h.shared s).none
step_tells set h (step.Submit s limit c) w = sym (none_submit h.shared (submit_refusal set.pin_rules h.shared s c) s limit c).none
step_tells set h (step.Cancel s id) w = sym (none_cancel h.shared s id).none
step_tells set h step.Begin w = sym (none_begin h.shared).none
step_tells set h step.Finish w = finish_tells_all set h.shared h.held (request_in_work h.shared.requests) w
step_tells set h (step.Press k) w = sym (none_press set h (running_entry h.shared) k)
step_tells set h (step.Tick n) w = sym (none_ends (is_due (h.shared.clock + n)) refusal.Timeout h.shared).none
step_tells set h (step.Ask s q) w = sym (none_open h.shared s _ (record { none = refl })).none
step_tells set h step.Off w = sym (none_if (is_off h.shared.device) _ _ (record { none = refl }) (none_power h.shared)).none
step_tells set h step.Boot w = sym (none_if (is_off h.shared.device) _ _ (none_loads h.shared w) (record { none = refl })).none

-- so the released values of a run are the blocks and checks that it tells
pub run_tells : (set : Setting) (h : Flat) (acts : List Act) → releases_from set h acts ≡ pin_answers (endings (outs_of (lines_from set h acts)))
run_tells set h [] = refl
run_tells set h (a ∷ acts) =
    let one = next set h a.step a.word in
    let rest = outs_of (lines_from set one.state acts) in
    ap (λ (xs : List Answer). xs ++ releases_from set one.state acts) (step_tells set h a.step a.word)
    ∙ ap (λ (xs : List Answer). pin_answers (endings one.outs) ++ xs) (run_tells set one.state acts)
    ∙ sym (ap pin_answers (endings-append one.outs rest) ∙ pin_answers-append (endings one.outs) (endings rest))
