-- What each kind of step but Press, and but those of sessions, does to the requests, the sessions, the line and the part buffer.
use Rattle.flat_machine.proofs.EndingLemmas.{endings-accuses, endings-ended, endings-execute_event, endings-service_events}
use Rattle.flat_machine.proofs.RequestMoves.{Begun, Drawn, EndedWhere, Finished, Moves, RefusedAtBegin, Rows, Unmoved, ending_of}
use Rattle.flat_machine.specs.Commands.{work_of}
use Rattle.entry_core.specs.Entries.{Entry, entry_of, entry_refusal, is_key_part}
use Rattle.flat_machine.specs.EntrySteps.{begin_as, begin_entry, begin_with, first_of, next_begin}
use Rattle.flat_machine.specs.FinishSteps.{deletes, device_reply, finish_with, imports, inits, performs, resets}
use Rattle.key_table.specs.Changes.{changed, change_to, Change, erasure, erasures}
use Rattle.key_table.specs.KeyRows.{KeyRows}
use Rattle.flat_machine.specs.Power.{loads, powers_off, replaces}
use Rattle.flat_machine.specs.RequestFacts.{Ending}
use Rattle.flat_machine.specs.RequestSteps.{cancels, is_canceled, next_tick, submit_by}
use Rattle.request_queue.specs.Requests.{eligible, is_due, pending_count, request_in_work}
use Rattle.flat_machine.specs.SessionSteps.{if_open}
use Rattle.device_lock.specs.LockLine.{holder_of}
use Rattle.session_book.specs.Sessions.{is_open}
use Rattle.flat_machine.specs.State.{Shared, Said, device_refusal, ends, is_off, owner_of, refuses, replies, says, unchanged, with_outs_before}
use Rattle.flat_machine.specs.Settings.{Setting}
use Rattle.flat_machine.specs.PinCommands.{pin_answer}
use Rattle.flat_machine.specs.declared.types.Work.{Work}
use Rattle.flat_machine.specs.declared.types.Work.TheVariants as work
use Rattle.request_queue.specs.declared.requests.Request.{Request}
use Rattle.session_book.specs.declared.sessions.SessionRow.{SessionRow}
use Rattle.pad_steps.specs.declared.answers.Out.{Out}
use Rattle.pad_steps.specs.declared.answers.Refusal.{Refusal}
use Rattle.pad_steps.specs.declared.answers.Reply.{Reply}
use Rattle.pad_steps.specs.declared.answers.Told.{Told}
use Rattle.pad_steps.specs.declared.commands.Command.{Command}
use Rattle.pad_steps.specs.declared.steps.DiskWord.{DiskWord}
use Rattle.pad_words.specs.declared.numbers.Session.{Session}
use Rattle.std.proofs.Common.{ap, inl, inr}
use Rattle.std.specs.Prelude.{Bool, List, None, Option, Some, [], cond, false, if◌then◌else◌, length, nat_le, not, refl, slice_get, take, true, ℕ, ◌&&◌, ◌+◌, ◌==◌, ◌∷◌, ◌≡◌, ◌⊎◌}
use Rattle.pad_steps.specs.declared.answers.Answer.TheVariants as answer
use Rattle.pad_steps.specs.declared.answers.Event.TheVariants as event
use Rattle.pad_steps.specs.declared.answers.Out.TheVariants as out
use Rattle.pad_steps.specs.declared.answers.Refusal.TheVariants as refusal
use Rattle.pad_steps.specs.declared.answers.Reply.TheVariants as reply
use Rattle.pad_steps.specs.declared.answers.Told.TheVariants as told
use Rattle.pad_steps.specs.declared.steps.DiskWord.TheVariants as word

-- a step that is none of a session's own: sessions and line stay, and the part buffer stays or is emptied
pub record Walk (rows : Rows) (open_ones : List SessionRow) (line_before : List Session) (part_before : List ℕ) (effect : Said) : Type 0 where
  pub moves : Moves rows effect.shared.requests effect.outs
  pub sessions : effect.shared.sessions ≡ open_ones
  pub line : effect.shared.line ≡ line_before
  pub part : (effect.shared.part ≡ part_before) ⊎ (effect.shared.part ≡ [])

abbrev pub Walks : Shared → Said → Type 0
Walks p effect = Walk p.requests p.sessions p.line p.part effect

part_if : (b : Bool) (part : List ℕ) → ((if b then [] else part) ≡ part) ⊎ ((if b then [] else part) ≡ [])
part_if true part = inr refl
part_if false part = inl refl

module _ (p : Shared) where
  pub walk_if : (b : Bool) (x y : Said) → Walks p x → Walks p y → Walks p (cond b x y)
  walk_if true x y one other = one
  walk_if false x y one other = other

  pub walk_told : (s : Session) (t : Told) → Walks p (says p (out.Told s t))
  walk_told s t = record { moves = Unmoved refl refl; sessions = refl; line = refl; part = inl refl }

  pub walk_nothing : Walks p (unchanged p)
  walk_nothing = record { moves = Unmoved refl refl; sessions = refl; line = refl; part = inl refl }

  pub walk_if_open : (s : Session) (x : Said) → Walks p x → Walks p (if_open p s x)
  walk_if_open s x one = walk_if (is_open s p.sessions) x (says p (out.Told s (told.No refusal.NoSession))) one (walk_told s (told.No refusal.NoSession))

  pub walk_ends : (test : Request Command → Bool) (r : Refusal) → Walks p (ends test r p)
  walk_ends test r = record { moves = EndedWhere test (reply.No r) refl (endings-ended test (reply.No r) p.requests); sessions = refl; line = refl; part = inl refl }

  pub walk_submit : (o : Option Refusal) (s : Session) (limit : ℕ) (c : Command) → (o ≡ None → nat_le 16 (pending_count s p.requests) ≡ false) → Walks p (submit_by o p s limit c)
  walk_submit (Some r) s limit c room = record { moves = Unmoved refl refl; sessions = refl; line = refl; part = inl refl }
  walk_submit None s limit c room = record { moves = Drawn (record { id = length p.requests + 1; session = s; submitted = p.clock; limit = limit; command = c }) refl (room refl) refl refl; sessions = refl; line = refl; part = inl refl }

  walk_before : (s : Session) (t : Told) (x : Said) → Walks p x → Walks p (with_outs_before (out.Told s t ∷ []) x)
  walk_before s t x one = record { moves = moved one.moves; sessions = one.sessions; line = one.line; part = one.part }
    where
      moved : {after : Rows} {outs : List Out} → Moves p.requests after outs → Moves p.requests after (out.Told s t ∷ outs)
      moved (Unmoved e q) = Unmoved e q
      moved (Drawn a i room e q) = Drawn a i room e q
      moved (EndedWhere test r e q) = EndedWhere test r e q
      moved (Begun holder w e q) = Begun holder w e q
      moved (RefusedAtBegin holder r a w l e q) = RefusedAtBegin holder r a w l e q
      moved (Finished r a w e q) = Finished r a w e q

  pub walk_cancel : (s : Session) (id : ℕ) (found : List (Request Command)) → Walks p (cancels p s id found)
  walk_cancel s id found = walk_if (not (id == 0) && (length found == 0)) _ _ (walk_told s (told.No refusal.InvalidReqId)) (walk_before s (told.Canceled (length found)) _ (walk_ends (is_canceled p s id) refusal.Canceled))

  pub walk_tick : (n : ℕ) → Walks p (next_tick p n)
  walk_tick n = record { moves = EndedWhere (is_due (p.clock + n)) (reply.No refusal.Timeout) refl (endings-ended (is_due (p.clock + n)) (reply.No refusal.Timeout) p.requests); sessions = refl; line = refl; part = inl refl }

  -- Begin

  walk_begin_entry : (a : Request Command) (e : Entry) (r : Option Refusal) → request_in_work p.requests ≡ None → eligible (holder_of p.line) p.requests ≡ Some a → Walks p (begin_entry p a e r)
  walk_begin_entry a e (Some r) w l = record { moves = RefusedAtBegin (holder_of p.line) (reply.No r) a w l refl refl; sessions = refl; line = refl; part = inl refl }
  walk_begin_entry a e None w l = record { moves = Begun (holder_of p.line) w refl (endings-execute_event p.sessions a.session event.EnterData); sessions = refl; line = refl; part = part_if (is_key_part e.kind) p.part }

  walk_begin_as : (a : Request Command) (e : Option Entry) → request_in_work p.requests ≡ None → eligible (holder_of p.line) p.requests ≡ Some a → Walks p (begin_as p a e)
  walk_begin_as a None w l = record { moves = Begun (holder_of p.line) w refl refl; sessions = refl; line = refl; part = inl refl }
  walk_begin_as a (Some e) w l = walk_begin_entry a e (first_of (device_refusal p.device) (entry_refusal e)) w l

  walk_begin_with : (o q : Option (Request Command)) → request_in_work p.requests ≡ o → eligible (holder_of p.line) p.requests ≡ q → Walks p (begin_with p o q)
  walk_begin_with (Some a) q w l = walk_nothing
  walk_begin_with None None w l = walk_nothing
  walk_begin_with None (Some a) w l = walk_begin_as a (entry_of a.command) w l

  pub walk_begin : Walks p (next_begin p)
  walk_begin = walk_if (is_off p.device) _ _ walk_nothing (walk_begin_with (request_in_work p.requests) (eligible (holder_of p.line) p.requests) refl refl)

  -- power

  pub walk_power : Walks p (powers_off p)
  walk_power = record { moves = EndedWhere (λ a. true) (reply.No refusal.ConnectionLost) refl (endings-ended (λ a. true) (reply.No refusal.ConnectionLost) p.requests); sessions = refl; line = refl; part = inr refl }

  pub walk_loads : (w : DiskWord) → Walks p (loads p w)
  walk_loads word.Quiet = walk_nothing
  walk_loads word.Done = walk_nothing
  walk_loads (word.Failed n) = record { moves = Unmoved refl refl; sessions = refl; line = refl; part = inl refl }
  walk_loads (word.Cut n) = walk_power
  walk_loads (word.Loaded rows) = record { moves = Unmoved refl refl; sessions = refl; line = refl; part = inl refl }
  walk_loads (word.Bad slot) = record { moves = Unmoved refl refl; sessions = refl; line = refl; part = inl refl }

-- Finish, of the request in work

module _ (p : Shared) (a : Request Command) (w : request_in_work p.requests ≡ Some a) where
  walk_refuses : (r : Refusal) (accused : Option (List ℕ)) → Walks p (refuses p (owner_of a) r accused)
  walk_refuses r accused = record { moves = Finished (reply.No r) a w refl (ap (λ (es : List Ending). ending_of a (reply.No r) ∷ es) (endings-accuses p accused r)); sessions = refl; line = refl; part = inl refl }

  walk_replies : (r : Reply) → Walks p (replies p (owner_of a) r)
  walk_replies r = record { moves = Finished r a w refl refl; sessions = refl; line = refl; part = inl refl }

  walk_replaces : (todo : List Change) (done : Shared → Said) (d : DiskWord) → ((keys : KeyRows) → Walks p (done (record p { keys = keys }))) → Walks p (replaces p (owner_of a) todo done d)
  walk_replaces todo done word.Quiet k = k (changed todo p.keys)
  walk_replaces todo done word.Done k = k (changed todo p.keys)
  walk_replaces todo done (word.Failed n) k = record { moves = Finished (reply.No refusal.HardwareError) a w refl refl; sessions = refl; line = refl; part = inl refl }
  walk_replaces todo done (word.Cut n) k = walk_power (record p { keys = changed (take n todo) p.keys; doubt = slice_get todo n })
  walk_replaces todo done (word.Loaded rows) k = k (changed todo p.keys)
  walk_replaces todo done (word.Bad slot) k = k (changed todo p.keys)

  walk_reset : (d : DiskWord) → Walks p (resets (owner_of a) d p)
  walk_reset word.Quiet = record { moves = Finished (device_reply p.device) a w refl refl; sessions = refl; line = refl; part = inr refl }
  walk_reset word.Done = record { moves = Finished (device_reply p.device) a w refl refl; sessions = refl; line = refl; part = inr refl }
  walk_reset (word.Failed n) = record { moves = Finished (reply.No refusal.HardwareError) a w refl refl; sessions = refl; line = refl; part = inr refl }
  walk_reset (word.Cut n) = walk_power p
  walk_reset (word.Loaded rows) = record { moves = Finished (reply.Ok answer.Done) a w refl refl; sessions = refl; line = refl; part = inr refl }
  walk_reset (word.Bad slot) = record { moves = Finished (reply.No (refusal.BadStore slot)) a w refl refl; sessions = refl; line = refl; part = inr refl }

  walk_performs : (set : Setting) (held : List ℕ) (v : Work) (d : DiskWord) → Walks p (performs set p held (owner_of a) v d)
  walk_performs set held work.Waits d = walk_nothing p
  walk_performs set held (work.Refuse r accused) d = walk_refuses r accused
  walk_performs set held (work.Answer x) d = walk_replies (reply.Ok x)
  walk_performs set held (work.Maintain on) d = record { moves = Finished (reply.Ok answer.Done) a w refl refl; sessions = refl; line = refl; part = inl refl }
  walk_performs set held (work.Keep slot row x from_part) d = walk_replaces (change_to (slot, row) ∷ []) (imports (owner_of a) x from_part) d (λ keys. record { moves = Finished (reply.Ok (answer.Key x)) a w refl refl; sessions = refl; line = refl; part = part_if from_part p.part })
  walk_performs set held (work.Erase slot) d = walk_replaces (erasure slot ∷ []) (deletes (owner_of a)) d (λ keys. record { moves = Finished (reply.Ok answer.Done) a w refl refl; sessions = refl; line = refl; part = inl refl })
  walk_performs set held work.EraseAll d = walk_replaces (erasures p.keys) (inits (owner_of a)) d (λ keys. record { moves = Finished (reply.Ok answer.Done) a w refl (ap (λ (es : List Ending). ending_of a (reply.Ok answer.Done) ∷ es) (endings-service_events p.sessions event.Initialized)); sessions = refl; line = refl; part = inr refl })
  walk_performs set held (work.Release r first second draws) d = record { moves = Finished (reply.Ok (pin_answer set p.drawn held r first second draws)) a w refl refl; sessions = refl; line = refl; part = inl refl }
  walk_performs set held work.Load d = walk_reset d

pub walk_finish : (set : Setting) (p : Shared) (held : List ℕ) (o : Option (Request Command)) (d : DiskWord) → request_in_work p.requests ≡ o → Walks p (finish_with set p held o d)
walk_finish set p held None d w = walk_nothing p
walk_finish set p held (Some a) d w = walk_performs p a w set held (work_of set p (length held) a.command) d
