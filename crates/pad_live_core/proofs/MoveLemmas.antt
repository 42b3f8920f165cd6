-- What each call and each glance of a lane adds.
use Rattle.std.proofs.Common.{ap, append_assoc, append-nil, arith, length, length-append, refl, subst, suc, sym, zero, inl, inr, true, false, Bool, List, [], ◌++◌, ◌+◌, ◌-◌, ◌∙◌, ◌∷◌, ◌≡◌, ◌<◌, ◌≤◌, ℕ, drop, get_or, take}
use Rattle.std.proofs.lemmas.List.{take-append-drop, take_more}
use Rattle.std.specs.Bool.{OnFalse, OnTrue}
use Rattle.std.specs.Prelude.{Err, IsTrue, Ok, OnErr, OnOk, Result, nat_lt}
use Rattle.pad_desk.specs.Desks.{noted}
use Rattle.pad_desk.specs.Histories.{Legal, status_after}
use Rattle.pad_desk.specs.declared.outcome.StepOut.{StepOut}
use Rattle.pad_live_core.proofs.StatusLemmas.{EndedStays}
use Rattle.pad_live_core.proofs.EventLemmas.{follows_more, ids_of_append, opens_of_append, passed_append, placed_of_append, polls_of_append, rising_append}
use Rattle.pad_live_core.proofs.PlacedLemmas.{enters_own, placed_on}
use Rattle.pad_live_core.specs.LaneEvents.{DeskLog, DeskView, Holds, LaneEvent, Moves, PassedTrue, Rising, SamePass, ended_in, made, opened, opens_of, passed, placed_from, placed_of, polled, polls_of}
use Rattle.pad_live_core.specs.LaneLines.{Breaks, FollowsLine, IsMade, IsPoll, Replied, id_at, id_drawn, id_named, ids_of, reply_asked}
use Rattle.pad_desk.specs.Statuses.{ended_at, entry_runs_at}
use Rattle.pad_live_core.specs.Stops.{AskTold, LaneCut, LaneWhole, LineBroken, LineDone, LinesDone, PassesEntry, Polling, Replying, Rests, SawEntry, SawMore, ShowsEntry, ShowsMore, Stepped, Went}
use Rattle.pad_steps.specs.declared.steps.Step.TheVariants as steps
use Rattle.pad_steps.specs.declared.steps.Step.{Step}
use Rattle.pad_words.specs.declared.numbers.Session.{Session}
use Rattle.pin_blocks.specs.PinRules.{PinRules}
use Rattle.script_lang.specs.declared.lane_kinds.LaneId.{LaneId}
use Rattle.script_lang.specs.declared.lane_kinds.LaneStep.TheVariants as lane
use Rattle.script_lang.specs.declared.lane_kinds.LaneStep.{LaneStep}
use Rattle.turnstile.proofs.ListLemmas.{each_append}
use Rattle.turnstile.proofs.SeatLemmas.{notes_below}
use Rattle.turnstile.specs.Entries.{entry}
use Rattle.turnstile.specs.Numbers.{Each, places_from}
use Rattle.turnstile.specs.Rules.{IsTrueNote, NotesTrue, NotesWithin, entries_of, new_seat}
use Rattle.turnstile.specs.Turns.{Enters, Sees}

-- of the notes of two, those of the first
pub each_left : {A : Type 0} (P : A → Type 0) (l m : List A) → Each P (l ++ m) → Each P l
each_left P [] m a = tt
each_left P (x ∷ xs) m a = (a.0, each_left P xs m a.1)

pub each_right : {A : Type 0} (P : A → Type 0) (l m : List A) → Each P (l ++ m) → Each P m
each_right P [] m a = a
each_right P (x ∷ xs) m a = each_right P xs m a.1

pub split_at : {A : Type 0} (l : List A) (i : ℕ) (d : A) → i < length l → l ≡ take i l ++ get_or l i d ∷ drop (i + 1) l
split_at {A} l i d below = sym (take-append-drop (i + 1) l) ∙ ap (λ (front : List A). front ++ drop (i + 1) l) (take_more l i d below) ∙ append_assoc (take i l) (get_or l i d ∷ []) (drop (i + 1) l)

-- results

pub on_err : {T E : Type 0} (P : Type 0) (r : Result T E) → P → OnErr r P
on_err P (Ok x) p = tt
on_err P (Err e) p = p

pub ok_map : {T E : Type 0} (P Q : Type 0) (r : Result T E) → (P → Q) → OnOk r P → OnOk r Q
ok_map P Q (Ok x) f p = f p
ok_map P Q (Err e) f p = p

pub err_map : {T E : Type 0} (P Q : Type 0) (r : Result T E) → (P → Q) → OnErr r P → OnErr r Q
err_map P Q (Ok x) f p = p
err_map P Q (Err e) f p = f p

-- a glance ended a wait

pub saw_entry : (v w : DeskView) (runs : Bool) → runs ≡ true → ShowsEntry runs v w → SawEntry w
saw_entry v w runs so shows = record { front = v.notes; shown = shows.shown; status = shows.status; notes = ap (λ (y : DeskView). y.notes) shows.note; runs = sym shows.is ∙ so }

pub saw_more : (last last' : ℕ) (v w : DeskView) (more : Bool) → more ≡ true → last' ≡ last → ShowsMore last' more v w → SawMore last w
saw_more last last' v w more so same shows = record { front = v.notes; shown = shows.shown; status = shows.status; notes = ap (λ (y : DeskView). y.notes) shows.note; more = subst (λ (l : ℕ). IsTrue (nat_lt l (ended_at shows.status))) same (sym shows.is ∙ so) }

module _ (pin_rules : PinRules) where
  pub stays : (r last : ℕ) (v : DeskView) → Moves pin_rules r last v [] r last v
  stays r last v = record {
    same = record { number = refl; seated = refl; ended = refl };
    holds = λ events h. subst (λ es. Holds pin_rules r last es v) (sym (append-nil events)) h;
  }

  pub then : (r0 l0 r1 l1 r2 l2 : ℕ) (u v w : DeskView) (a b : List LaneEvent) → Moves pin_rules r0 l0 u a r1 l1 v → Moves pin_rules r1 l1 v b r2 l2 w → Moves pin_rules r0 l0 u (a ++ b) r2 l2 w
  then r0 l0 r1 l1 r2 l2 u v w a b first second = record {
    same = record { number = second.same.number ∙ first.same.number; seated = second.same.seated ∙ first.same.seated; ended = second.same.ended ∙ first.same.ended };
    holds = λ events h. subst (λ es. Holds pin_rules r2 l2 es w) (append_assoc events a b) (second.holds (events ++ a) (first.holds events h));
  }

  -- a lane that was seated before any call
  pub begins : (v w : DeskView) → v.seen ≡ [] → w ≡ new_seat v → Holds pin_rules 0 0 [] w
  begins v w none is = subst (Holds pin_rules 0 0 []) (sym is) record {
    placed = ap (placed_from 0 (v.number ++ v.seated ∷ [])) none;
    mine = ap (places_from 0 (v.number ++ v.seated ∷ [])) none;
    rising = λ n _ _. omega arith;
    passed = λ log _. tt;
    polls = omega arith;
    told = λ log _. omega arith;
  }

  -- a call was entered
  entered : (r r' last : ℕ) (v w : DeskView) (place : ℕ) (op : Step) (outcome : StepOut) (ev : LaneEvent) → Enters (Legal pin_rules) (status_after pin_rules) v place op outcome w
      → placed_of (ev ∷ []) ≡ (place, entry op outcome) ∷ [] → Rising place (ev ∷ []) (place + 1) → ((log : DeskLog) → PassedTrue pin_rules log (ev ∷ [])) → length (polls_of (ev ∷ [])) + r' ≤ opens_of (ev ∷ []) + r → Moves pin_rules r last v (ev ∷ []) r' last w
  entered r r' last v w place op outcome ev e is rises true_of bound = record {
    same = record { number = ap (λ (y : DeskView). y.number) e.kept; seated = ap (λ (y : DeskView). y.seated) e.kept; ended = ap (λ (y : DeskView). y.ended) e.kept };
    holds = λ events h.
        let own = enters_own (Legal pin_rules) (status_after pin_rules) v w place op outcome e h.mine in
        let notes : w.notes ≡ v.notes = ap (λ (y : DeskView). y.notes) e.kept in
        let long = length-append v.seen e.between in let at = own.at in let last_place = e.at in
        let before : Rising 0 events place = h.rising place (omega (arith, at, long)) (subst (λ (n : ℕ). NotesWithin n v.notes) (sym at) (notes_below (status_after pin_rules) (v.seen ++ e.between) v.notes e.notes_before)) in
        record {
          placed = own.placed ∙ ap (λ l. l ++ (place, entry op outcome) ∷ []) h.placed ∙ ap (λ l. placed_of events ++ l) (sym is) ∙ sym (placed_of_append events (ev ∷ []));
          mine = own.mine;
          rising = λ n le _. rising_append events (ev ∷ []) 0 place n before (rising_to (ev ∷ []) place (place + 1) n rises (omega (arith, le, last_place)));
          passed = λ log t. passed_append pin_rules log events (ev ∷ []) (h.passed log (subst (NotesTrue (status_after pin_rules) log) notes t)) (true_of log);
          polls = (let a = ap length (polls_of_append events (ev ∷ [])) in let b = opens_of_append events (ev ∷ []) in let p = h.polls in omega (arith, a, b, p, bound, length-append (polls_of events) (polls_of (ev ∷ []))));
          told = λ log t. h.told log (subst (NotesTrue (status_after pin_rules) log) notes t);
        };
  }
    where
      rising_to : (events : List LaneEvent) (lo n top : ℕ) → Rising lo events n → n ≤ top → Rising lo events top
      rising_to [] lo n top r le = omega (arith, r, le)
      rising_to (made place e ∷ es) lo n top r le = (r.0, rising_to es (place + 1) n top r.1 le)
      rising_to (polled place e ∷ es) lo n top r le = (r.0, rising_to es (place + 1) n top r.1 le)
      rising_to (passed k ∷ es) lo n top r le = (r.0, rising_to es k n top r.1 le)
      rising_to (opened ∷ es) lo n top r le = rising_to es lo n top r le

  pub makes : (r last : ℕ) (v w : DeskView) (place : ℕ) (op : Step) (outcome : StepOut) → Enters (Legal pin_rules) (status_after pin_rules) v place op outcome w → Moves pin_rules r last v (made place (entry op outcome) ∷ []) r last w
  makes r last v w place op outcome e = entered r r last v w place op outcome (made place (entry op outcome)) e refl (omega arith, omega arith) (λ log. tt) (omega arith)

  pub polls : (r last : ℕ) (v w : DeskView) (place : ℕ) (op : Step) (outcome : StepOut) → Enters (Legal pin_rules) (status_after pin_rules) v place op outcome w → Moves pin_rules (r + 1) last v (polled place (entry op outcome) ∷ []) r last w
  polls r last v w place op outcome e = entered (r + 1) r last v w place op outcome (polled place (entry op outcome)) e refl (omega arith, omega arith) (λ log. tt) (omega arith)

  -- a call was refused
  pub sees : (r last : ℕ) (v w : DeskView) → Sees (Legal pin_rules) (status_after pin_rules) v w → Moves pin_rules r last v [] r last w
  sees r last v w s = record {
    same = record { number = ap (λ (y : DeskView). y.number) s.kept; seated = ap (λ (y : DeskView). y.seated) s.kept; ended = ap (λ (y : DeskView). y.ended) s.kept };
    holds = λ events h.
        let number : w.number ≡ v.number = ap (λ (y : DeskView). y.number) s.kept in
        let w_mine : w.mine ≡ v.mine = ap (λ (y : DeskView). y.mine) s.kept in
        let notes : w.notes ≡ v.notes = ap (λ (y : DeskView). y.notes) s.kept in
        let here : places_from 0 w.number w.seen ≡ w.mine = s.known.each.0.mine in
        let longer : w.seen ≡ v.seen ++ s.seen.0 = s.seen.1 in
        let same : places_from 0 v.number (v.seen ++ s.seen.0) ≡ places_from 0 v.number v.seen = (λ i. places_from 0 (sym number i) (sym longer i)) ∙ here ∙ w_mine ∙ sym h.mine in
        let long = ap length longer in
        subst (λ es. Holds pin_rules r last es w) (sym (append-nil events)) record {
          placed = (λ i. placed_from 0 (number i) (longer i)) ∙ placed_on v.number v.seen s.seen.0 same ∙ h.placed;
          mine = here;
          rising = λ n le within. h.rising n (omega (arith, le, long, length-append v.seen s.seen.0)) (subst (NotesWithin n) notes within);
          passed = λ log t. h.passed log (subst (NotesTrue (status_after pin_rules) log) notes t);
          polls = h.polls;
          told = λ log t. h.told log (subst (NotesTrue (status_after pin_rules) log) notes t);
        };
  }

  -- a glance: new events that need no entry
  glanced : (r last r' last' n s : ℕ) (v w : DeskView) (new : List LaneEvent) → w ≡ noted v n s → placed_of new ≡ []
      → ((events : List LaneEvent) (top : ℕ) → Rising 0 events n → Rising 0 events top → n ≤ top → Rising 0 (events ++ new) top)
      → ((log : DeskLog) → IsTrueNote (status_after pin_rules) log (n, s) → PassedTrue pin_rules log new)
      → length (polls_of new) + r' + last ≤ opens_of new + r + last'
      → ((log : DeskLog) → IsTrueNote (status_after pin_rules) log (n, s) → last ≤ ended_in pin_rules log → last' ≤ ended_in pin_rules log)
      → length v.seen ≤ n → NotesWithin n v.notes → Moves pin_rules r last v new r' last' w
  glanced r last r' last' n s v w new is no_entry rises true_of bound tells seen within = subst (λ (y : DeskView). Moves pin_rules r last v new r' last' y) (sym is) record {
    same = record { number = refl; seated = refl; ended = refl };
    holds = λ events h. record {
      placed = h.placed ∙ sym (append-nil (placed_of events)) ∙ ap (λ l. placed_of events ++ l) (sym no_entry) ∙ sym (placed_of_append events new);
      mine = h.mine;
      rising = λ top le notes. rises events top (h.rising n seen within) (h.rising top le (each_left (λ (note : ℕ × ℕ). note.0 ≤ top) v.notes ((n, s) ∷ []) notes)) (each_right (λ (note : ℕ × ℕ). note.0 ≤ top) v.notes ((n, s) ∷ []) notes).0;
      passed = λ log t. passed_append pin_rules log events new (h.passed log (each_left (IsTrueNote (status_after pin_rules) log) v.notes ((n, s) ∷ []) t)) (true_of log (each_right (IsTrueNote (status_after pin_rules) log) v.notes ((n, s) ∷ []) t).0);
      polls = (let a = ap length (polls_of_append events new) in let b = opens_of_append events new in let p = h.polls in omega (arith, a, b, p, bound, length-append (polls_of events) (polls_of new)));
      told = λ log t. tells log (each_right (IsTrueNote (status_after pin_rules) log) v.notes ((n, s) ∷ []) t).0 (h.told log (each_left (IsTrueNote (status_after pin_rules) log) v.notes ((n, s) ∷ []) t));
    };
  }

  -- a glance that shows nothing new
  pub idles : (r last n s : ℕ) (v w : DeskView) → w ≡ noted v n s → length v.seen ≤ n → NotesWithin n v.notes → Moves pin_rules r last v [] r last w
  idles r last n s v w is = glanced r last r last n s v w [] is refl (λ events top _ rise _. subst (λ es. Rising 0 es top) (sym (append-nil events)) rise) (λ log _. tt) (omega arith) (λ log _ h. h)

  -- a glance that shows an entry that runs
  pub passes : (r last n s : ℕ) (v w : DeskView) → entry_runs_at s ≡ true → w ≡ noted v n s → length v.seen ≤ n → NotesWithin n v.notes → Moves pin_rules r last v (passed n ∷ []) r last w
  passes r last n s v w runs is = glanced r last r last n s v w (passed n ∷ []) is refl (λ events top rise _ le. rising_append events (passed n ∷ []) 0 n top rise (omega arith, le)) (λ log t. (ap entry_runs_at (sym t.1) ∙ runs, tt)) (omega arith) (λ log _ h. h)

  -- a glance that shows more ended requests than the glance before the last ask
  pub raises : EndedStays pin_rules → (r last n s : ℕ) (v w : DeskView) → last < ended_at s → w ≡ noted v n s → length v.seen ≤ n → NotesWithin n v.notes → Moves pin_rules r last v [] (r + 1) (ended_at s) w
  raises stay r last n s v w more is = glanced r last (r + 1) (ended_at s) n s v w [] is refl (λ events top _ rise _. subst (λ es. Rising 0 es top) (sym (append-nil events)) rise) (λ log _. tt) (omega (arith, more))
      (λ log t _. subst (λ (x : ℕ). ended_at x ≤ ended_in pin_rules log) (sym t.1) (subst (λ (whole : DeskLog). ended_in pin_rules (take n log) ≤ ended_in pin_rules whole) (take-append-drop n log) (stay (take n log) (drop n log))))

  -- an await of a reply begins
  pub opens : (r last : ℕ) (v : DeskView) → Moves pin_rules r last v (opened ∷ []) (r + 1) last v
  opens r last v = record {
    same = record { number = refl; seated = refl; ended = refl };
    holds = λ events h. record {
      placed = h.placed ∙ sym (append-nil (placed_of events)) ∙ sym (placed_of_append events (opened ∷ []));
      mine = h.mine;
      rising = λ top le notes. rising_append events (opened ∷ []) 0 top top (h.rising top le notes) (omega arith);
      passed = λ log t. passed_append pin_rules log events (opened ∷ []) (h.passed log t) tt;
      polls = (let a = ap length (polls_of_append events (opened ∷ [])) in let b = opens_of_append events (opened ∷ []) in let p = h.polls in omega (arith, a, b, p, length-append (polls_of events) []));
      told = h.told;
    };
  }

  -- fewer polls are allowed
  pub lessens : (r r' last : ℕ) (v : DeskView) → r' ≤ r → Moves pin_rules r last v [] r' last v
  lessens r r' last v le = record {
    same = record { number = refl; seated = refl; ended = refl };
    holds = λ events h. subst (λ es. Holds pin_rules r' last es v) (sym (append-nil events)) record { placed = h.placed; mine = h.mine; rising = h.rising; passed = h.passed; polls = (let p = h.polls in omega (arith, p, le)); told = h.told };
  }

  -- one glance of an await of an entry
  pub went : (n s : ℕ) (v w : DeskView) (b : Bool) → b ≡ entry_runs_at s → w ≡ noted v n s → length v.seen ≤ n → NotesWithin n v.notes → Went pin_rules b v w
  went n s v w true runs is seen within = (n, λ last. passes 0 last n s v w (sym runs) is seen within)
  went n s v w false runs is seen within = λ last. idles 0 last n s v w is seen within

  -- moves put together
  pub lessen : (r last : ℕ) (v : DeskView) (new : List LaneEvent) (r1 r2 last' : ℕ) (w : DeskView) → Moves pin_rules r last v new r1 last' w → r2 ≤ r1 → Moves pin_rules r last v new r2 last' w
  lessen r last v new r1 r2 last' w m le = record {
    same = m.same;
    holds = λ events h. let g = m.holds events h in record { placed = g.placed; mine = g.mine; rising = g.rising; passed = g.passed; polls = (let p = g.polls in omega (arith, p, le)); told = g.told };
  }

  pub and_rest : (r0 l0 r1 l1 r2 l2 : ℕ) (u v w : DeskView) (a : List LaneEvent) → Moves pin_rules r0 l0 u a r1 l1 v → Moves pin_rules r1 l1 v [] r2 l2 w → Moves pin_rules r0 l0 u a r2 l2 w
  and_rest r0 l0 r1 l1 r2 l2 u v w a first second = subst (λ es. Moves pin_rules r0 l0 u es r2 l2 w) (append-nil a) (then r0 l0 r1 l1 r2 l2 u v w a [] first second)

  -- an await of a reply

  pub opens_reply : (session : Session) (id l l' : ℕ) (v w : DeskView) (b : Bool) → OnTrue b (Moves pin_rules 0 l v [] 1 l' w) → OnFalse b (Moves pin_rules 0 l v [] 0 l' w) → Polling pin_rules session id 1 l v l' w
  opens_reply session id l l' v w true t f = record { polls = []; pending = tt; moves = lessen 0 l v (opened ∷ []) 2 1 l' w (then 0 l 1 l' 2 l' v w w [] (opened ∷ []) t (opens 1 l' w)) (omega arith) }
  opens_reply session id l l' v w false t f = record { polls = []; pending = tt; moves = then 0 l 0 l' 1 l' v w w [] (opened ∷ []) f (opens 0 l' w) }

  polls_to : (r : ℕ) (session : Session) (id l l1 l2 : ℕ) (v u w x : DeskView) → Polling pin_rules session id 1 l v l1 u → AskTold pin_rules session id true u w → Moves pin_rules 0 l1 w [] r l2 x → Polling pin_rules session id r l v l2 x
  polls_to r session id l l1 l2 v u w x so asked more =
      let ev : LaneEvent = polled asked.place (entry (reply_asked session id) asked.outcome) in record {
        polls = so.polls ++ ev ∷ [];
        pending = each_append (IsPoll session id) so.polls (ev ∷ []) so.pending ((refl, asked.told), tt);
        moves = and_rest 0 l 0 l1 r l2 v w x ((opened ∷ so.polls) ++ ev ∷ []) (then 0 l 1 l1 0 l1 v u w (opened ∷ so.polls) (ev ∷ []) so.moves (polls 0 l1 u w asked.place (reply_asked session id) asked.outcome asked.entered)) more;
      }

  pub polls_again : (session : Session) (id l l1 l2 : ℕ) (v u w x : DeskView) → Polling pin_rules session id 1 l v l1 u → AskTold pin_rules session id true u w → Moves pin_rules 0 l1 w [] 1 l2 x → Polling pin_rules session id 1 l v l2 x
  polls_again session id l l1 l2 v u w x so asked more = polls_to 1 session id l l1 l2 v u w x so asked more

  pub polls_last : (session : Session) (id l l1 l2 : ℕ) (v u w x : DeskView) → Polling pin_rules session id 1 l v l1 u → AskTold pin_rules session id true u w → Moves pin_rules 0 l1 w [] 0 l2 x → Polling pin_rules session id 0 l v l2 x
  polls_last session id l l1 l2 v u w x so asked more = polls_to 0 session id l l1 l2 v u w x so asked more

  pub replies : (session : Session) (id l l1 : ℕ) (v u w : DeskView) → Polling pin_rules session id 1 l v l1 u → AskTold pin_rules session id false u w → Replying pin_rules session id l v l1 w
  replies session id l l1 v u w so asked =
      let ev : LaneEvent = made asked.place (entry (reply_asked session id) asked.outcome) in record {
        now = (opened ∷ so.polls) ++ ev ∷ [];
        replied = record { polls = so.polls; pending = so.pending; place = asked.place; outcome = asked.outcome; told = asked.told; is = refl };
        moves = lessen 0 l v ((opened ∷ so.polls) ++ ev ∷ []) 1 0 l1 w (then 0 l 1 l1 1 l1 v u w (opened ∷ so.polls) (ev ∷ []) so.moves (makes 1 l1 u w asked.place (reply_asked session id) asked.outcome asked.entered)) (omega arith);
      }

  pub refused_poll : (session : Session) (id l l1 : ℕ) (v u w : DeskView) → Polling pin_rules session id 1 l v l1 u → Sees (Legal pin_rules) (status_after pin_rules) u w → Polling pin_rules session id 0 l v l1 w
  refused_poll session id l l1 v u w so s = record { polls = so.polls; pending = so.pending; moves = lessen 0 l v (opened ∷ so.polls) 1 0 l1 w (and_rest 0 l 1 l1 1 l1 v u w (opened ∷ so.polls) so.moves (sees 1 l1 u w s)) (omega arith) }

  pub rests_refused : (v w : DeskView) → Sees (Legal pin_rules) (status_after pin_rules) v w → Rests pin_rules v w
  rests_refused v w s = λ last. sees 0 last v w s

  -- lines

  pub step_done : (ids : List ℕ) (last : ℕ) (line : LaneStep) (step : Step) (v : DeskView) (ids' : List ℕ) (w : DeskView) → ((now : List LaneEvent) → IsMade step now → FollowsLine ids line now) → Stepped pin_rules ids step v ids' w → LineDone pin_rules ids last line v ids' last w
  step_done ids last line step v ids' w is s = let ev : LaneEvent = made s.place (entry step s.outcome) in record {
    now = ev ∷ [];
    follows = is (ev ∷ []) (s.place, s.outcome, refl);
    drew = s.drew ∙ ap (λ l. ids ++ l) (sym (append-nil (id_drawn step s.outcome)));
    moves = makes 0 last v w s.place step s.outcome s.entered;
  }

  pub plain_done : (ids : List ℕ) (last : ℕ) (line : LaneStep) (step : Step) (v : DeskView) (ids' : List ℕ) (w : DeskView) → line ≡ lane.Plain step → Stepped pin_rules ids step v ids' w → LineDone pin_rules ids last line v ids' last w
  plain_done ids last line step v ids' w is s = subst (λ l. LineDone pin_rules ids last l v ids' last w) (sym is) (step_done ids last (lane.Plain step) step v ids' w (λ now m. m) s)

  pub cancel_done : (ids : List ℕ) (last : ℕ) (line : LaneStep) (session : Session) (name : LaneId) (id : ℕ) (v : DeskView) (ids' : List ℕ) (w : DeskView) → line ≡ lane.Cancel session name → id ≡ id_named ids name → Stepped pin_rules ids (steps.Cancel session id) v ids' w → LineDone pin_rules ids last line v ids' last w
  cancel_done ids last line session name id v ids' w is at s = subst (λ l. LineDone pin_rules ids last l v ids' last w) (sym is) (step_done ids last (lane.Cancel session name) (steps.Cancel session id) v ids' w (λ now m. subst (λ i. IsMade (steps.Cancel session i) now) at m) s)

  pub ask_done : (ids : List ℕ) (last : ℕ) (line : LaneStep) (session : Session) (k id : ℕ) (v : DeskView) (ids' : List ℕ) (w : DeskView) → line ≡ lane.AskReply session k → id ≡ id_at ids k → Stepped pin_rules ids (reply_asked session id) v ids' w → LineDone pin_rules ids last line v ids' last w
  ask_done ids last line session k id v ids' w is at s = subst (λ l. LineDone pin_rules ids last l v ids' last w) (sym is) (step_done ids last (lane.AskReply session k) (reply_asked session id) v ids' w (λ now m. subst (λ i. IsMade (reply_asked session i) now) at m) s)

  pub entry_done : (ids : List ℕ) (last : ℕ) (line : LaneStep) (v w : DeskView) → line ≡ lane.AwaitEntry → Went pin_rules true v w → LineDone pin_rules ids last line v ids last w
  entry_done ids last line v w is went = subst (λ l. LineDone pin_rules ids last l v ids last w) (sym is) record { now = passed went.0 ∷ []; follows = (went.0, refl); drew = sym (append-nil ids); moves = went.1 last }

  no_ids : (session : Session) (id : ℕ) (polls : List LaneEvent) (tail : List LaneEvent) → Each (IsPoll session id) polls → ids_of (polls ++ tail) ≡ ids_of tail
  no_ids session id [] tail is = refl
  no_ids session id (made place e ∷ es) tail is = absurd is.0
  no_ids session id (polled place e ∷ es) tail is = no_ids session id es tail is.1
  no_ids session id (passed k ∷ es) tail is = absurd is.0
  no_ids session id (opened ∷ es) tail is = absurd is.0

  pub reply_done : (ids : List ℕ) (last : ℕ) (line : LaneStep) (session : Session) (k id : ℕ) (v : DeskView) (last' : ℕ) (w : DeskView) → line ≡ lane.AwaitReply session k → id ≡ id_at ids k → Replying pin_rules session id last v last' w → LineDone pin_rules ids last line v ids last' w
  reply_done ids last line session k id v last' w is at r = subst (λ l. LineDone pin_rules ids last l v ids last' w) (sym is) record {
    now = r.now;
    follows = subst (λ i. Replied session i r.now) at r.replied;
    drew = sym (append-nil ids) ∙ ap (λ l. ids ++ l) (sym (no_ids session id r.replied.polls (made r.replied.place (entry (reply_asked session id) r.replied.outcome) ∷ []) r.replied.pending) ∙ ap ids_of (sym r.replied.is));
    moves = r.moves;
  }

  pub rest_broken : (ids : List ℕ) (last : ℕ) (line : LaneStep) (v w : DeskView) → Rests pin_rules v w → LineBroken pin_rules ids last line v last w
  rest_broken ids last line v w r = record { now = []; breaks = inl refl; moves = r last }

  pub reply_broken : (ids : List ℕ) (last : ℕ) (line : LaneStep) (session : Session) (k id : ℕ) (v : DeskView) (last' : ℕ) (w : DeskView) → line ≡ lane.AwaitReply session k → id ≡ id_at ids k → Polling pin_rules session id 0 last v last' w → LineBroken pin_rules ids last line v last' w
  reply_broken ids last line session k id v last' w is at p = record {
    now = opened ∷ p.polls;
    breaks = inr (record { session = session; k = k; awaits = is; polls = p.polls; pending = subst (λ i. Each (IsPoll session i) p.polls) at p.pending; is = refl });
    moves = p.moves;
  }

  -- lanes

  pub lane_begins : (lines : List LaneStep) (v : DeskView) (ids : List ℕ) → ids ≡ [] → lines ≡ [] → LinesDone pin_rules lines v ids 0 v
  lane_begins lines v ids none start = subst (λ (l : List LaneStep). LinesDone pin_rules l v ids 0 v) (sym start) record { events = []; follows = refl; drew = none; moves = stays 0 0 v }

  pub lane_goes : (lines : List LaneStep) (line : LaneStep) (v : DeskView) (ids ids' : List ℕ) (last last' : ℕ) (u w : DeskView) → LinesDone pin_rules lines v ids last u → LineDone pin_rules ids last line u ids' last' w → LinesDone pin_rules (lines ++ line ∷ []) v ids' last' w
  lane_goes lines line v ids ids' last last' u w so one = record {
    events = so.events ++ one.now;
    follows = follows_more [] lines so.events line one.now so.follows (subst (λ (xs : List ℕ). FollowsLine xs line one.now) so.drew one.follows);
    drew = one.drew ∙ ap (λ l. l ++ ids_of one.now) so.drew ∙ sym (ids_of_append so.events one.now);
    moves = then 0 0 0 last 0 last' v u w so.events one.now so.moves one.moves;
  }

  pub lane_breaks : (lines done rest : List LaneStep) (line : LaneStep) (v : DeskView) (ids : List ℕ) (last last' : ℕ) (u w : DeskView) → lines ≡ done ++ line ∷ rest → LinesDone pin_rules done v ids last u → LineBroken pin_rules ids last line u last' w → LaneCut pin_rules lines v w
  lane_breaks lines done rest line v ids last last' u w cut so one = record {
    done = done;
    line = line;
    rest = rest;
    cut = cut;
    events = so.events;
    now = one.now;
    last = last';
    follows = so.follows;
    breaks = subst (λ (xs : List ℕ). Breaks xs line one.now) so.drew one.breaks;
    moves = then 0 0 0 last 0 last' v u w so.events one.now so.moves one.moves;
  }

  pub lane_ends : (lines : List LaneStep) (v : DeskView) (ids : List ℕ) (last : ℕ) (w : DeskView) → LinesDone pin_rules lines v ids last w → LaneWhole pin_rules lines v w
  lane_ends lines v ids last w so = record { events = so.events; last = last; follows = so.follows; moves = so.moves }

  pub rest_rests : (v u w : DeskView) → Rests pin_rules v u → Rests pin_rules u w → Rests pin_rules v w
  rest_rests v u w a b = λ last. then 0 last 0 last 0 last v u w [] [] (a last) (b last)

  pub rest_goes : (v u w : DeskView) → Rests pin_rules v u → Went pin_rules true u w → Went pin_rules true v w
  rest_goes v u w a b = (b.0, λ last. then 0 last 0 last 0 last v u w [] (passed b.0 ∷ []) (a last) (b.1 last))

  pub lane_next : (lines : List LaneStep) (i : ℕ) (d line : LaneStep) (v : DeskView) (ids ids' : List ℕ) (last last' : ℕ) (u w : DeskView) → i < length lines → line ≡ get_or lines i d → LinesDone pin_rules (take i lines) v ids last u → LineDone pin_rules ids last line u ids' last' w → LinesDone pin_rules (take (i + 1) lines) v ids' last' w
  lane_next lines i d line v ids ids' last last' u w below is so one = subst (λ (l : List LaneStep). LinesDone pin_rules l v ids' last' w) (ap (λ x. take i lines ++ x ∷ []) is ∙ sym (take_more lines i d below)) (lane_goes (take i lines) line v ids ids' last last' u w so one)

  pub lane_cut : (lines : List LaneStep) (i : ℕ) (d line : LaneStep) (v : DeskView) (ids : List ℕ) (last last' : ℕ) (u w : DeskView) → i < length lines → line ≡ get_or lines i d → LinesDone pin_rules (take i lines) v ids last u → LineBroken pin_rules ids last line u last' w → LaneCut pin_rules lines v w
  lane_cut lines i d line v ids last last' u w below is so one = lane_breaks lines (take i lines) (drop (i + 1) lines) line v ids last last' u w (split_at lines i d below ∙ ap (λ x. take i lines ++ x ∷ drop (i + 1) lines) (sym is)) so one

  pub lane_told : (lines : List LaneStep) (i : ℕ) (d : LaneStep) (v : DeskView) (ids : List ℕ) (last : ℕ) (u : DeskView) → i < length lines → LinesDone pin_rules (take i lines) v ids last u → LaneCut pin_rules lines v u
  lane_told lines i d v ids last u below so = lane_cut lines i d (get_or lines i d) v ids last last u u below refl so (rest_broken ids last (get_or lines i d) u u (λ l. stays 0 l u))
