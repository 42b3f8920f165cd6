-- The ids that outs tell, and the sessions that they are told to.
use Rattle.flat_machine.proofs.BoolLemmas.{and_of}
use Rattle.flat_machine.proofs.LineMoves.{same_itself}
use Rattle.flat_machine.proofs.RequestMoves.{Rows}
use Rattle.flat_machine.proofs.RequestRuns.{ids_count_up}
use Rattle.flat_machine.proofs.StepCauses.{Began, Caused, EndedMany, EndedOne, EndsOne, ByAnswer, ByBadStore, ByDevice, ByFault, ByPress, ByRefusal, Nothing, RefusedEntry, Submitted, ended_by, next_caused, notable_in, notables}
use Rattle.flat_machine.specs.Facts.{IsStart, outs_of}
use Rattle.flat_machine.specs.Machine.{Act, lines_from, next, run_from}
use Rattle.flat_machine.specs.QueueFacts.{owner_in, owners_in, row_owner, submits}
use Rattle.flat_machine.specs.RequestFacts.{row_id}
use Rattle.flat_machine.specs.Settings.{Setting}
use Rattle.flat_machine.specs.State.{Flat, Shared, accuses, opening, ready_opening}
use Rattle.flat_machine.specs.declared.types.Owner.{Owner}
use Rattle.device_lock.specs.LockLine.{holder_of}
use Rattle.request_queue.specs.Requests.{begun_as, ended_where, finished, may_begin, pending_where}
use Rattle.request_queue.specs.declared.requests.Request.{Request}
use Rattle.request_queue.specs.declared.requests.RequestRow.{RequestRow}
use Rattle.request_queue.specs.declared.requests.RequestRow.TheVariants.{Gone, InWork, Waiting}
use Rattle.session_book.specs.Sessions.{hearers}
use Rattle.pad_steps.specs.declared.answers.Out.{Out}
use Rattle.pad_steps.specs.declared.answers.Refusal.{Refusal}
use Rattle.pad_steps.specs.declared.answers.Reply.{Reply}
use Rattle.pad_steps.specs.declared.commands.Command.{Command}
use Rattle.pad_steps.specs.declared.steps.DiskWord.{DiskWord}
use Rattle.pad_steps.specs.declared.steps.Step.{Step}
use Rattle.pad_words.specs.Numbers.{same_session}
use Rattle.pad_words.specs.declared.numbers.Session.{Session}
use Rattle.std.proofs.Common.{ap, append_assoc, inl, inr, subst, sym, ◌∙◌}
use Rattle.std.proofs.lemmas.List.{append-nil}
use Rattle.std.specs.List.{list_all, range_with_len}
use Rattle.std.specs.Prelude.{Bool, IsTrue, List, None, Option, Some, [], false, if◌then◌else◌, length, map, refl, true, ℕ, ◌++◌, ◌+◌, ◌∷◌, ◌≡◌}
use Rattle.pad_steps.specs.declared.answers.Event.TheVariants as event
use Rattle.pad_steps.specs.declared.answers.Out.TheVariants as out
use Rattle.pad_steps.specs.declared.answers.Reply.TheVariants as reply
use Rattle.pad_steps.specs.declared.steps.Class.TheVariants as class

-- owners in outs are those in what the outs say of requests

owners-append : (xs ys : List Out) → owners_in (xs ++ ys) ≡ owners_in xs ++ owners_in ys
owners-append [] ys = refl
owners-append (o ∷ xs) ys = ap (λ (os : List Owner). owner_in o ++ os) (owners-append xs ys) ∙ sym (append_assoc (owner_in o) (owners_in xs) (owners_in ys))

owner_notable : (o : Out) → owners_in (notable_in o) ≡ owner_in o
owner_notable (out.Request s id) = refl
owner_notable (out.Refused s r) = refl
owner_notable (out.Ended s id r) = refl
owner_notable (out.Told s t) = refl
owner_notable (out.Event s event.EnterData) = refl
owner_notable (out.Event s (event.Key shown)) = refl
owner_notable (out.Event s event.Initialized) = refl
owner_notable (out.Event s (event.IllegalKeyAccess name r)) = refl

owners-notables : (outs : List Out) → owners_in (notables outs) ≡ owners_in outs
owners-notables [] = refl
owners-notables (o ∷ outs) = owners-append (notable_in o) (notables outs) ∙ ap (λ (os : List Owner). os ++ owners_in (notables outs)) (owner_notable o) ∙ ap (λ (os : List Owner). owner_in o ++ os) (owners-notables outs)

owners-ended : (r : Reply) (xs : List (Request Command)) → owners_in (map (ended_by r) xs) ≡ []
owners-ended r [] = refl
owners-ended r (a ∷ xs) = owners-ended r xs

owners-heard : (sessions : List Session) (name : List ℕ) (r : Refusal) → owners_in (map (λ (s : Session). out.Event s (event.IllegalKeyAccess name r)) sessions) ≡ []
owners-heard [] name r = refl
owners-heard (s ∷ sessions) name r = owners-heard sessions name r

owners-accuses : (p : Shared) (accused : Option (List ℕ)) (r : Refusal) → owners_in (accuses p accused r) ≡ []
owners-accuses p None r = refl
owners-accuses p (Some name) r = owners-heard (hearers class.Service p.sessions) name r

owners_end : (set : Setting) (h : Flat) (s : Step) (w : DiskWord) (a : Request Command) (r : Reply) (heard : List Out) → EndsOne set h s w a r heard → owners_in heard ≡ []
owners_end set h s w a r heard (ByPress k x at e o) = ap owners_in o
owners_end set h s w a r heard (ByRefusal why accused at v e o) = ap owners_in o ∙ owners-accuses h.shared accused why
owners_end set h s w a r heard (ByAnswer x at v e o) = ap owners_in o
owners_end set h s w a r heard (ByFault n at c e o) = ap owners_in o
owners_end set h s w a r heard (ByBadStore slot at v c e o) = ap owners_in o
owners_end set h s w a r heard (ByDevice at v e o) = ap owners_in o

-- rows keep their owners

owner_waiting : (b : Bool) (a : Request Command) (r : Reply) → row_owner (if b then Gone a.id a.session r else Waiting a) ≡ row_owner (Waiting a)
owner_waiting true a r = refl
owner_waiting false a r = refl

owner_work : (b : Bool) (a : Request Command) (r : Reply) → row_owner (if b then Gone a.id a.session r else InWork a) ≡ row_owner (InWork a)
owner_work true a r = refl
owner_work false a r = refl

two_owners : (x y : Owner) (xs ys : List Owner) → x ≡ y → xs ≡ ys → x ∷ xs ≡ y ∷ ys
two_owners x y xs ys e f = rw (e, f) refl

owners-ended_where : (test : Request Command → Bool) (r : Reply) (rows : Rows) → map row_owner (ended_where test r rows) ≡ map row_owner rows
owners-ended_where test r [] = refl
owners-ended_where test r (Waiting a ∷ rows) = two_owners _ _ _ _ (owner_waiting (test a) a r) (owners-ended_where test r rows)
owners-ended_where test r (InWork a ∷ rows) = two_owners _ _ _ _ (owner_work (test a) a r) (owners-ended_where test r rows)
owners-ended_where test r (Gone id s q ∷ rows) = ap (λ (os : List Owner). record { id = id; session = s } ∷ os) (owners-ended_where test r rows)

owners-begun_as : (f : Request Command → RequestRow Command Reply) (holder : Option Session) (rows : Rows) → ((a : Request Command) → row_owner (f a) ≡ row_owner (Waiting a)) → map row_owner (begun_as f holder rows) ≡ map row_owner rows
owners-begun_as f holder [] same = refl
owners-begun_as f holder (Waiting a ∷ rows) same = taken (may_begin holder a) (owners-begun_as f holder rows same)
  where
    taken : (b : Bool) → map row_owner (begun_as f holder rows) ≡ map row_owner rows → map row_owner (if b then f a ∷ rows else Waiting a ∷ begun_as f holder rows) ≡ map row_owner (Waiting a ∷ rows)
    taken true e = ap (λ (o : Owner). o ∷ map row_owner rows) (same a)
    taken false e = ap (λ (os : List Owner). row_owner (Waiting a) ∷ os) e
owners-begun_as f holder (InWork a ∷ rows) same = ap (λ (os : List Owner). row_owner (InWork a) ∷ os) (owners-begun_as f holder rows same)
owners-begun_as f holder (Gone id s q ∷ rows) same = ap (λ (os : List Owner). record { id = id; session = s } ∷ os) (owners-begun_as f holder rows same)

owners-finished : (r : Reply) (rows : Rows) → map row_owner (finished r rows) ≡ map row_owner rows
owners-finished r [] = refl
owners-finished r (Waiting a ∷ rows) = ap (λ (os : List Owner). row_owner (Waiting a) ∷ os) (owners-finished r rows)
owners-finished r (InWork a ∷ rows) = refl
owners-finished r (Gone id s q ∷ rows) = ap (λ (os : List Owner). record { id = id; session = s } ∷ os) (owners-finished r rows)

owners-push : (rows : Rows) (a : Request Command) → map row_owner (rows ++ Waiting a ∷ []) ≡ map row_owner rows ++ row_owner (Waiting a) ∷ []
owners-push [] a = refl
owners-push (row ∷ rows) a = ap (λ (os : List Owner). row_owner row ∷ os) (owners-push rows a)

-- a step adds the owner that it tells

adds_none : (rows after : Rows) (outs : List Out) → map row_owner after ≡ map row_owner rows → owners_in (notables outs) ≡ [] → map row_owner after ≡ map row_owner rows ++ owners_in outs
adds_none rows after outs e o = e ∙ sym (append-nil (map row_owner rows)) ∙ ap (λ (os : List Owner). map row_owner rows ++ os) (sym o ∙ owners-notables outs)

owners_caused : (set : Setting) (h : Flat) (s : Step) (w : DiskWord) (after : Rows) (outs : List Out) → Caused set h s w after outs → map row_owner after ≡ map row_owner h.shared.requests ++ owners_in outs
owners_caused set h s w after outs (Nothing e o) = adds_none h.shared.requests after outs (ap (map row_owner) e) (ap owners_in o)
owners_caused set h s w after outs (Submitted t limit c at ok e o) = ap (map row_owner) e ∙ owners-push h.shared.requests _ ∙ ap (λ (os : List Owner). map row_owner h.shared.requests ++ os) (sym (ap owners_in o) ∙ owners-notables outs)
owners_caused set h s w after outs (EndedMany test r why e o) = adds_none h.shared.requests after outs (ap (map row_owner) e ∙ owners-ended_where test (reply.No r) h.shared.requests) (ap owners_in o ∙ owners-ended (reply.No r) (pending_where test h.shared.requests))
owners_caused set h s w after outs (Began a at none some e o) = adds_none h.shared.requests after outs (ap (map row_owner) e ∙ owners-begun_as (λ x. InWork x) (holder_of h.shared.line) h.shared.requests (λ x. refl)) (ap owners_in o)
owners_caused set h s w after outs (RefusedEntry a entry r at none some is e o) = adds_none h.shared.requests after outs (ap (map row_owner) e ∙ owners-begun_as (λ x. Gone x.id x.session (reply.No r)) (holder_of h.shared.line) h.shared.requests (λ x. refl)) (ap owners_in o)
owners_caused set h s w after outs (EndedOne a r heard work why e o) = adds_none h.shared.requests after outs (ap (map row_owner) e ∙ owners-finished r h.shared.requests) (ap owners_in o ∙ owners_end set h s w a r heard why)

owners_step : (set : Setting) (h : Flat) (s : Step) (w : DiskWord) → map row_owner (next set h s w).state.shared.requests ≡ map row_owner h.shared.requests ++ owners_in (next set h s w).outs
owners_step set h s w = owners_caused set h s w (next set h s w).state.shared.requests (next set h s w).outs (next_caused set h s w)

owners_from : (set : Setting) (h : Flat) (acts : List Act) → map row_owner (run_from set h acts).shared.requests ≡ map row_owner h.shared.requests ++ owners_in (outs_of (lines_from set h acts))
owners_from set h [] = sym (append-nil (map row_owner h.shared.requests))
owners_from set h (act ∷ acts) =
    let one = next set h act.step act.word in
    let rest = outs_of (lines_from set one.state acts) in
    owners_from set one.state acts ∙ ap (λ (os : List Owner). os ++ owners_in rest) (owners_step set h act.step act.word)
    ∙ append_assoc (map row_owner h.shared.requests) (owners_in one.outs) (owners_in rest) ∙ ap (λ (os : List Owner). map row_owner h.shared.requests ++ os) (sym (owners-append one.outs rest))

pub owners_told : (set : Setting) (start : Flat) (acts : List Act) → IsStart start → owners_in (outs_of (lines_from set start acts)) ≡ map row_owner (run_from set start acts).shared.requests
owners_told set start acts (inl e) = subst (λ (h : Flat). owners_in (outs_of (lines_from set h acts)) ≡ map row_owner (run_from set h acts).shared.requests) (sym e) (sym (owners_from set opening acts))
owners_told set start acts (inr e) = subst (λ (h : Flat). owners_in (outs_of (lines_from set h acts)) ≡ map row_owner (run_from set h acts).shared.requests) (sym e) (sym (owners_from set ready_opening acts))

id_of_owner : (row : RequestRow Command Reply) → (row_owner row).id ≡ row_id row
id_of_owner (Waiting a) = refl
id_of_owner (InWork a) = refl
id_of_owner (Gone id s q) = refl

ids-owners : (rows : Rows) → map (λ (o : Owner). o.id) (map row_owner rows) ≡ map row_id rows
ids-owners [] = refl
ids-owners (row ∷ rows) = two_ids _ _ _ _ (id_of_owner row) (ids-owners rows)
  where
    two_ids : (x y : ℕ) (xs ys : List ℕ) → x ≡ y → xs ≡ ys → x ∷ xs ≡ y ∷ ys
    two_ids x y xs ys e f = rw (e, f) refl

pub ids_told : (set : Setting) (start : Flat) (acts : List Act) → IsStart start → map (λ (o : Owner). o.id) (owners_in (outs_of (lines_from set start acts))) ≡ range_with_len 1 (length (run_from set start acts).shared.requests)
ids_told set start acts begins = ap (map (λ (o : Owner). o.id)) (owners_told set start acts begins) ∙ ids-owners (run_from set start acts).shared.requests ∙ ids_count_up set start acts begins

-- an id is told to the session that submits

submitted_told : (set : Setting) (h : Flat) (s : Step) (w : DiskWord) (after : Rows) (outs : List Out) → Caused set h s w after outs → list_all (λ (o : Owner). submits o.session s) (owners_in (notables outs)) ≡ true
submitted_told set h s w after outs (Nothing e o) = ap (λ (os : List Out). list_all (λ (o : Owner). submits o.session s) (owners_in os)) o
submitted_told set h s w after outs (Submitted t limit c at ok e o) = ap (λ (os : List Out). list_all (λ (o : Owner). submits o.session s) (owners_in os)) o ∙ subst (λ (x : Step). list_all (λ (o : Owner). submits o.session x) (record { id = length h.shared.requests + 1; session = t } ∷ []) ≡ true) (sym at) (and_of (same_session t t) true (same_itself t.number) refl)
submitted_told set h s w after outs (EndedMany test r why e o) = ap (λ (os : List Owner). list_all (λ (o : Owner). submits o.session s) os) (ap owners_in o ∙ owners-ended (reply.No r) (pending_where test h.shared.requests))
submitted_told set h s w after outs (Began a at none some e o) = ap (λ (os : List Out). list_all (λ (o : Owner). submits o.session s) (owners_in os)) o
submitted_told set h s w after outs (RefusedEntry a entry r at none some is e o) = ap (λ (os : List Out). list_all (λ (o : Owner). submits o.session s) (owners_in os)) o
submitted_told set h s w after outs (EndedOne a r heard work why e o) = ap (λ (os : List Owner). list_all (λ (o : Owner). submits o.session s) os) (ap owners_in o ∙ owners_end set h s w a r heard why)

pub told_to_submitter : (set : Setting) (h : Flat) (s : Step) (w : DiskWord) → IsTrue (list_all (λ (o : Owner). submits o.session s) (owners_in (next set h s w).outs))
told_to_submitter set h s w = subst (λ (os : List Owner). list_all (λ (o : Owner). submits o.session s) os ≡ true) (owners-notables (next set h s w).outs) (submitted_told set h s w (next set h s w).state.shared.requests (next set h s w).outs (next_caused set h s w))
