-- The ends that outs tell of.
use Rattle.flat_machine.proofs.RequestMoves.{Rows, ending_of, endings_where}
use Rattle.flat_machine.specs.RequestFacts.{Ending, ending_in, endings}
use Rattle.request_queue.specs.Requests.{pending_where}
use Rattle.flat_machine.specs.Sessions.{execute_event, grants, grants_after, service_events}
use Rattle.device_lock.specs.LockLine.{holds, out_of_line}
use Rattle.flat_machine.specs.State.{Shared, accuses}
use Rattle.request_queue.specs.declared.requests.Request.{Request}
use Rattle.request_queue.specs.declared.requests.RequestRow.TheVariants.{Gone, InWork, Waiting}
use Rattle.session_book.specs.Sessions.{hearers, hears}
use Rattle.session_book.specs.declared.sessions.SessionRow.{SessionRow}
use Rattle.pad_steps.specs.declared.steps.Class.TheVariants as class
use Rattle.pad_steps.specs.declared.answers.Event.{Event}
use Rattle.pad_steps.specs.declared.answers.Out.{Out}
use Rattle.pad_steps.specs.declared.answers.Refusal.{Refusal}
use Rattle.pad_steps.specs.declared.answers.Reply.{Reply}
use Rattle.pad_steps.specs.declared.commands.Command.{Command}
use Rattle.pad_words.specs.declared.numbers.Session.{Session}
use Rattle.std.proofs.Common.{ap, append_assoc, sym, ◌∙◌}
use Rattle.std.specs.Prelude.{Bool, List, None, Option, Some, [], false, if◌then◌else◌, map, refl, true, ℕ, ◌++◌, ◌∷◌, ◌≡◌}
use Rattle.pad_steps.specs.declared.answers.Event.TheVariants as event
use Rattle.pad_steps.specs.declared.answers.Out.TheVariants as out

pub endings-append : (xs ys : List Out) → endings (xs ++ ys) ≡ endings xs ++ endings ys
endings-append [] ys = refl
endings-append (o ∷ xs) ys = ap (λ (es : List Ending). ending_in o ++ es) (endings-append xs ys) ∙ sym (append_assoc (ending_in o) (endings xs) (endings ys))

ended_if : (b : Bool) (a : Request Command) (r : Reply) (xs : List (Request Command)) (es : List Ending) → endings (map (λ (x : Request Command). out.Ended x.session x.id r) xs) ≡ es
    → endings (map (λ (x : Request Command). out.Ended x.session x.id r) (if b then a ∷ xs else xs)) ≡ (if b then ending_of a r ∷ es else es)
ended_if true a r xs es e = ap (λ (ys : List Ending). ending_of a r ∷ ys) e
ended_if false a r xs es e = e

pub endings-ended : (test : Request Command → Bool) (r : Reply) (rows : Rows) → endings (map (λ (a : Request Command). out.Ended a.session a.id r) (pending_where test rows)) ≡ endings_where test r rows
endings-ended test r [] = refl
endings-ended test r (Waiting a ∷ rows) = ended_if (test a) a r (pending_where test rows) (endings_where test r rows) (endings-ended test r rows)
endings-ended test r (InWork a ∷ rows) = ended_if (test a) a r (pending_where test rows) (endings_where test r rows) (endings-ended test r rows)
endings-ended test r (Gone id s q ∷ rows) = endings-ended test r rows

event_if : (b : Bool) (s : Session) (e : Event) → endings (if b then out.Event s e ∷ [] else []) ≡ []
event_if true s e = refl
event_if false s e = refl

pub endings-execute_event : (rows : List SessionRow) (s : Session) (e : Event) → endings (execute_event rows s e) ≡ []
endings-execute_event rows s e = event_if (hears s class.Execute rows) s e

endings-heard : (sessions : List Session) (e : Event) → endings (map (λ (session : Session). out.Event session e) sessions) ≡ []
endings-heard [] e = refl
endings-heard (session ∷ sessions) e = endings-heard sessions e

pub endings-service_events : (rows : List SessionRow) (e : Event) → endings (service_events rows e) ≡ []
endings-service_events rows e = endings-heard (hearers class.Service rows) e

pub endings-accuses : (p : Shared) (accused : Option (List ℕ)) (r : Refusal) → endings (accuses p accused r) ≡ []
endings-accuses p None r = refl
endings-accuses p (Some name) r = endings-service_events p.sessions (event.IllegalKeyAccess name r)

pub endings-grants : (line : List Session) → endings (grants line) ≡ []
endings-grants [] = refl
endings-grants (s ∷ line) = refl

none_if_ends : (b : Bool) (xs : List Out) → endings xs ≡ [] → endings (if b then xs else []) ≡ []
none_if_ends true xs e = e
none_if_ends false xs e = refl

pub endings-grants_after : (s : Session) (line : List Session) → endings (grants_after s line) ≡ []
endings-grants_after s line = none_if_ends (holds s line) (grants (out_of_line s line)) (endings-grants (out_of_line s line))
