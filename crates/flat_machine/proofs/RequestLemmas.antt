-- Requests that end one by one, as a loop ends them.
use Rattle.request_queue.specs.Requests.{ended_where}
use Rattle.request_queue.specs.declared.requests.Request.{Request}
use Rattle.request_queue.specs.declared.requests.RequestRow.{RequestRow}
use Rattle.request_queue.specs.declared.requests.RequestRow.TheVariants.{Gone, InWork, Waiting}
use Rattle.pad_steps.specs.declared.answers.Reply.{Reply}
use Rattle.pad_steps.specs.declared.commands.Command.{Command}
use Rattle.std.proofs.Common.{ap}
use Rattle.std.specs.Prelude.{Bool, List, None, Option, Some, [], false, if◌then◌else◌, refl, true, ◌∷◌, ◌≡◌}

-- the first pending request that passes the test, and its row gone
abbrev pub first_where : (Request Command → Bool) → List (RequestRow Command Reply) → Option (Request Command)
first_where test [] = None
first_where test (Waiting a ∷ rows) = if test a then Some a else first_where test rows
first_where test (InWork a ∷ rows) = if test a then Some a else first_where test rows
first_where test (Gone id s r ∷ rows) = first_where test rows

abbrev pub first_ended : (Request Command → Bool) → Reply → List (RequestRow Command Reply) → List (RequestRow Command Reply)
first_ended test r [] = []
first_ended test r (Waiting a ∷ rows) = if test a then Gone a.id a.session r ∷ rows else Waiting a ∷ first_ended test r rows
first_ended test r (InWork a ∷ rows) = if test a then Gone a.id a.session r ∷ rows else InWork a ∷ first_ended test r rows
first_ended test r (Gone id s q ∷ rows) = Gone id s q ∷ first_ended test r rows

-- where there is none, nothing ends
pub ended_where-none : (test : Request Command → Bool) (r : Reply) (rows : List (RequestRow Command Reply)) → first_where test rows ≡ None → ended_where test r rows ≡ rows
ended_where-none test r [] e = refl
ended_where-none test r (Waiting a ∷ rows) e = none_waiting (test a) a r rows (ended_where test r rows) (first_where test rows) e (ended_where-none test r rows)
  where
    none_waiting : (b : Bool) (a : Request Command) (r : Reply) (rows ended : List (RequestRow Command Reply)) (o : Option (Request Command)) → (if b then Some a else o) ≡ None → (o ≡ None → ended ≡ rows) → (if b then Gone a.id a.session r else Waiting a) ∷ ended ≡ Waiting a ∷ rows
    none_waiting true a r rows ended o e ih = cc
    none_waiting false a r rows ended o e ih = ap (λ (xs : List (RequestRow Command Reply)). Waiting a ∷ xs) (ih e)
ended_where-none test r (InWork a ∷ rows) e = none_work (test a) a r rows (ended_where test r rows) (first_where test rows) e (ended_where-none test r rows)
  where
    none_work : (b : Bool) (a : Request Command) (r : Reply) (rows ended : List (RequestRow Command Reply)) (o : Option (Request Command)) → (if b then Some a else o) ≡ None → (o ≡ None → ended ≡ rows) → (if b then Gone a.id a.session r else InWork a) ∷ ended ≡ InWork a ∷ rows
    none_work true a r rows ended o e ih = cc
    none_work false a r rows ended o e ih = ap (λ (xs : List (RequestRow Command Reply)). InWork a ∷ xs) (ih e)
ended_where-none test r (Gone id s q ∷ rows) e = ap (λ (xs : List (RequestRow Command Reply)). Gone id s q ∷ xs) (ended_where-none test r rows e)

-- all that end, end also after the first of them
step_waiting : (test : Request Command → Bool) (b : Bool) (a : Request Command) (r : Reply) (rows : List (RequestRow Command Reply)) → test a ≡ b → ended_where test r (first_ended test r rows) ≡ ended_where test r rows
    → ended_where test r (if b then Gone a.id a.session r ∷ rows else Waiting a ∷ first_ended test r rows) ≡ (if b then Gone a.id a.session r else Waiting a) ∷ ended_where test r rows
step_waiting test true a r rows e ih = refl
step_waiting test false a r rows e ih = rw (e, ih) refl

step_work : (test : Request Command → Bool) (b : Bool) (a : Request Command) (r : Reply) (rows : List (RequestRow Command Reply)) → test a ≡ b → ended_where test r (first_ended test r rows) ≡ ended_where test r rows
    → ended_where test r (if b then Gone a.id a.session r ∷ rows else InWork a ∷ first_ended test r rows) ≡ (if b then Gone a.id a.session r else InWork a) ∷ ended_where test r rows
step_work test true a r rows e ih = refl
step_work test false a r rows e ih = rw (e, ih) refl

pub ended_where-first_ended : (test : Request Command → Bool) (r : Reply) (rows : List (RequestRow Command Reply)) → ended_where test r (first_ended test r rows) ≡ ended_where test r rows
ended_where-first_ended test r [] = refl
ended_where-first_ended test r (Waiting a ∷ rows) = step_waiting test (test a) a r rows refl (ended_where-first_ended test r rows)
ended_where-first_ended test r (InWork a ∷ rows) = step_work test (test a) a r rows refl (ended_where-first_ended test r rows)
ended_where-first_ended test r (Gone id s q ∷ rows) = ap (λ (xs : List (RequestRow Command Reply)). Gone id s q ∷ xs) (ended_where-first_ended test r rows)
