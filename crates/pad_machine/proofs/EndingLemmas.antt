-- Requests that end one after another, what is told of each, and the one in work among them.
use Rattle.flat_machine.specs.State.{work_ends}
use Rattle.pad_machine.specs.Endings.{endings_told, is_meant, meant_in}
use Rattle.pad_machine.specs.declared.endings.Ending.{Ending}
use Rattle.pad_steps.specs.declared.answers.Out.TheVariants as out
use Rattle.pad_steps.specs.declared.answers.Out.{Out}
use Rattle.pad_steps.specs.declared.answers.Refusal.{Refusal}
use Rattle.pad_steps.specs.declared.answers.Reply.TheVariants as replied
use Rattle.pad_steps.specs.declared.answers.Reply.{Reply}
use Rattle.pad_steps.specs.declared.commands.Command.{Command}
use Rattle.pad_words.specs.declared.numbers.Session.{Session}
use Rattle.request_queue.specs.Requests.{HasAtMostOneInWork, ended_where, first_of, first_where, pending_where, request_id, request_in_work, request_session}
use Rattle.request_queue.specs.declared.requests.Request.{Request}
use Rattle.request_queue.specs.declared.requests.RequestRow.TheVariants.{Gone, InWork, Waiting}
use Rattle.request_queue.specs.declared.requests.RequestRow.{RequestRow}
use Rattle.std.proofs.Common.{ap, arith, refl, suc, sym, zero, ◌∙◌}
use Rattle.std.proofs.lemmas.Option.{same_Some}
use Rattle.std.specs.List.{slice_get}
use Rattle.std.specs.Option.{option_map}
use Rattle.std.specs.Prelude.{Bool, List, None, Option, Some, [], drop, false, if◌then◌else◌, is_none, is_some, length, map, not, true, ℕ, ◌&&◌, ◌+◌, ◌∷◌, ◌≡◌, ◌≤◌}

abbrev pub ended : Refusal → Session → ℕ → Out
ended refusal session id = out.Ended session id (replied.No refusal)

first_told : (refusal : Refusal) (requests : List (Request Command)) (id : ℕ) (session : Session) → option_map request_id (first_of requests) ≡ Some id → option_map request_session (first_of requests) ≡ Some session
    → map (λ (request : Request Command). ended refusal request.session request.id) requests ≡ ended refusal session id ∷ map (λ (request : Request Command). ended refusal request.session request.id) (drop 1 requests)
first_told refusal [] id session is of = cc
first_told refusal (request ∷ requests) id session is of =
    let same_id : request.id ≡ id = cc in
    let same_session : request.session ≡ session = cc in
    ap (λ (i : ℕ). ended refusal request.session i ∷ map (λ (other : Request Command). ended refusal other.session other.id) requests) same_id
    ∙ ap (λ (s : Session). ended refusal s id ∷ map (λ (other : Request Command). ended refusal other.session other.id) requests) same_session

first_fewer : (requests : List (Request Command)) (id : ℕ) → option_map request_id (first_of requests) ≡ Some id → length (drop 1 requests) + 1 ≡ length requests
first_fewer [] id is = cc
first_fewer (request ∷ requests) id is = omega arith

module _ (which : Ending) (rows after : List (RequestRow Command Reply)) (id : ℕ) (session : Session) (first : option_map request_id (first_where (is_meant which) rows) ≡ Some id)
    (left : meant_in which after ≡ drop 1 (meant_in which rows)) where
  -- one less is left to end
  pub one_ended : length (meant_in which after) + 1 ≡ length (meant_in which rows)
  one_ended = ap (λ (requests : List (Request Command)). length requests + 1) left ∙ first_fewer (meant_in which rows) id first

  -- and it is told first
  pub ending_told : (refusal : Refusal) → option_map request_session (first_where (is_meant which) rows) ≡ Some session → endings_told which refusal rows ≡ ended refusal session id ∷ endings_told which refusal after
  ending_told refusal of = first_told refusal (meant_in which rows) id session first of ∙ ap (λ (requests : List (Request Command)). ended refusal session id ∷ map (λ (request : Request Command). ended refusal request.session request.id) requests) (sym left)

-- no more pass a test than are pending
module _ (test : Request Command → Bool) where
  one_more : (b : Bool) (request : Request Command) (some all : List (Request Command)) → length some ≤ length all → length (if b then request ∷ some else some) ≤ length (request ∷ all)
  one_more true request some all few = omega (arith, few)
  one_more false request some all few = omega (arith, few)

  pub fewer_pass : (rows : List (RequestRow Command Reply)) → length (pending_where test rows) ≤ length (pending_where (λ request. true) rows)
  fewer_pass [] = omega arith
  fewer_pass (Waiting request ∷ rows) = one_more (test request) request (pending_where test rows) (pending_where (λ other. true) rows) (fewer_pass rows)
  fewer_pass (InWork request ∷ rows) = one_more (test request) request (pending_where test rows) (pending_where (λ other. true) rows) (fewer_pass rows)
  fewer_pass (Gone id session reply ∷ rows) = fewer_pass rows

-- the request in work ended where there was one and is none
in_work_at : (rows : List (RequestRow Command Reply)) (a : Request Command) → request_in_work rows ≡ Some a → (j : ℕ) × (slice_get rows j ≡ Some (InWork a))
in_work_at [] a e = cc
in_work_at (Waiting q ∷ rows) a e = let later = in_work_at rows a e in (suc later.0, later.1)
in_work_at (InWork q ∷ rows) a e = let is : q ≡ a = same_Some q a e in (zero, cc)
in_work_at (Gone id session reply ∷ rows) a e = let later = in_work_at rows a e in (suc later.0, later.1)

one_tail : (row : RequestRow Command Reply) (rows : List (RequestRow Command Reply)) → HasAtMostOneInWork (row ∷ rows) → HasAtMostOneInWork rows
one_tail row rows one = record { at = λ i j a b at_i at_j. omega (arith, one.at (suc i) (suc j) a b at_i at_j) }

none_after : (q : Request Command) (rows : List (RequestRow Command Reply)) (found : Option (Request Command)) → HasAtMostOneInWork (InWork q ∷ rows) → request_in_work rows ≡ found → request_in_work rows ≡ None
none_after q rows None one is = is
none_after q rows (Some a) one is =
    let there = in_work_at rows a is in
    absurd (apart there.0 (one.at zero (suc there.0) q a refl there.1))
  where
    apart : (j : ℕ) → zero ≡ suc j → ⊥
    apart j e = omega (arith, e)

module _ (test : Request Command → Bool) (reply : Reply) where
  waits_or_ended : (b : Bool) (q : Request Command) (rows : List (RequestRow Command Reply)) → request_in_work ((if b then Gone q.id q.session reply else Waiting q) ∷ rows) ≡ request_in_work rows
  waits_or_ended true q rows = refl
  waits_or_ended false q rows = refl

  none_stays : (rows : List (RequestRow Command Reply)) → request_in_work rows ≡ None → request_in_work (ended_where test reply rows) ≡ None
  none_stays [] none = refl
  none_stays (Waiting q ∷ rows) none = waits_or_ended (test q) q (ended_where test reply rows) ∙ none_stays rows none
  none_stays (InWork q ∷ rows) none = cc
  none_stays (Gone id session was ∷ rows) none = none_stays rows none

  works_or_ended : (b : Bool) (q : Request Command) (rows : List (RequestRow Command Reply)) → request_in_work rows ≡ None → is_none (request_in_work ((if b then Gone q.id q.session reply else InWork q) ∷ rows)) ≡ b
  works_or_ended true q rows none = ap (λ (found : Option (Request Command)). is_none found) none
  works_or_ended false q rows none = refl

  work_ended : (rows : List (RequestRow Command Reply)) → HasAtMostOneInWork rows → (is_some (request_in_work rows) && is_none (request_in_work (ended_where test reply rows))) ≡ work_ends test (request_in_work rows)
  work_ended [] one = refl
  work_ended (Waiting q ∷ rows) one =
      ap (λ (found : Option (Request Command)). is_some (request_in_work rows) && is_none found) (waits_or_ended (test q) q (ended_where test reply rows)) ∙ work_ended rows (one_tail (Waiting q) rows one)
  work_ended (InWork q ∷ rows) one = works_or_ended (test q) q (ended_where test reply rows) (none_stays rows (none_after q rows (request_in_work rows) one refl))
  work_ended (Gone id session was ∷ rows) one = work_ended rows (one_tail (Gone id session was) rows one)

id_or_none : (found : Option (Request Command)) → is_some (option_map request_id found) ≡ is_some found
id_or_none None = refl
id_or_none (Some request) = refl

none_by : (none : Bool) (found : Option (Request Command)) → is_some found ≡ not none → none ≡ is_none found
none_by true None is = refl
none_by true (Some request) is = cc
none_by false None is = cc
none_by false (Some request) is = refl

-- what the calls tell before and after
module _ (test : Request Command → Bool) (reply : Reply) (rows : List (RequestRow Command Reply)) (before : Option ℕ) (in_work : before ≡ option_map request_id (request_in_work rows)) where
  pub no_work : is_some before ≡ false → false ≡ work_ends test (request_in_work rows)
  no_work none = by (request_in_work rows) (sym (ap (λ (o : Option ℕ). is_some o) in_work) ∙ none)
    where
      by : (found : Option (Request Command)) → is_some (option_map request_id found) ≡ false → false ≡ work_ends test found
      by None none = refl
      by (Some request) none = cc

  pub work_over : (after : Option ℕ) (none : Bool) → HasAtMostOneInWork rows → is_some before ≡ true → after ≡ option_map request_id (request_in_work (ended_where test reply rows)) → is_some after ≡ not none → none ≡ work_ends test (request_in_work rows)
  work_over after none one had out_of_work is =
      let had_one : is_some (request_in_work rows) ≡ true = sym (ap (λ (o : Option ℕ). is_some o) in_work ∙ id_or_none (request_in_work rows)) ∙ had in
      let is_over : is_some (request_in_work (ended_where test reply rows)) ≡ not none = sym (ap (λ (o : Option ℕ). is_some o) out_of_work ∙ id_or_none (request_in_work (ended_where test reply rows))) ∙ is in
      none_by none (request_in_work (ended_where test reply rows)) is_over
      ∙ sym (ap (λ (b : Bool). b && is_none (request_in_work (ended_where test reply rows))) had_one)
      ∙ work_ended test reply rows one
