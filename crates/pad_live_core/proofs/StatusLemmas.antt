-- The number of ended requests never falls.
use Rattle.std.proofs.Common.{ap, arith, length, refl, suc, sym, ◌∙◌}
use Rattle.std.proofs.lemmas.List.{map-append}
use Rattle.std.specs.Prelude.{List, None, Some, [], slice_get, ℕ, ◌++◌, ◌∷◌, ◌≡◌, ◌≤◌}
use Rattle.flat_machine.specs.Machine.{Act, next, run_from, status}
use Rattle.flat_machine.specs.RequestFacts.{KeepsEnded}
use Rattle.flat_machine.specs.Settings.{Setting}
use Rattle.flat_machine.specs.State.{Flat, opening}
use Rattle.pad_desk.specs.Histories.{DeskEntry, acts_of, act_of, setting_of, state_after}
use Rattle.pad_live_core.specs.LaneEvents.{DeskLog, ended_in}
use Rattle.pad_desk.specs.Statuses.{ended_at}
use Rattle.pad_steps.specs.declared.answers.Reply.{Reply}
use Rattle.pad_steps.specs.declared.commands.Command.{Command}
use Rattle.pad_words.specs.declared.numbers.Session.{Session}
use Rattle.pin_blocks.specs.PinRules.{PinRules}
use Rattle.request_queue.specs.Requests.{gone_count}
use Rattle.request_queue.specs.declared.requests.RequestRow.TheVariants.{Gone, InWork, Waiting}
use Rattle.request_queue.specs.declared.requests.RequestRow.{RequestRow}
use Rattle.turnstile.specs.Rules.{entries_of, entry_in}

-- of a longer history at least as many requests ended
abbrev pub EndedStays : PinRules → Type 0
EndedStays pin_rules = (front rest : DeskLog) → ended_in pin_rules front ≤ ended_in pin_rules (front ++ rest)

-- a run keeps what ended
abbrev pub RunsKeep : Type 0
RunsKeep = (set : Setting) (state : Flat) (acts : List Act) → KeepsEnded state (run_from set state acts)

-- the status of a state tells how many requests ended in it
abbrev pub TellsEnded : Type 0
TellsEnded = (state : Flat) → ended_at (status state) ≡ gone_count state.shared.requests

-- rows that end

abbrev Rows : Type 0
Rows = List (RequestRow Command Reply)

-- each row of the first that ended stands in the second at its place
abbrev Keeps : Rows → Rows → Type 0
Keeps xs ys = (place id : ℕ) (session : Session) (reply : Reply) → slice_get xs place ≡ Some (Gone id session reply) → slice_get ys place ≡ Some (Gone id session reply)

none-is : {A : Type 0} {x : A} → None ≡ Some x → ⊥
none-is e = cc

none-kept : (xs : Rows) → Keeps xs [] → gone_count xs ≤ 0
none-kept [] keeps = omega arith
none-kept (Waiting request ∷ xs) keeps = none-kept xs (λ place id session reply at. keeps (suc place) id session reply at)
none-kept (InWork request ∷ xs) keeps = none-kept xs (λ place id session reply at. keeps (suc place) id session reply at)
none-kept (Gone id session reply ∷ xs) keeps = absurd (none-is (keeps 0 id session reply refl))

more-rows : (row : RequestRow Command Reply) (rows : Rows) → gone_count rows ≤ gone_count (row ∷ rows)
more-rows (Waiting request) rows = omega arith
more-rows (InWork request) rows = omega arith
more-rows (Gone id session reply) rows = omega arith

rows-kept : (xs ys : Rows) → Keeps xs ys → gone_count xs ≤ gone_count ys
rows-kept [] ys keeps = omega arith
rows-kept (x ∷ xs) [] keeps = let none : gone_count (x ∷ xs) ≤ 0 = none-kept (x ∷ xs) keeps in omega (arith, none)
rows-kept (Waiting request ∷ xs) (y ∷ ys) keeps =
    let rest : gone_count xs ≤ gone_count ys = rows-kept xs ys (λ place id session reply at. keeps (suc place) id session reply at) in
    let more : gone_count ys ≤ gone_count (y ∷ ys) = more-rows y ys in omega (arith, rest, more)
rows-kept (InWork request ∷ xs) (y ∷ ys) keeps =
    let rest : gone_count xs ≤ gone_count ys = rows-kept xs ys (λ place id session reply at. keeps (suc place) id session reply at) in
    let more : gone_count ys ≤ gone_count (y ∷ ys) = more-rows y ys in omega (arith, rest, more)
rows-kept (Gone id session reply ∷ xs) (y ∷ ys) keeps =
    let rest : gone_count xs ≤ gone_count ys = rows-kept xs ys (λ place id session reply at. keeps (suc place) id session reply at) in
    let front : Some y ≡ Some (Gone id session reply) = keeps 0 id session reply refl in
    let same : y ≡ Gone id session reply = cc in
    let count : gone_count (y ∷ ys) ≡ suc (gone_count ys) = ap (λ (row : RequestRow Command Reply). gone_count (row ∷ ys)) same in
    omega (arith, rest, count)

-- longer histories

run_from-append : (set : Setting) (state : Flat) (xs ys : List Act) → run_from set state (xs ++ ys) ≡ run_from set (run_from set state xs) ys
run_from-append set state [] ys = refl
run_from-append set state (act ∷ acts) ys = run_from-append set (next set state act.step act.word).state acts ys

pub ended-stays : RunsKeep → TellsEnded → (pin_rules : PinRules) → EndedStays pin_rules
ended-stays keep told pin_rules [] rest = let none : ended_in pin_rules [] ≡ 0 = refl in omega (arith, none)
ended-stays keep told pin_rules (first ∷ front) rest =
    let set : Setting = setting_of pin_rules (entries_of (first ∷ front)) in
    let early : Flat = state_after pin_rules (entries_of (first ∷ front)) in
    let late : Flat = state_after pin_rules (entries_of (first ∷ front ++ rest)) in
    let more : List Act = acts_of (entries_of rest) in
    let acts : acts_of (entries_of (first ∷ front ++ rest)) ≡ acts_of (entries_of (first ∷ front)) ++ more = ap acts_of (map-append entry_in (first ∷ front) rest) ∙ map-append act_of (entries_of (first ∷ front)) (entries_of rest) in
    let on : late ≡ run_from set early more = ap (run_from set opening) acts ∙ run_from-append set opening (acts_of (entries_of (first ∷ front))) more in
    let few : gone_count early.shared.requests ≤ gone_count (run_from set early more).shared.requests = rows-kept early.shared.requests (run_from set early more).shared.requests (keep set early more) in
    let a : ended_in pin_rules (first ∷ front) ≡ gone_count early.shared.requests = told early in
    let b : ended_in pin_rules (first ∷ front ++ rest) ≡ gone_count late.shared.requests = told late in
    let c : gone_count late.shared.requests ≡ gone_count (run_from set early more).shared.requests = ap (λ (state : Flat). gone_count state.shared.requests) on in
    omega (arith, few, a, b, c)
