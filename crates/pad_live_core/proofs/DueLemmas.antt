-- What is due comes to an end: the work that is left after a history.
use Rattle.std.proofs.Common.{ap, append-nil, append_assoc, arith, inl, length, refl, sym, ◌∙◌}
use Rattle.std.proofs.lemmas.List.{map-append}
use Rattle.std.specs.Prelude.{List, Some, [], ℕ, ◌*◌, ◌+◌, ◌++◌, ◌<◌, ◌∷◌, ◌≡◌, ◌≤◌}
use Rattle.flat_machine.specs.EveryRun.{AtEveryStep, InEveryRun, after_step}
use Rattle.flat_machine.specs.Machine.{Act, next, next_work, run_from, status}
use Rattle.flat_machine.specs.RequestFacts.{draws, work_left}
use Rattle.flat_machine.specs.Settings.{Setting}
use Rattle.flat_machine.specs.State.{Flat, opening}
use Rattle.pad_desk.specs.Answers.{due_at}
use Rattle.pad_desk.specs.Histories.{act_of, acts_of, setting_of, status_after}
use Rattle.pad_desk.specs.declared.outcome.StepOut.{StepOut}
use Rattle.pad_live_core.proofs.StatusLemmas.{TellsEnded}
use Rattle.pad_live_core.specs.Bounds.{is_submit}
use Rattle.pad_live_core.specs.LaneEvents.{DeskLog, ended_in}
use Rattle.pad_steps.specs.declared.answers.Reply.{Reply}
use Rattle.pad_steps.specs.declared.commands.Command.{Command}
use Rattle.pad_steps.specs.declared.steps.DiskWord.{DiskWord}
use Rattle.pad_steps.specs.declared.steps.Step.TheVariants as steps
use Rattle.pad_steps.specs.declared.steps.Step.{Step}
use Rattle.pin_blocks.specs.PinRules.{PinRules}
use Rattle.request_queue.specs.Requests.{gone_count}
use Rattle.request_queue.specs.declared.requests.RequestRow.TheVariants.{Gone, InWork, Waiting}
use Rattle.request_queue.specs.declared.requests.RequestRow.{RequestRow}
use Rattle.turnstile.specs.Rules.{entries_of, entry_in}
use Rattle.turnstile.specs.declared.view.MadeEntry.{MadeEntry}

-- the laws of the machine on which the bound stands: a step that is due leaves less to do; no step leaves more than two steps of work for each id
-- that it may draw; no other ids are drawn; and the status tells the step that is due, and how many requests ended
pub record WorkLaws : Type 0 where
  pub less : InEveryRun (λ set state. (step : Step) (word : DiskWord) → next_work state.shared ≡ Some step → work_left (after_step set state step word).shared.requests < work_left state.shared.requests)
  pub more : AtEveryStep (λ set state step word. work_left (after_step set state step word).shared.requests ≤ work_left state.shared.requests + 2 * draws step)
  pub ids : AtEveryStep (λ set state step word. length (after_step set state step word).shared.requests ≤ length state.shared.requests + draws step)
  pub told : (state : Flat) → due_at (status state) ≡ next_work state.shared
  pub ended : TellsEnded

-- the Submits among the entries
abbrev pub drawn_in : DeskLog → ℕ
drawn_in [] = 0
drawn_in (made ∷ log) = is_submit made.op + drawn_in log

draws_is : (step : Step) → draws step ≡ is_submit step
draws_is (steps.Open session) = refl
draws_is (steps.Close session) = refl
draws_is (steps.Listen session classes) = refl
draws_is (steps.Lock session) = refl
draws_is (steps.Unlock session) = refl
draws_is (steps.Submit session limit command) = refl
draws_is (steps.Cancel session id) = refl
draws_is steps.Begin = refl
draws_is steps.Finish = refl
draws_is (steps.Press key) = refl
draws_is (steps.Tick ticks) = refl
draws_is (steps.Ask session question) = refl
draws_is steps.Off = refl
draws_is steps.Boot = refl

run_append : (set : Setting) (state : Flat) (xs ys : List Act) → run_from set state (xs ++ ys) ≡ run_from set (run_from set state xs) ys
run_append set state [] ys = refl
run_append set state (act ∷ acts) ys = run_append set (next set state act.step act.word).state acts ys

-- at most all requests ended
gone_few : (rows : List (RequestRow Command Reply)) → gone_count rows ≤ length rows
gone_few [] = omega arith
gone_few (Waiting request ∷ rows) = let h = gone_few rows in omega (arith, h)
gone_few (InWork request ∷ rows) = let h = gone_few rows in omega (arith, h)
gone_few (Gone id session reply ∷ rows) = let h = gone_few rows in omega (arith, h)

module _ (set : Setting) where
  -- the state after the entries
  abbrev pub flat_after : DeskLog → Flat
  flat_after log = run_from set opening (acts_of (entries_of log))

  -- the work that is left after them
  abbrev pub left_after : DeskLog → ℕ
  left_after log = work_left (flat_after log).shared.requests

  abbrev pub rows_after : DeskLog → ℕ
  rows_after log = length (flat_after log).shared.requests

  flat_one : (front : DeskLog) (m : MadeEntry Step StepOut) → flat_after (front ++ m ∷ []) ≡ after_step set (flat_after front) m.op m.outcome.word
  flat_one front m =
      let acts : acts_of (entries_of (front ++ m ∷ [])) ≡ acts_of (entries_of front) ++ act_of (entry_in m) ∷ [] = ap acts_of (map-append entry_in front (m ∷ [])) ∙ map-append act_of (entries_of front) (entry_in m ∷ []) in
      ap (run_from set opening) acts ∙ run_append set opening (acts_of (entries_of front)) (act_of (entry_in m) ∷ [])

  -- one entry more
  pub left_more : WorkLaws → (front : DeskLog) (m : MadeEntry Step StepOut) → left_after (front ++ m ∷ []) ≤ left_after front + 2 * is_submit m.op
  left_more laws front m =
      let same : left_after (front ++ m ∷ []) ≡ work_left (after_step set (flat_after front) m.op m.outcome.word).shared.requests = ap (λ (state : Flat). work_left state.shared.requests) (flat_one front m) in
      let more : work_left (after_step set (flat_after front) m.op m.outcome.word).shared.requests ≤ left_after front + 2 * draws m.op = laws.more set (flat_after front) m.op m.outcome.word in
      let is : draws m.op ≡ is_submit m.op = draws_is m.op in omega (arith, same, more, is)

  pub rows_more : WorkLaws → (front : DeskLog) (m : MadeEntry Step StepOut) → rows_after (front ++ m ∷ []) ≤ rows_after front + is_submit m.op
  rows_more laws front m =
      let same : rows_after (front ++ m ∷ []) ≡ length (after_step set (flat_after front) m.op m.outcome.word).shared.requests = ap (λ (state : Flat). length state.shared.requests) (flat_one front m) in
      let more : length (after_step set (flat_after front) m.op m.outcome.word).shared.requests ≤ rows_after front + draws m.op = laws.ids set (flat_after front) m.op m.outcome.word in
      let is : draws m.op ≡ is_submit m.op = draws_is m.op in omega (arith, same, more, is)

  -- one entry more that was due
  pub left_less : WorkLaws → (front : DeskLog) (m : MadeEntry Step StepOut) → due_at (status (flat_after front)) ≡ Some m.op → left_after (front ++ m ∷ []) < left_after front
  left_less laws front m due =
      let same : left_after (front ++ m ∷ []) ≡ work_left (after_step set (flat_after front) m.op m.outcome.word).shared.requests = ap (λ (state : Flat). work_left state.shared.requests) (flat_one front m) in
      let less : work_left (after_step set (flat_after front) m.op m.outcome.word).shared.requests < left_after front = laws.less set opening (acts_of (entries_of front)) (inl refl) m.op m.outcome.word (sym (laws.told (flat_after front)) ∙ due) in
      omega (arith, same, less)

  -- no more requests than Submits
  rows_bound : WorkLaws → (log front rest : DeskLog) → log ≡ front ++ rest → rows_after log ≤ rows_after front + drawn_in rest
  rows_bound laws log front [] cut = let same = ap rows_after (cut ∙ append-nil front) in omega (arith, same)
  rows_bound laws log front (m ∷ rest) cut =
      let one : rows_after (front ++ m ∷ []) ≤ rows_after front + is_submit m.op = rows_more laws front m in
      let more : rows_after log ≤ rows_after (front ++ m ∷ []) + drawn_in rest = rows_bound laws log (front ++ m ∷ []) rest (cut ∙ sym (append_assoc front (m ∷ []) rest)) in
      omega (arith, one, more)

module _ (pin_rules : PinRules) where
  -- what a run has from outside, of the whole history and of each beginning of it
  pub status_is : (log front rest : DeskLog) → log ≡ front ++ rest → status_after pin_rules (entries_of front) ≡ status (flat_after (setting_of pin_rules (entries_of log)) front)
  status_is log [] rest cut = refl
  status_is log (m ∷ front) rest cut = ap (λ (l : DeskLog). status (flat_after (setting_of pin_rules (entries_of l)) (m ∷ front))) (sym cut)

  -- no more requests ended than there were Submits
  pub ended_few : WorkLaws → (log : DeskLog) → ended_in pin_rules log ≤ drawn_in log
  ended_few laws log =
      let set : Setting = setting_of pin_rules (entries_of log) in
      let ended : ended_in pin_rules log ≡ gone_count (flat_after set log).shared.requests = laws.ended (flat_after set log) in
      let few : gone_count (flat_after set log).shared.requests ≤ rows_after set log = gone_few (flat_after set log).shared.requests in
      let rows : rows_after set log ≤ rows_after set [] + drawn_in log = rows_bound set laws log [] log refl in
      let none : rows_after set [] ≡ 0 = refl in omega (arith, ended, few, rows, none)
