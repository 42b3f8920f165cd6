-- One step of the pad with its disk, entered at the end of the history.
use Rattle.std.proofs.Common.{ap, arith, length-append, subst, sym, ◌∙◌}
use Rattle.std.proofs.lemmas.List.{map-append}
use Rattle.std.specs.Prelude.{IsTrue, List, [], ℕ, ◌++◌, ◌∷◌, ◌≡◌, ◌≤◌}
use Rattle.disk_core.specs.DiskStates.{DiskState}
use Rattle.flat_machine.specs.Deeds.{Deed, Takes, after_deeds}
use Rattle.flat_machine.specs.DiskRuns.{RunOnDisk}
use Rattle.flat_machine.specs.DiskSteps.{StepOnDisk}
use Rattle.flat_machine.specs.KeyLayout.{key_layout}
use Rattle.flat_machine.specs.Kept.{Kept, kept_of}
use Rattle.flat_machine.specs.Machine.{Act, is_masked, next, run}
use Rattle.flat_machine.specs.Power.{word_fate}
use Rattle.flat_machine.specs.RequestFacts.{draws}
use Rattle.flat_machine.specs.Settings.{Setting}
use Rattle.flat_machine.specs.State.{Flat, opening}
use Rattle.pad_desk.proofs.GoodWords.{StoreFacts, good-more}
use Rattle.pad_desk.proofs.HistoryLemmas.{acts_in-deeds_of, legal-more, run-more, seed-more}
use Rattle.pad_desk.specs.Histories.{DeskEntry, act_of, acts_of}
use Rattle.pad_desk.specs.Machines.{Stands, StandsIn, deeds_of}
use Rattle.pad_desk.specs.declared.outcome.StepOut.{StepOut}
use Rattle.pad_machine.specs.Runs.{IsPadStep, PadStepOnDisk}
use Rattle.pad_machine.specs.Stands.{PadState, StandsFor, set_by}
use Rattle.pad_machine.specs.Twice.{SayAlike}
use Rattle.pad_machine.specs.declared.pad.Stepped.{Stepped}
use Rattle.pad_steps.specs.Formed.{is_well_formed}
use Rattle.pad_steps.specs.declared.answers.Out.{Out}
use Rattle.pad_steps.specs.declared.steps.DiskWord.{DiskWord}
use Rattle.pad_steps.specs.declared.steps.Step.{Step}
use Rattle.pad_steps.specs.declared.steps.Step.TheVariants as steps
use Rattle.pin_blocks.specs.PinRules.{PinRules}
use Rattle.turnstile.specs.Entries.{entry}

-- a step draws one id at most
draws-few : (step : Step) → draws step ≤ 1
draws-few (steps.Open session) = omega arith
draws-few (steps.Close session) = omega arith
draws-few (steps.Listen session classes) = omega arith
draws-few (steps.Lock session) = omega arith
draws-few (steps.Unlock session) = omega arith
draws-few (steps.Submit session limit command) = omega arith
draws-few (steps.Cancel session id) = omega arith
draws-few steps.Begin = omega arith
draws-few steps.Finish = omega arith
draws-few (steps.Press key) = omega arith
draws-few (steps.Tick ticks) = omega arith
draws-few (steps.Ask session question) = omega arith
draws-few steps.Off = omega arith
draws-few steps.Boot = omega arith

-- the step of the pad on the disk is that of the state that it stands for
stood-step : (rules : PinRules) (seed : List ℕ) (state after : Flat) (old new : PadState) (step : Step) (word : DiskWord) (s t : DiskState) → StandsFor old seed state → StandsFor new seed after
    → PadStepOnDisk rules old new step word s t → StepOnDisk key_layout (set_by rules seed) state.shared after.shared step word s t
stood-step rules seed state after old new step word s t stands stood on =
    subst (λ (kept : Kept). StepOnDisk key_layout (set_by rules seed) state.shared kept.shared step word s t) stood
    (subst (λ (kept : Kept). StepOnDisk key_layout (set_by rules kept.seed) kept.shared new.kept.shared step word s t) stands on)

-- an outcome that tells this step of the pad
pub record TellsStep (pin_rules : PinRules) (pad : PadState) (step : Step) (stepped : Stepped) (said : List Out) (outcome : StepOut) : Type 0 where
  pub formed : IsTrue (is_well_formed step)
  pub word : outcome.word ≡ stepped.word
  pub outs : outcome.outs.items ≡ said
  pub masked : (seed : List ℕ) (state : Flat) → StandsFor pad seed state → outcome.masked ≡ is_masked state.shared step
  pub fate : outcome.fate ≡ stepped.fate
  pub seed : outcome.outs.seed ≡ pad.kept.seed

module _ {D : Type 0} (disk_state : D → DiskState) (pin_rules : PinRules) where
  -- runs on the disk join
  abbrev pub RunsJoin : Type 0
  RunsJoin = (set : Setting) (state : Flat) (first second : List Deed) (s t u : D) → RunOnDisk key_layout set state first (disk_state s) (disk_state t)
      → RunOnDisk key_layout set (after_deeds set state first) second (disk_state t) (disk_state u) → RunOnDisk key_layout set state (first ++ second) (disk_state s) (disk_state u)

  -- a step on the disk is a run
  abbrev pub StepRuns : Type 0
  StepRuns = (set : Setting) (state : Flat) (act : Act) (s t : D) → StepOnDisk key_layout set state.shared (next set state act.step act.word).state.shared act.step act.word (disk_state s) (disk_state t)
      → RunOnDisk key_layout set state (Takes act ∷ []) (disk_state s) (disk_state t)

  module _ (joins : RunsJoin) (runs : StepRuns) (facts : StoreFacts disk_state pin_rules) (pad new : PadState) (disk after : D) (step : Step) (stepped : Stepped) (outs : List Out)
      (done : IsPadStep pin_rules pad new [] outs step stepped (disk_state disk) (disk_state after)) (outcome : StepOut) (tells : TellsStep pin_rules pad step stepped outs outcome) where
    stands-in : (history : List DeskEntry) → StandsIn disk_state pin_rules pad.kept.seed pad disk history → StandsIn disk_state pin_rules pad.kept.seed new after (history ++ entry step outcome ∷ [])
    stands-in history old =
        let seed : List ℕ = pad.kept.seed in
        let set : Setting = set_by pin_rules seed in
        let state : Flat = run set (acts_of history) in
        let e : DeskEntry = entry step outcome in
        let machine = done.machine seed state old.state in
        let on : StepOnDisk key_layout set state.shared (next set state step outcome.word).state.shared step outcome.word (disk_state disk) (disk_state after) =
        subst (λ (word : DiskWord). StepOnDisk key_layout set state.shared (next set state step word).state.shared step word (disk_state disk) (disk_state after)) (sym tells.word)
        (stood-step pin_rules seed state (next set state step stepped.word).state pad new step stepped.word (disk_state disk) (disk_state after) old.state machine.stands done.on_disk) in
        let few = draws-few step in
        let ids = done.ids in
        let were = old.requests in record {
          seeds = seed-more seed history e old.seeds tells.seed;
          legal = legal-more set opening history e old.legal (record {
            formed = tells.formed;
            fits = on.fits;
            outs = tells.outs ∙ machine.outs ∙ ap (λ (word : DiskWord). (next set state step word).outs) (sym tells.word);
            masked = tells.masked seed state old.state;
            fate = tells.fate ∙ machine.fate ∙ ap (λ (word : DiskWord). word_fate state.shared word) (sym tells.word);
          });
          state = machine.stands ∙ ap (kept_of seed) (ap (λ (word : DiskWord). (next set state step word).state) (sym tells.word) ∙ sym (run-more set history e));
          requests = omega (arith, length-append history (e ∷ []), few, ids, were);
          tied = done.tied;
          first = old.first;
          fresh = old.fresh;
          on_disk = subst (λ (deeds : List Deed). RunOnDisk key_layout set opening deeds (disk_state old.first) (disk_state after)) (sym (map-append (λ (entry : DeskEntry). Takes (act_of entry)) history (e ∷ [])))
              (joins set opening (deeds_of history) (Takes (act_of e) ∷ []) old.first disk after old.on_disk
              (subst (λ (before : Flat). RunOnDisk key_layout set before (Takes (act_of e) ∷ []) (disk_state disk) (disk_state after)) (sym (ap (run set) (acts_in-deeds_of history)))
              (runs set state (act_of e) disk after on)));
          good = good-more disk_state pin_rules facts seed pad disk after history old (next set state step outcome.word).state.shared step e on;
        }

    pub stands-more : (history : List DeskEntry) → Stands disk_state pin_rules pad disk history → Stands disk_state pin_rules new after (history ++ entry step outcome ∷ [])
    stands-more history old = subst (λ (seed : List ℕ). StandsIn disk_state pin_rules seed new after (history ++ entry step outcome ∷ []))
        (sym (ap (λ (kept : Kept). kept.seed) (done.machine pad.kept.seed (run (set_by pin_rules pad.kept.seed) (acts_of history)) old.state).stands)) (stands-in history old)

-- outcomes with equal parts are equal
pub outcome-eq : (a b : StepOut) → a.word ≡ b.word → a.outs.items ≡ b.outs.items → a.masked ≡ b.masked → a.fate ≡ b.fate → a.outs.seed ≡ b.outs.seed → a ≡ b
outcome-eq a b word outs masked fate seed = λ i. record { word = word i; outs = record { items = outs i; seed = seed i }; masked = masked i; fate = fate i }

-- two lists that were empty and were told alike are equal
pub alike-none : (before after second_before second_after : List Out) → SayAlike before after second_before second_after → before ≡ [] → second_before ≡ [] → after ≡ second_after
alike-none before after second_before second_after alike none second_none = alike.1 ∙ ap (λ (l : List Out). l ++ alike.0) (none ∙ sym second_none) ∙ sym alike.2
