-- A device that is stopped was stopped by a failed call, and nothing was loaded since; and no pending request is overdue.
use Rattle.flat_machine.proofs.BoolLemmas.{and_of}
use Rattle.flat_machine.proofs.HistoryLemmas.{run_from-append}
use Rattle.flat_machine.proofs.LoadingSteps.{loaded_step}
use Rattle.flat_machine.proofs.SteadyWalk.{steady}
use Rattle.flat_machine.specs.DiskSteps.{is_failed, is_loaded}
use Rattle.flat_machine.specs.EndingFacts.{IsStoppedSince}
use Rattle.flat_machine.specs.Facts.{IsStart}
use Rattle.flat_machine.specs.Histories.{FitsFrom}
use Rattle.flat_machine.specs.Machine.{Act, fits, next, run_from}
use Rattle.flat_machine.specs.Settings.{Setting}
use Rattle.flat_machine.specs.State.{Flat}
use Rattle.flat_machine.specs.declared.types.Device.TheVariants.{Off, Ready, Stopped}
use Rattle.key_table.specs.KeyRows.{KeyRows}
use Rattle.pad_steps.specs.declared.steps.DiskWord.{DiskWord}
use Rattle.pad_steps.specs.declared.steps.DiskWord.TheVariants as word
use Rattle.pad_steps.specs.declared.steps.Step.{Step}
use Rattle.std.proofs.Common.{ap, inl, inr, subst, sym, ◌∙◌}
use Rattle.std.specs.List.{list_all}
use Rattle.std.specs.Prelude.{IsTrue, List, [], not, refl, true, ◌++◌, ◌∷◌, ◌≡◌, ◌⊎◌}

-- at every moment of the run the device is stopped
abbrev StoppedAll : Setting → Flat → List Act → Type 0
StoppedAll set h acts = (since later : List Act) → since ++ later ≡ acts → (run_from set h since).shared.device ≡ Stopped

stopped_here : (set : Setting) (h : Flat) → h.shared.device ≡ Stopped → StoppedAll set h []
stopped_here set h is [] later e = is
stopped_here set h is (a ∷ since) later e = cc

stopped_on : (set : Setting) (h : Flat) (act : Act) (acts : List Act) → h.shared.device ≡ Stopped → StoppedAll set (next set h act.step act.word).state acts → StoppedAll set h (act ∷ acts)
stopped_on set h act acts is rest [] later e = is
stopped_on set h act acts is rest (a ∷ since) later e =
    subst (λ (x : Act). (run_from set (next set h x.step x.word).state since).shared.device ≡ Stopped) (sym (same_act a act (since ++ later) acts e)) (rest since later (same_rest a act (since ++ later) acts e))
  where
    same_act : (a b : Act) (xs ys : List Act) → a ∷ xs ≡ b ∷ ys → a ≡ b
    same_act a b xs ys e = cc

    same_rest : (a b : Act) (xs ys : List Act) → a ∷ xs ≡ b ∷ ys → xs ≡ ys
    same_rest a b xs ys e = cc

-- where a run ends stopped, it was so all along, or a call failed in it
stopped_run : (set : Setting) (h : Flat) (acts : List Act) → (run_from set h acts).shared.device ≡ Stopped → StoppedAll set h acts ⊎ IsStoppedSince set h acts
stopped_run set h [] is = inl (stopped_here set h is)
stopped_run set h (act ∷ acts) is = goes_back (stopped_run set (next set h act.step act.word).state acts is)
  where
    by_step : StoppedAll set (next set h act.step act.word).state acts → (h.shared.device ≡ Stopped) ⊎ (is_failed act.word ≡ true) → StoppedAll set h (act ∷ acts) ⊎ IsStoppedSince set h (act ∷ acts)
    by_step rest (inl before) = inl (stopped_on set h act acts before rest)
    by_step rest (inr failed) = inr (record { before = []; act = act; after = acts; parts = refl; failed = failed; stopped = rest })

    goes_back : StoppedAll set (next set h act.step act.word).state acts ⊎ IsStoppedSince set (next set h act.step act.word).state acts → StoppedAll set h (act ∷ acts) ⊎ IsStoppedSince set h (act ∷ acts)
    goes_back (inl rest) = by_step rest ((steady set h act.step act.word).stopped (rest [] acts refl))
    goes_back (inr since) = inr (record { before = act ∷ since.before; act = since.act; after = since.after; parts = ap (λ (xs : List Act). act ∷ xs) since.parts; failed = since.failed; stopped = since.stopped })

start_runs : (set : Setting) (h : Flat) (acts : List Act) → (h.shared.device ≡ Stopped → ⊥) → (run_from set h acts).shared.device ≡ Stopped → IsStoppedSince set h acts
start_runs set h acts not_stopped is = by_cases (stopped_run set h acts is)
  where
    by_cases : StoppedAll set h acts ⊎ IsStoppedSince set h acts → IsStoppedSince set h acts
    by_cases (inl all) = absurd (not_stopped (all [] acts refl))
    by_cases (inr since) = since

pub stopped_by_fault : (set : Setting) (start : Flat) (acts : List Act) → IsStart start → (run_from set start acts).shared.device ≡ Stopped → IsStoppedSince set start acts
stopped_by_fault set start acts (inl e) is = start_runs set start acts (λ s. off_not (sym (ap (λ (h : Flat). h.shared.device) e) ∙ s)) is
  where
    off_not : Off ≡ Stopped → ⊥
    off_not e = cc
stopped_by_fault set start acts (inr e) is = start_runs set start acts (λ s. ready_not (sym (ap (λ (h : Flat). h.shared.device) e) ∙ s)) is
  where
    ready_not : Ready ≡ Stopped → ⊥
    ready_not e = cc

-- a word that loaded rows, where it fits, makes the device ready
pub loaded_ready : (set : Setting) (h : Flat) (s : Step) (rows : KeyRows) → IsTrue (fits set h.shared s (word.Loaded rows)) → (next set h s (word.Loaded rows)).state.shared.device ≡ Ready
loaded_ready set h s rows f = (loaded_step set h s rows f).ready

-- so nothing was loaded since the call that failed, where every word fits

unloaded_word : (set : Setting) (h : Flat) (s : Step) (w : DiskWord) → fits set h.shared s w ≡ true → (next set h s w).state.shared.device ≡ Stopped → not (is_loaded w) ≡ true
unloaded_word set h s word.Quiet f is = refl
unloaded_word set h s word.Done f is = refl
unloaded_word set h s (word.Failed n) f is = refl
unloaded_word set h s (word.Cut n) f is = refl
unloaded_word set h s (word.Loaded rows) f is = absurd (ready_not (sym (loaded_ready set h s rows f) ∙ is))
  where
    ready_not : Ready ≡ Stopped → ⊥
    ready_not e = cc
unloaded_word set h s (word.Bad slot) f is = refl

none_loaded : (set : Setting) (h : Flat) (acts : List Act) → FitsFrom set h acts → StoppedAll set h acts → list_all (λ (a : Act). not (is_loaded a.word)) acts ≡ true
none_loaded set h [] f all = refl
none_loaded set h (a ∷ acts) f all = and_of (not (is_loaded a.word)) _ (unloaded_word set h a.step a.word f.0 (all (a ∷ []) acts refl))
    (none_loaded set (next set h a.step a.word).state acts f.1 (λ since later e. all (a ∷ since) later (ap (λ (xs : List Act). a ∷ xs) e)))

fits_rest : (set : Setting) (h : Flat) (before after : List Act) → FitsFrom set h (before ++ after) → FitsFrom set (run_from set h before) after
fits_rest set h [] after f = f
fits_rest set h (a ∷ before) after f = fits_rest set (next set h a.step a.word).state before after f.1

pub unloaded_since : (set : Setting) (h : Flat) (acts : List Act) (since : IsStoppedSince set h acts) → FitsFrom set h acts → IsTrue (list_all (λ (a : Act). not (is_loaded a.word)) since.after)
unloaded_since set h acts since f =
    let h2 = run_from set h since.before in
    let rest = fits_rest set h since.before (since.act ∷ since.after) (subst (FitsFrom set h) since.parts f) in
    none_loaded set (next set h2 since.act.step since.act.word).state since.after rest.1
    (λ now later e. sym (ap (λ (g : Flat). g.shared.device) (run_from-append set h since.before (since.act ∷ now))) ∙ since.stopped now later e)
