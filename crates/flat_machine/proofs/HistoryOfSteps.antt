-- The history of the store, one step longer; and until rows are loaded nothing is written.
use Rattle.disk_core.specs.DiskStates.{DiskState, EachImage}
use Rattle.flat_machine.proofs.BoolLemmas.{or_none}
use Rattle.flat_machine.proofs.HistoriesJoined.{holds_then, sound_next}
use Rattle.flat_machine.proofs.IdleDevices.{Idle, idle_plan, next_idle}
use Rattle.flat_machine.proofs.ToldBytes.{both_told}
use Rattle.flat_machine.specs.Deeds.{Arms, Deed, Takes, acts_in, loads_rows}
use Rattle.flat_machine.specs.DiskRuns.{NonePendingOff, RunOnDisk}
use Rattle.flat_machine.specs.DiskSteps.{StepOnDisk, is_loaded, is_replacing}
use Rattle.flat_machine.specs.Machine.{Act, next, plan, run}
use Rattle.flat_machine.specs.Power.{Loading, Nothing, Plan, Replacing}
use Rattle.flat_machine.specs.Settings.{Setting}
use Rattle.flat_machine.specs.State.{Flat, opening}
use Rattle.flat_machine.specs.StoreHistory.{Holds, HoldsFrom, HoldsStep, Known, Layout, These}
use Rattle.pad_steps.specs.declared.steps.DiskWord.TheVariants as word
use Rattle.pad_steps.specs.declared.steps.DiskWord.{DiskWord}
use Rattle.std.proofs.Common.{subst, sym}
use Rattle.std.specs.Prelude.{List, [], false, refl, ℕ, ◌++◌, ◌∷◌, ◌≡◌}

module _ (layout : Layout) (set : Setting) where
  -- before rows are loaded nothing is written, from a device that is not ready
  unloaded_step : (calls : Plan) (w : DiskWord) (b : List ℕ) (P : Known → Type 0) → is_replacing calls ≡ false → is_loaded w ≡ false → HoldsStep layout calls w (These b) P → P (These b)
  unloaded_step (Replacing todo) w b P not unloaded h = cc
  unloaded_step Nothing word.Quiet b P not unloaded h = h
  unloaded_step Nothing word.Done b P not unloaded h = h
  unloaded_step Nothing (word.Failed n) b P not unloaded h = h
  unloaded_step Nothing (word.Cut n) b P not unloaded h = h
  unloaded_step Nothing (word.Loaded rows) b P not unloaded h = cc
  unloaded_step Nothing (word.Bad slot) b P not unloaded h = h
  unloaded_step Loading word.Quiet b P not unloaded h = h
  unloaded_step Loading word.Done b P not unloaded h = h
  unloaded_step Loading (word.Failed n) b P not unloaded h = h
  unloaded_step Loading (word.Cut n) b P not unloaded h = h
  unloaded_step Loading (word.Loaded rows) b P not unloaded h = cc
  unloaded_step Loading (word.Bad slot) b P not unloaded h = h

  pub unloaded_same : (h : Flat) (deeds : List Deed) (b d : List ℕ) → NonePendingOff h.shared → Idle h.shared → loads_rows deeds ≡ false → HoldsFrom layout set h (These b) (acts_in deeds) d → d ≡ b
  unloaded_same h [] b d sound idle none holds = holds
  unloaded_same h (Takes a ∷ deeds) b d sound idle none holds =
      let parts = or_none (is_loaded a.word) (loads_rows deeds) none in
      unloaded_same (next set h a.step a.word).state deeds b d (sound_next set h a.step a.word sound) (next_idle set h a.step a.word idle parts.0) parts.1
      (unloaded_step (plan set h.shared a.step) a.word b (λ (k : Known). HoldsFrom layout set (next set h a.step a.word).state k (acts_in deeds) d) (idle_plan set h.shared a.step sound idle) parts.0 holds)
  unloaded_same h (Arms c k ∷ deeds) b d sound idle none holds = unloaded_same h deeds b d sound idle none holds

  -- where every image stood in the history of the steps before, every image stands in that of one step more
  pub holds_step : (state : Flat) (acts : List Act) (first : List ℕ) (act : Act) (s t : DiskState) → run set acts ≡ state → StepOnDisk layout set state.shared (next set state act.step act.word).state.shared act.step act.word s t
      → EachImage s (Holds layout set first acts) → EachImage t (Holds layout set first (acts ++ act ∷ []))
  holds_step state acts first act s t is on held = both_told s.content t.content ((b : List ℕ) → s.image b → Holds layout set first acts b) _ ((d : List ℕ) → t.image d → Holds layout set first (acts ++ act ∷ []) d) on.tells
      (λ each moved d left.
      let from = moved d left in
      let late : HoldsFrom layout set state (These from.0) (act ∷ []) d = from.2 in
      holds_then layout set opening (These first) acts (act ∷ []) from.0 d refl tt (each from.0 from.1) (subst (λ (h : Flat). HoldsFrom layout set h (These from.0) (act ∷ []) d) (sym is) late))
      held on.moved

  -- until rows are loaded each image is one of entry
  pub unloaded_images : (h : Flat) (deeds : List Deed) (s t : DiskState) → NonePendingOff h.shared → Idle h.shared → loads_rows deeds ≡ false → RunOnDisk layout set h deeds s t → EachImage t (λ d. s.image d)
  unloaded_images h deeds s t sound idle none ran = both_told t.content t.content _ _ ((d : List ℕ) → t.image d → s.image d) refl
      (λ moved _ d left. let from = moved d left in subst (λ (x : List ℕ). s.image x) (sym (unloaded_same h deeds from.0 d sound idle none from.2)) from.1)
      (ran.moved sound) (ran.moved sound)
