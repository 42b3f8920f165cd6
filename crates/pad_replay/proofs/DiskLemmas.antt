-- What a run did to a disk, of deeds with armings behind them that were not done.
use Rattle.disk_core.specs.DiskStates.{DiskState, EachImage}
use Rattle.flat_machine.specs.Deeds.{Arms, CalmFrom, Deed, FitsDeeds, Takes, acts_in, cut_words, failed_words, loads_rows, off_along}
use Rattle.flat_machine.specs.DiskRuns.{ComeFromOne, RoseBy, RunOnDisk}
use Rattle.flat_machine.specs.DiskSteps.{ShowsKeys, is_cut, is_failed, is_loaded, switched}
use Rattle.flat_machine.specs.KeyLayout.{key_layout}
use Rattle.flat_machine.specs.Machine.{Act, next, run_from}
use Rattle.flat_machine.specs.Settings.{Setting}
use Rattle.flat_machine.specs.State.{Flat, is_off, opening}
use Rattle.flat_machine.specs.StoreHistory.{HoldsFrom, These}
use Rattle.pad_replay.proofs.RunLemmas.{acts_in-append}
use Rattle.pad_replay.specs.Parts.{RunsOnDisk}
use Rattle.pad_replay.specs.Runs.{program_setting}
use Rattle.std.proofs.Common.{ap, append-nil, refl, subst, sym, ◌∙◌}
use Rattle.std.specs.Prelude.{Bool, IfSome, IsTrue, List, None, Option, Some, [], false, if◌then◌else◌, true, ℕ, ◌++◌, ◌+◌, ◌∷◌, ◌≡◌, ◌||◌}

acts-with : (done left : List Deed) → acts_in left ≡ [] → acts_in (done ++ left) ≡ acts_in done
acts-with done left none = acts_in-append done left ∙ ap (λ (acts : List Act). acts_in done ++ acts) none ∙ append-nil (acts_in done)

failed-none : (left : List Deed) → acts_in left ≡ [] → failed_words left ≡ 0
failed-none [] none = refl
failed-none (Takes act ∷ left) none = absurd cc
failed-none (Arms call strike ∷ left) none = failed-none left none

failed-with : (done left : List Deed) → acts_in left ≡ [] → failed_words (done ++ left) ≡ failed_words done
failed-with [] left none = failed-none left none
failed-with (Takes act ∷ done) left none = ap (λ (n : ℕ). (if is_failed act.word then 1 else 0) + n) (failed-with done left none)
failed-with (Arms call strike ∷ done) left none = failed-with done left none

cut-none : (left : List Deed) → acts_in left ≡ [] → cut_words left ≡ 0
cut-none [] none = refl
cut-none (Takes act ∷ left) none = absurd cc
cut-none (Arms call strike ∷ left) none = cut-none left none

cut-with : (done left : List Deed) → acts_in left ≡ [] → cut_words (done ++ left) ≡ cut_words done
cut-with [] left none = cut-none left none
cut-with (Takes act ∷ done) left none = ap (λ (n : ℕ). (if is_cut act.word then 1 else 0) + n) (cut-with done left none)
cut-with (Arms call strike ∷ done) left none = cut-with done left none

loads-none : (left : List Deed) → acts_in left ≡ [] → loads_rows left ≡ false
loads-none [] none = refl
loads-none (Takes act ∷ left) none = absurd cc
loads-none (Arms call strike ∷ left) none = loads-none left none

loads-with : (done left : List Deed) → acts_in left ≡ [] → loads_rows (done ++ left) ≡ loads_rows done
loads-with [] left none = loads-none left none
loads-with (Takes act ∷ done) left none = ap (λ (b : Bool). is_loaded act.word || b) (loads-with done left none)
loads-with (Arms call strike ∷ done) left none = loads-with done left none

module _ (set : Setting) where
  fits-none : (state : Flat) (left : List Deed) → acts_in left ≡ [] → FitsDeeds set state left
  fits-none state [] none = tt
  fits-none state (Takes act ∷ left) none = absurd cc
  fits-none state (Arms call strike ∷ left) none = fits-none state left none

  fits-with : (state : Flat) (done left : List Deed) → acts_in left ≡ [] → FitsDeeds set state done → FitsDeeds set state (done ++ left)
  fits-with state [] left none fits = fits-none state left none
  fits-with state (Takes act ∷ done) left none fits = (fits.0, fits-with (next set state act.step act.word).state done left none fits.1)
  fits-with state (Arms call strike ∷ done) left none fits = fits-with state done left none fits

  off-none : (state : Flat) (left : List Deed) (was : Bool) → acts_in left ≡ [] → off_along set state left was ≡ was
  off-none state [] was none = refl
  off-none state (Takes act ∷ left) was none = absurd cc
  off-none state (Arms call strike ∷ left) was none = off-none state left was none

  off-with : (state : Flat) (done left : List Deed) (was : Bool) → acts_in left ≡ [] → off_along set state (done ++ left) was ≡ off_along set state done was
  off-with state [] left was none = off-none state left was none
  off-with state (Takes act ∷ done) left was none = off-with (next set state act.step act.word).state done left (if is_cut act.word then true else switched state.shared act.step was) none
  off-with state (Arms call strike ∷ done) left was none = off-with state done left was none

  calm-none : (state : Flat) (left : List Deed) → acts_in left ≡ [] → CalmFrom set state left
  calm-none state [] none = tt
  calm-none state (Takes act ∷ left) none = absurd cc
  calm-none state (Arms call strike ∷ left) none = calm-none state left none

  calm-with : (state : Flat) (done left : List Deed) → acts_in left ≡ [] → CalmFrom set state done → CalmFrom set state (done ++ left)
  calm-with state [] left none calm = calm-none state left none
  calm-with state (Takes act ∷ done) left none calm = (calm.0, calm-with (next set state act.step act.word).state done left none calm.1)
  calm-with state (Arms call strike ∷ done) left none calm = calm-with state done left none calm

-- a fact of each, where there is one
if_some-all : {A : Type 0} (o : Option A) {P : A → Type 0} → ((x : A) → P x) → IfSome o P
if_some-all None all = tt
if_some-all (Some x) all = all x

pub if_some-some : {A : Type 0} (o : Option A) {P : A → Type 0} → ((x : A) → o ≡ Some x → P x) → IfSome o P
if_some-some None all = tt
if_some-some (Some x) all = all x refl

pub if_some-then : {A : Type 0} (o : Option A) {P Q : A → Type 0} → ((x : A) → P x → Q x) → IfSome o P → IfSome o Q
if_some-then None follows holds = tt
if_some-then (Some x) follows holds = follows x holds

module _ (seed : List ℕ) where
  -- until rows are loaded each image is one of before
  abbrev pub Unloaded : DiskState → DiskState → Type 0
  Unloaded s t = (deeds : List Deed) → loads_rows deeds ≡ false → RunOnDisk key_layout (program_setting seed) opening deeds s t → EachImage t (λ bytes. s.image bytes)

  come-with : (done left : List Deed) (s t : DiskState) → acts_in left ≡ [] → ComeFromOne key_layout (program_setting seed) opening done s t → ComeFromOne key_layout (program_setting seed) opening (done ++ left) s t
  come-with done left s t none come = record {
    first = come.first;
    was = come.was;
    holds = λ bytes image. subst (λ (acts : List Act). HoldsFrom key_layout (program_setting seed) opening (These come.first) acts bytes) (sym (acts-with done left none)) (come.holds bytes image);
  }

  -- each image shows the rows that are kept after these steps, or these with the slot in doubt replaced
  abbrev ShownAfter : DiskState → List Act → Type 0
  ShownAfter t acts = EachImage t (ShowsKeys key_layout (run_from (program_setting seed) opening acts).shared)

  -- the device is not off after these steps
  abbrev IsOn : List Act → Type 0
  IsOn acts = is_off (run_from (program_setting seed) opening acts).shared.device ≡ false

  runs-with : (done left : List Deed) (s t : DiskState) → acts_in left ≡ [] → Unloaded s t → RunOnDisk key_layout (program_setting seed) opening done s t → RunsOnDisk seed (done ++ left) s t
  runs-with done left s t none unloaded on = record {
    fits = fits-with (program_setting seed) opening done left none on.fits;
    faults = subst (λ (n : ℕ). RoseBy n s.faults t.faults) (sym (failed-with done left none)) on.faults;
    cuts = subst (λ (n : ℕ). RoseBy n s.cuts t.cuts) (sym (cut-with done left none)) on.cuts;
    off = on.off ∙ sym (off-with (program_setting seed) opening done left s.off none);
    on = λ is_on. on.on (λ started. absurd cc) (subst (λ (acts : List Act). IsOn acts) (acts-with done left none) is_on);
    tells = on.tells;
    unwritten = λ unread. unloaded done (sym (loads-with done left none) ∙ unread) on;
    begun = λ read. if_some-then s.content (λ _ come. come-with done left s t none come) (on.begun refl (subst IsTrue (loads-with done left none) read));
    shows = subst (λ (acts : List Act). ShownAfter t acts) (sym (acts-with done left none)) (on.shows (if_some-all s.content (λ _ bytes image was. absurd cc)));
    calm = if_some-then s.content (λ _ calm. calm-with (program_setting seed) opening done left none calm) (on.calm (if_some-all s.content (λ _ bytes image was. absurd cc)));
  }

  -- of the deeds that the words play, all but armings behind the last step were done
  pub runs-on : (deeds done left : List Deed) (s t : DiskState) → deeds ≡ done ++ left → acts_in left ≡ [] → Unloaded s t → RunOnDisk key_layout (program_setting seed) opening done s t → RunsOnDisk seed deeds s t
  runs-on deeds done left s t parts none unloaded on = subst (λ (all : List Deed). RunsOnDisk seed all s t) (sym parts) (runs-with done left s t none unloaded on)
