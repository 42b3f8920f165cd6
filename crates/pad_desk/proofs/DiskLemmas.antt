-- What a history did to its disk.
use Rattle.std.proofs.Common.{refl, subst}
use Rattle.std.specs.Prelude.{IfSome, List, None, Option, Some, false, is_some, ℕ, ◌≡◌}
use Rattle.disk_core.specs.DiskStates.{DiskState, EachImage}
use Rattle.flat_machine.specs.Deeds.{Deed, acts_in, cut_words, failed_words, loads_rows}
use Rattle.flat_machine.specs.DiskRuns.{NonePendingOff, RoseBy, RunOnDisk}
use Rattle.flat_machine.specs.DiskSteps.{ShowsKeys}
use Rattle.flat_machine.specs.KeyLayout.{key_layout}
use Rattle.flat_machine.specs.Machine.{Act, run_from}
use Rattle.flat_machine.specs.Settings.{Setting}
use Rattle.flat_machine.specs.State.{Flat, is_ready, opening}
use Rattle.flat_machine.specs.StoreHistory.{HoldsFrom, These}
use Rattle.pad_desk.proofs.HistoryLemmas.{acts_in-deeds_of}
use Rattle.pad_desk.specs.Histories.{DeskEntry, acts_of}
use Rattle.pad_desk.specs.Machines.{HistoryOnDisk, StandsIn, deeds_of, zero_bytes}
use Rattle.pad_machine.specs.Stands.{PadState, set_by}
use Rattle.pin_blocks.specs.PinRules.{PinRules}

-- a fact of each, where there is one
pub if_some-all : {A : Type 0} (o : Option A) {P : Type 0} → P → IfSome o (λ _. P)
if_some-all None all = tt
if_some-all (Some x) all = all

-- what follows where the one is there, which is where the other is
pub both_told : {A : Type 0} (o p : Option A) {P Q R : Type 0} → is_some o ≡ is_some p → IfSome o (λ _. P) → IfSome p (λ _. Q) → (P → Q → R) → IfSome o (λ _. R)
both_told None p same first second follows = tt
both_told (Some x) None same first second follows = absurd cc
both_told (Some x) (Some y) same first second follows = follows first second

module _ {D : Type 0} (disk_state : D → DiskState) (pin_rules : PinRules) where
  -- until rows are loaded each image is one of before
  abbrev pub Unloaded : Type 0
  Unloaded = (set : Setting) (state : Flat) (deeds : List Deed) (s t : D) → NonePendingOff state.shared → is_ready state.shared.device ≡ false → loads_rows deeds ≡ false
      → RunOnDisk key_layout set state deeds (disk_state s) (disk_state t) → EachImage (disk_state t) (λ bytes. (disk_state s).image bytes)

  pub history-on_disk : Unloaded → (seed : List ℕ) (pad : PadState) (disk : D) (history : List DeskEntry) → StandsIn disk_state pin_rules seed pad disk history → HistoryOnDisk (set_by pin_rules seed) history (disk_state disk)
  history-on_disk unloaded seed pad disk history stands =
      let set : Setting = set_by pin_rules seed in
      let deeds : List Deed = deeds_of history in
      let s : DiskState = disk_state stands.first in
      let t : DiskState = disk_state disk in
      let on = stands.on_disk in
      let acts : acts_in deeds ≡ acts_of history = acts_in-deeds_of history in record {
        faults = subst (λ (before : ℕ). RoseBy (failed_words deeds) before t.faults) stands.fresh.faults on.faults;
        cuts = subst (λ (before : ℕ). RoseBy (cut_words deeds) before t.cuts) stands.fresh.cuts on.cuts;
        images = both_told t.content s.content on.tells (on.moved refl) stands.fresh.images
            (λ moved zero bytes image. let came = moved bytes image in
            subst (λ (acts : List Act). HoldsFrom key_layout set opening (These zero_bytes) acts bytes) acts
            (subst (λ (first : List ℕ). HoldsFrom key_layout set opening (These first) (acts_in deeds) bytes) (zero came.0 came.1) came.2));
        unread = λ none. both_told t.content s.content on.tells (unloaded set opening deeds stands.first disk refl refl none on) stands.fresh.images (λ same zero bytes image. zero bytes (same bytes image));
        shows = subst (λ (acts : List Act). EachImage t (ShowsKeys key_layout (run_from set opening acts).shared)) acts (on.shows (if_some-all s.content (λ bytes image loaded. absurd cc)));
        calm = both_told t.content s.content on.tells (if_some-all t.content tt) (on.calm (if_some-all s.content (λ bytes image loaded. absurd cc))) (λ (_ : Unit {0}) calm. calm);
        good = stands.good;
      }
