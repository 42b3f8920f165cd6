-- Steps and armings that led a machine and its disk from one state to another. This one record is carried along a run.
use Rattle.disk_core.specs.DiskStates.{DiskState, EachImage}
use Rattle.flat_machine.specs.Deeds.{CalmFrom, Deed, DueFrom, FitsDeeds, acts_in, after_deeds, cut_words, failed_words, loads_rows, off_along}
use Rattle.flat_machine.specs.DiskSteps.{ShowsKeys}
use Rattle.flat_machine.specs.Settings.{Setting}
use Rattle.flat_machine.specs.Sound.{Sound}
use Rattle.flat_machine.specs.State.{Flat, Shared, is_off}
use Rattle.flat_machine.specs.StoreHistory.{HoldsFrom, Layout, These}
use Rattle.std.specs.Prelude.{IfSome, IsTrue, List, false, is_some, min, true, ℕ, ◌+◌, ◌-◌, ◌^◌, ◌≡◌, ◌≤◌}

-- no request is pending while the device is off
abbrev pub NonePendingOff : Shared → Type 0
NonePendingOff shared = Sound (λ command. true) shared

-- so many times the count rose, or it stands at its last value
abbrev pub RoseBy : ℕ → ℕ → ℕ → Type 0
RoseBy times before now = min (before + times) (2 ^ 64 - 1) ≤ now

module _ (layout : Layout) (set : Setting) where
  -- the bytes come from an image of before by the history of the store
  abbrev pub ComesFrom : Flat → List Deed → DiskState → List ℕ → Type 0
  ComesFrom start deeds s bytes = (first : List ℕ) × s.image first × HoldsFrom layout set start (These first) (acts_in deeds) bytes

  -- all images come from one of before, whose bytes the first loading read
  pub record ComeFromOne (start : Flat) (deeds : List Deed) (s t : DiskState) : Type 0 where
    pub first : List ℕ
    pub was : s.image first
    pub holds : (bytes : List ℕ) → t.image bytes → HoldsFrom layout set start (These first) (acts_in deeds) bytes

  -- what a run did to a disk
  pub record RunOnDisk (start : Flat) (deeds : List Deed) (s t : DiskState) : Type 0 where
    -- each word fits its step
    pub fits : FitsDeeds set start deeds
    -- each word of a fault or a cut has its cause
    pub faults : RoseBy (failed_words deeds) s.faults t.faults
    pub cuts : RoseBy (cut_words deeds) s.cuts t.cuts
    -- the disk is off as cuts, Off and Boot leave it, and on while the device is not off
    pub off : t.off ≡ off_along set start deeds s.off
    pub on : (is_off start.shared.device ≡ false → s.off ≡ false) → is_off (after_deeds set start deeds).shared.device ≡ false → t.off ≡ false
    pub tells : is_some t.content ≡ is_some s.content
    -- each word is due by what is armed
    pub due : DueFrom set start deeds s.armed t.armed
    pub none_pending : NonePendingOff start.shared → NonePendingOff (after_deeds set start deeds).shared
    -- each image comes from one of before by the history of the store; once rows were loaded, all come from one
    pub moved : NonePendingOff start.shared → EachImage t (ComesFrom start deeds s)
    pub begun : NonePendingOff start.shared → IsTrue (loads_rows deeds) → IfSome s.content (λ _. ComeFromOne start deeds s t)
    -- the images show the kept rows, or these with the slot in doubt replaced; so no bad store comes after a loading, and no fate is other
    pub shows : EachImage s (ShowsKeys layout start.shared) → EachImage t (ShowsKeys layout (after_deeds set start deeds).shared)
    pub calm : EachImage s (ShowsKeys layout start.shared) → IfSome s.content (λ _. CalmFrom set start deeds)
