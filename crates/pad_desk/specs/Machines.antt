-- What stands behind the turn: a pad and its disk, after a history.
use Rattle.disk_core.specs.DiskStates.{DiskState, EachImage}
use Rattle.disk_core.specs.declared.disk.TheConstants.{DISK_BYTES}
use Rattle.flat_machine.specs.Deeds.{CalmFrom, Deed, Takes, cut_words, failed_words, loads_rows}
use Rattle.flat_machine.specs.DiskRuns.{RoseBy, RunOnDisk}
use Rattle.flat_machine.specs.DiskSteps.{ShowsKeys}
use Rattle.flat_machine.specs.KeyLayout.{key_layout}
use Rattle.flat_machine.specs.Machine.{run}
use Rattle.flat_machine.specs.Settings.{Setting}
use Rattle.flat_machine.specs.State.{opening}
use Rattle.flat_machine.specs.StoreHistory.{Holds}
use Rattle.pad_desk.specs.Histories.{DeskEntry, HasSeed, LegalFrom, act_of, acts_of}
use Rattle.pad_machine.specs.Runs.{PadIsTied}
use Rattle.pad_machine.specs.Stands.{PadState, StandsFor, set_by}
use Rattle.pin_blocks.specs.PinRules.{PinRules}
use Rattle.pad_steps.specs.declared.steps.DiskWord.TheVariants as words
use Rattle.std.specs.Prelude.{IfSome, List, [], false, length, map, replicate, ℕ, ◌∷◌, ◌≡◌, ◌≢◌, ◌≤◌}

-- the bytes of a new disk
abbrev pub zero_bytes : List ℕ
zero_bytes = replicate DISK_BYTES 0

-- a disk that no call failed or cut, and whose bytes are all zero where it tells them
pub record IsFreshDisk (disk : DiskState) : Type 0 where
  pub faults : disk.faults ≡ 0
  pub cuts : disk.cuts ≡ 0
  pub images : EachImage disk (λ bytes. bytes ≡ zero_bytes)

-- the steps of a history, as deeds
abbrev pub deeds_of : List DeskEntry → List Deed
deeds_of history = map (λ (entry : DeskEntry). Takes (act_of entry)) history

-- no word of the history says that the store reads as bad
abbrev pub HasNoBadWord : List DeskEntry → Type 0
HasNoBadWord [] = Unit {0}
HasNoBadWord (entry ∷ rest) = ((slot : ℕ) → entry.outcome.word ≢ words.Bad slot) × HasNoBadWord rest

module _ {D : Type 0} (disk_state : D → DiskState) (pin_rules : PinRules) where
  -- in a run of this seed, pad and disk came from the opening and a fresh disk by this history
  pub record StandsIn (seed : List ℕ) (pad : PadState) (disk : D) (history : List DeskEntry) : Type 0 where
    -- the history is legal, and each of its entries tells the seed
    pub seeds : HasSeed seed history
    pub legal : LegalFrom (set_by pin_rules seed) opening history
    -- the pad is in the state after it, with at most one request for each entry, and has its disk
    pub state : StandsFor pad seed (run (set_by pin_rules seed) (acts_of history))
    pub requests : length pad.kept.shared.requests ≤ length history
    pub tied : PadIsTied pad (disk_state disk)
    -- the history was a run on the disk, which was fresh at first
    pub first : D
    pub fresh : IsFreshDisk (disk_state first)
    pub on_disk : RunOnDisk key_layout (set_by pin_rules seed) opening (deeds_of history) (disk_state first) (disk_state disk)
    pub good : IfSome (disk_state disk).content (λ _. HasNoBadWord history)

  -- pad and disk stand for the history
  abbrev pub Stands : PadState → D → List DeskEntry → Type 0
  Stands pad disk history = StandsIn pad.kept.seed pad disk history

-- what a history did to a disk that was fresh at first
pub record HistoryOnDisk (set : Setting) (history : List DeskEntry) (disk : DiskState) : Type 0 where
  -- each word of a fault or a cut has its cause, from counts of 0 on
  pub faults : RoseBy (failed_words (deeds_of history)) 0 disk.faults
  pub cuts : RoseBy (cut_words (deeds_of history)) 0 disk.cuts
  -- each image is what the history of the store allows from zero bytes on; until rows were loaded it is zero bytes
  pub images : EachImage disk (Holds key_layout set zero_bytes (acts_of history))
  pub unread : loads_rows (deeds_of history) ≡ false → EachImage disk (λ bytes. bytes ≡ zero_bytes)
  -- once rows were loaded, each image shows the rows that are kept, or these with the slot in doubt replaced
  pub shows : EachImage disk (ShowsKeys key_layout (run set (acts_of history)).shared)
  -- no fate is other
  pub calm : IfSome disk.content (λ _. CalmFrom set opening (deeds_of history))
  -- the store never reads as bad: neither the zero bytes nor what was written has a bad slot
  pub good : IfSome disk.content (λ _. HasNoBadWord history)
