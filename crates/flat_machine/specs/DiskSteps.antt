-- What a step does to the disk, by the calls that it plans and its word.
use Rattle.disk_core.specs.Causes.{Rose}
use Rattle.disk_core.specs.DiskStates.{Arming, DiskState, EachImage, IsOnlyImage}
use Rattle.disk_core.specs.declared.disk.DiskError.{DiskError}
use Rattle.disk_core.specs.declared.disk.DiskError.TheVariants as fault
use Rattle.disk_core.specs.declared.disk.Strike.{Strike}
use Rattle.disk_core.specs.declared.disk.Strike.TheVariants as strike
use Rattle.flat_machine.specs.Arms.{Armed, Cuts, Due, Fails, Struck}
use Rattle.flat_machine.specs.Machine.{plan}
use Rattle.flat_machine.specs.Power.{Plan, Replacing, fits_plan}
use Rattle.flat_machine.specs.Settings.{Setting}
use Rattle.flat_machine.specs.State.{Shared, is_off, is_ready}
use Rattle.flat_machine.specs.StoreHistory.{CanBe, HoldsStep, Layout, These}
use Rattle.key_table.specs.Changes.{Change}
use Rattle.key_table.specs.KeyRows.{KeyRows, put_row}
use Rattle.key_table.specs.declared.LoadFault.{LoadFault}
use Rattle.key_table.specs.declared.LoadFault.TheVariants as load
use Rattle.key_table.specs.StoredRows.{rows_of}
use Rattle.nv_store.specs.Stores.{IsInStep}
use Rattle.pad_steps.specs.declared.steps.DiskWord.{DiskWord}
use Rattle.pad_steps.specs.declared.steps.DiskWord.TheVariants as words
use Rattle.pad_steps.specs.declared.steps.Step.{Step}
use Rattle.pad_steps.specs.declared.steps.Step.TheVariants as steps
use Rattle.std.specs.Prelude.{Bool, Err, IfSome, IsSome, IsTrue, List, None, Ok, Option, Result, Some, [], false, if◌then◌else◌, is_some, true, ℕ, ◌∷◌, ◌≡◌, ◌≤◌, ◌⊎◌}

-- a call failed
abbrev pub is_failed : DiskWord → Bool
is_failed (words.Failed count) = true
is_failed other = false

-- the power was cut in a call
abbrev pub is_cut : DiskWord → Bool
is_cut (words.Cut count) = true
is_cut other = false

-- rows were loaded
abbrev pub is_loaded : DiskWord → Bool
is_loaded (words.Loaded rows) = true
is_loaded other = false

-- the plan replaces slots
abbrev pub is_replacing : Plan → Bool
is_replacing (Replacing todo) = true
is_replacing other = false

-- the word of replacements that were all done: Quiet where there were none
abbrev pub done_word : List Change → DiskWord
done_word [] = words.Quiet
done_word (change ∷ rest) = words.Done

-- the word of calls that came to this fault, or else to this word, after so many slots were wholly replaced
abbrev pub word_of : ℕ → DiskWord → Option DiskError → DiskWord
word_of count whole None = whole
word_of count whole (Some fault.Failed) = words.Failed count
word_of count whole (Some fault.Off) = words.Cut count

-- the word of a loading: the rows, the fault, or the bad slot
abbrev pub load_word : {T : Type 0} → Result T LoadFault → KeyRows → DiskWord
load_word (Ok x) rows = words.Loaded rows
load_word (Err (load.Disk fault)) rows = word_of 0 words.Quiet (Some fault)
load_word (Err (load.BadStore slot)) rows = words.Bad slot

-- what a step makes of it whether the disk is off: Off stops it and Boot starts it, unless the device is off or on already
abbrev pub switched : Shared → Step → Bool → Bool
switched shared steps.Off was = if is_off shared.device then was else true
switched shared steps.Boot was = if is_off shared.device then false else was
switched shared other was = was

-- a strike, as the machine has it
abbrev pub struck_by : Strike → Struck
struck_by strike.Fail = Fails
struck_by (strike.Cut keep) = Cuts

-- what is armed, as the machine has it
abbrev pub armed_as : Option Arming → Armed
armed_as None = None
armed_as (Some arming) = Some (arming.0, struck_by arming.1)

-- where the disk tells what is armed, the word is due by it, and the disk tells what is armed after
abbrev pub DueTold : Plan → Option (Option Arming) → DiskWord → Option (Option Arming) → Type 0
DueTold calls None word after = after ≡ None
DueTold calls (Some armed) word after = (new : Option Arming) × (after ≡ Some new) × Due calls (armed_as armed) word (armed_as new)

-- a machine and its disk belong together: the disk is on while the device is not off; and while the device is ready, the disk has the bytes that the store keeps
pub record IsTied (shared : Shared) (stored : Option (List ℕ)) (disk : DiskState) : Type 0 where
  pub on : is_off shared.device ≡ false → disk.off ≡ false
  pub in_step : is_ready shared.device ≡ true → IsInStep disk stored

-- while the device is ready, rows were loaded, no slot is in doubt, and the store's bytes show the kept rows
pub record IsReadyStore (shared : Shared) (stored : Option (List ℕ)) : Type 0 where
  pub loaded : is_ready shared.device ≡ true → shared.loaded ≡ true
  pub doubtless : is_ready shared.device ≡ true → shared.doubt ≡ None
  pub settled : is_ready shared.device ≡ true → IsSome stored
  pub shows : IfSome stored (λ bytes. rows_of bytes ≡ Some shared.keys)

module _ (layout : Layout) where
  -- these bytes were read, as the word tells
  abbrev pub ReadBy : DiskWord → List ℕ → Type 0
  ReadBy (words.Loaded rows) bytes = layout.rows_of bytes ≡ Some rows
  ReadBy (words.Bad slot) bytes = layout.bad_slot bytes ≡ Some slot
  ReadBy other bytes = Unit {0}

  -- from the bytes of before, calls with this word can leave these
  abbrev pub Moved : Plan → DiskWord → List ℕ → List ℕ → Type 0
  Moved calls word before after = HoldsStep layout calls word (These before) (λ known. CanBe layout known after)

  -- the bytes show these rows, or these with the slot in doubt replaced
  abbrev pub ShowsDoubt : Option Change → KeyRows → List ℕ → Type 0
  ShowsDoubt None keys bytes = layout.rows_of bytes ≡ Some keys
  ShowsDoubt (Some change) keys bytes = (layout.rows_of bytes ≡ Some keys) ⊎ (layout.rows_of bytes ≡ Some (put_row change.slot change.row keys))

  -- once rows were loaded, the bytes show the kept ones, or these with the slot in doubt replaced
  abbrev pub ShowsKeys : Shared → List ℕ → Type 0
  ShowsKeys shared bytes = shared.loaded ≡ true → ShowsDoubt shared.doubt shared.keys bytes

  -- what calls of a plan did to a disk, told by a word. It knows nothing of the machine
  pub record DeviceWork (calls : Plan) (word : DiskWord) (s t : DiskState) : Type 0 where
    -- the word is one of the plan's
    pub fits : IsTrue (fits_plan calls word)
    -- no count falls, and each fault and cut has its cause
    pub faults : s.faults ≤ t.faults
    pub cuts : s.cuts ≤ t.cuts
    pub failed : IsTrue (is_failed word) → Rose s.faults t.faults
    pub cut : IsTrue (is_cut word) → Rose s.cuts t.cuts
    -- no call follows one that failed
    pub last : IsTrue (is_failed word) → t.failed ≡ true
    pub off : t.off ≡ is_cut word
    pub tells : is_some t.content ≡ is_some s.content
    -- the word is due by what is armed
    pub due : DueTold calls s.armed word t.armed
    -- each crash image comes from one of before as the word tells, and so do the bytes that a read gives
    pub moved : EachImage t (λ bytes. (from : List ℕ) × s.image from × Moved calls word from bytes)
    pub read : EachImage t (ReadBy word)
    -- what was loaded is the only image
    pub stable : IsTrue (is_loaded word) → IfSome t.content (λ bytes. IsOnlyImage bytes t)

  -- a machine and its disk went from one state to another, by calls with this word and by a switch of the disk
  pub record OnDisk (before after : Shared) (switch : Bool → Bool) (calls : Plan) (word : DiskWord) (s t : DiskState) : Type 0 where
    pub fits : IsTrue (fits_plan calls word)
    pub faults : s.faults ≤ t.faults
    pub cuts : s.cuts ≤ t.cuts
    pub failed : IsTrue (is_failed word) → Rose s.faults t.faults
    pub cut : IsTrue (is_cut word) → Rose s.cuts t.cuts
    -- no call follows one that failed
    pub last : IsTrue (is_failed word) → t.failed ≡ true
    -- a cut and a switch stop and start the disk, and it is on while the device is not off
    pub off : t.off ≡ (if is_cut word then true else switch s.off)
    pub on : is_off after.device ≡ false → t.off ≡ false
    pub tells : is_some t.content ≡ is_some s.content
    pub due : DueTold calls s.armed word t.armed
    pub moved : EachImage t (λ bytes. (from : List ℕ) × s.image from × Moved calls word from bytes)
    pub read : EachImage t (ReadBy word)
    pub stable : IsTrue (is_loaded word) → IfSome t.content (λ bytes. IsOnlyImage bytes t)
    -- the images show the kept rows, or these with the slot in doubt replaced
    pub shows : EachImage s (ShowsKeys before) → EachImage t (ShowsKeys after)

  -- a step led from one state of the machine and of the disk to another: the word fits the step, the disk did it, and every image is one that the store's history allows
  abbrev pub StepOnDisk : Setting → Shared → Shared → Step → DiskWord → DiskState → DiskState → Type 0
  StepOnDisk set before after step word s t = OnDisk before after (switched before step) (plan set before step) word s t
