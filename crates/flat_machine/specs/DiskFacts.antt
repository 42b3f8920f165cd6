-- Words for what is so of steps on a disk.
use Rattle.disk_core.specs.DiskStates.{DiskState}
use Rattle.disk_core.specs.declared.disk.DiskError.{DiskError}
use Rattle.flat_machine.specs.DiskSteps.{IsReadyStore, IsTied, OnDisk}
use Rattle.flat_machine.specs.FinishSteps.{plan_of}
use Rattle.flat_machine.specs.KeyLayout.{key_layout}
use Rattle.flat_machine.specs.Power.{Plan, Replacing}
use Rattle.flat_machine.specs.State.{Shared, is_ready}
use Rattle.flat_machine.specs.StoreHistory.{Layout}
use Rattle.flat_machine.specs.declared.types.Work.{Work}
use Rattle.key_table.specs.Changes.{Change}
use Rattle.key_table.specs.KeyRows.{KeyRows}
use Rattle.key_table.specs.KeyStores.{KeyStore, MakesChanges}
use Rattle.key_table.specs.StoredRows.{rows_of}
use Rattle.pad_steps.specs.declared.steps.DiskWord.{DiskWord}
use Rattle.pad_steps.specs.declared.steps.Step.{Step}
use Rattle.pad_steps.specs.declared.steps.Step.TheVariants as steps
use Rattle.std.specs.Prelude.{Bool, IfSome, List, None, Option, Some, false, true, ℕ, ◌≡◌}

-- no bytes show rows and have a bad slot
abbrev pub TellsApart : Layout → Type 0
TellsApart layout = (bytes : List ℕ) (rows : KeyRows) (slot : ℕ) → layout.rows_of bytes ≡ Some rows → layout.bad_slot bytes ≡ Some slot → ⊥

-- the disk is left as it is
abbrev pub stays : Bool → Bool
stays was = was

-- the disk is stopped
abbrev pub stops : Bool → Bool
stops was = true

-- the disk is started
abbrev pub starts : Bool → Bool
starts was = false

-- the step is Off
abbrev pub is_off_step : Step → Bool
is_off_step steps.Off = true
is_off_step other = false

-- rows, doubt, device, and whether rows were loaded, stay
pub record KeepsDevice (before after : Shared) : Type 0 where
  pub keys : after.keys ≡ before.keys
  pub doubt : after.doubt ≡ before.doubt
  pub loaded : after.loaded ≡ before.loaded
  pub device : after.device ≡ before.device

-- a table over a store that the machine keeps, tied to its disk
pub record IsKeptStore (shared : Shared) (store : KeyStore) (disk : DiskState) : Type 0 where
  pub keys : store.rows ≡ shared.keys
  pub ready : IsReadyStore shared store.bytes
  pub tied : IsTied shared store.bytes disk

-- the machine that was ready replaced slots, as its work plans them; where all were replaced, the store's bytes show the rows
pub record ReplacesSlots (shared : Shared) (work : Work) (todo : List Change) (count : ℕ) (fault : Option DiskError) (old new : KeyStore) (s t : DiskState) : Type 0 where
  pub ready : is_ready shared.device ≡ true
  pub planned : plan_of shared work ≡ Replacing todo
  pub kept : IsKeptStore shared old s
  pub made : MakesChanges todo count fault old new s t
  pub settled : fault ≡ None → IfSome new.bytes (λ bytes. rows_of bytes ≡ Some new.rows)

-- so it is on the disk, and the table is kept and tied again
pub record KeepsStore (before after : Shared) (switch : Bool → Bool) (calls : Plan) (word : DiskWord) (new : KeyStore) (s t : DiskState) : Type 0 where
  pub on_disk : OnDisk key_layout before after switch calls word s t
  pub kept : IsKeptStore after new t
