-- A key table over a store, and what its calls do to the disk.
use Rattle.disk_core.specs.DiskStates.{DiskState, EachImage, Shrinks}
use Rattle.disk_core.specs.Disks.{DeviceCalls, KeepsContent, struck_within}
use Rattle.disk_core.specs.declared.disk.DiskError.{DiskError}
use Rattle.key_record.specs.Records.{spelled}
use Rattle.key_attributes.specs.declared.KeyRow.{KeyRow}
use Rattle.key_table.specs.Changes.{Change, changed}
use Rattle.key_table.specs.KeyRows.{KeyRows}
use Rattle.key_table.specs.StoredRows.{ShowsOldOrNew, bad_slot, put_bytes, rows_of}
use Rattle.key_table.specs.declared.LoadFault.{LoadFault}
use Rattle.key_table.specs.declared.LoadFault.TheVariants as load
use Rattle.key_table.specs.declared.PutFault.{PutFault}
use Rattle.key_table.specs.declared.PutFault.TheVariants as put
use Rattle.key_table.specs.declared.RemoveFault.{RemoveFault}
use Rattle.key_table.specs.declared.RemoveFault.TheVariants as remove
use Rattle.nv_store.specs.Cells.{IsTorn}
use Rattle.nv_store.specs.Stores.{IsInStep}
use Rattle.std.specs.Option.{option_map}
use Rattle.std.specs.Prelude.{Bool, Err, IfSome, List, None, Ok, OnErr, OnOk, Option, Result, Some, [], false, is_some, length, slice_get, take, true, ℕ, ◌*◌, ◌+◌, ◌<◌, ◌∷◌, ◌≡◌}

-- the rows of a table, and the bytes of its store, where it is settled
pub record KeyStore : Type 0 where
  pub rows : KeyRows
  pub bytes : Option (List ℕ)

-- the row with the lowest slot
abbrev pub lowest_row : KeyRows → Option (ℕ × KeyRow)
lowest_row table = slice_get table 0

-- the bytes of a store after changes one by one
abbrev pub changed_bytes : List Change → List ℕ → List ℕ
changed_bytes [] bytes = bytes
changed_bytes (change ∷ rest) bytes = changed_bytes rest (put_bytes bytes change.slot change.row)

-- how many changes were done of this many: all, or fewer where the next one had a fault
abbrev pub EndsAt : ℕ → ℕ → Option DiskError → Type 0
EndsAt all count None = count ≡ all
EndsAt all count (Some fault) = count < all

-- four device calls for each change that was done, and up to four for the one that had a fault
abbrev pub calls_of : ℕ → Option DiskError → ℕ
calls_of count None = 4 * count
calls_of count (Some fault) = 4 * count + 4

-- the bytes, torn by a replacement that had a fault
abbrev pub IsTornBy : Option Change → List ℕ → List ℕ → Type 0
IsTornBy None bytes torn = torn ≡ bytes
IsTornBy (Some change) bytes torn = IsTorn bytes change.slot (spelled change.row) torn

-- the bytes show these rows, or these after the change that had a fault
abbrev pub ShowsInDoubt : Option Change → KeyRows → List ℕ → Type 0
ShowsInDoubt None rows bytes = rows_of bytes ≡ Some rows
ShowsInDoubt (Some change) rows bytes = ShowsOldOrNew change rows bytes

-- what changes of a table over a store led to, one after another in their order: so many were done, and then the next one may have had a fault
pub record MakesChanges (todo : List Change) (count : ℕ) (fault : Option DiskError) (old new : KeyStore) (s t : DiskState) : Type 0 where
  pub ends : EndsAt (length todo) count fault
  -- the calls of the changes that were done were not struck
  pub calls : DeviceCalls (calls_of count fault) s t fault
  pub unstruck : IfSome s.armed (λ armed. struck_within (4 * count) armed ≡ None)
  pub rows : new.rows ≡ changed (take count todo) old.rows
  -- after all changes the disk has their bytes, and no other image
  pub bytes : fault ≡ None → new.bytes ≡ option_map (changed_bytes todo) old.bytes
  pub in_step : fault ≡ None → IsInStep t new.bytes
  -- after a fault or a cut a crash leaves the rows, or these after the next change
  pub unsettled : is_some fault ≡ true → new.bytes ≡ None
  pub torn : is_some fault ≡ true → IfSome old.bytes (λ bytes. EachImage t (IsTornBy (slice_get todo count) (changed_bytes (take count todo) bytes)))
  pub shows : is_some fault ≡ true → EachImage t (ShowsInDoubt (slice_get todo count) new.rows)

-- 1 where the one change was done, else 0
abbrev pub done_in : {T E : Type 0} → Result T E → ℕ
done_in (Ok x) = 1
done_in (Err e) = 0

-- the fault of the disk that a loading answered
abbrev pub load_fault : {T : Type 0} → Result T LoadFault → Option DiskError
load_fault (Ok x) = None
load_fault (Err (load.Disk fault)) = Some fault
load_fault (Err (load.BadStore slot)) = None

-- the fault of the disk that a put answered
abbrev pub put_fault : {T : Type 0} → Result T PutFault → Option DiskError
put_fault (Ok x) = None
put_fault (Err put.TableFull) = None
put_fault (Err (put.Disk fault)) = Some fault

-- the fault of the disk that a removal answered
abbrev pub remove_fault : {T : Type 0} → Result T RemoveFault → Option DiskError
remove_fault (Ok x) = None
remove_fault (Err remove.KeyNotFound) = None
remove_fault (Err (remove.Disk fault)) = Some fault

-- the put was refused, for all slots are taken
abbrev pub is_table_full : {T : Type 0} → Result T PutFault → Bool
is_table_full (Ok x) = false
is_table_full (Err put.TableFull) = true
is_table_full (Err (put.Disk fault)) = false

-- the removal was refused, for no key has the name
abbrev pub is_key_missing : {T : Type 0} → Result T RemoveFault → Bool
is_key_missing (Ok x) = false
is_key_missing (Err remove.KeyNotFound) = true
is_key_missing (Err (remove.Disk fault)) = false

-- the slot that a loading answered as the lowest bad one
abbrev pub bad_slot_in : {T : Type 0} → Result T LoadFault → Option ℕ
bad_slot_in (Ok x) = None
bad_slot_in (Err (load.Disk fault)) = None
bad_slot_in (Err (load.BadStore slot)) = Some slot

-- what a loading of a store led to: after it the bytes that were read are the only image, were an image before, and show the rows; refused, the rows are those of before
pub record LoadsStore {T : Type 0} (result : Result T LoadFault) (old new : KeyStore) (s t : DiskState) : Type 0 where
  -- a sync and a read
  pub calls : DeviceCalls 2 s t (load_fault result)
  pub image : Shrinks s t
  pub content : KeepsContent s t
  pub in_step : OnOk result (IsInStep t new.bytes)
  pub shows : OnOk result (IfSome new.bytes (λ bytes. rows_of bytes ≡ Some new.rows))
  pub was_image : OnOk result (IfSome new.bytes (λ bytes. IfSome s.content (λ _. s.image bytes)))
  -- the slot is the lowest bad one of each image
  pub bad : IfSome (bad_slot_in result) (λ slot. EachImage t (λ bytes. bad_slot bytes ≡ Some slot))
  pub kept : OnErr result (new.rows ≡ old.rows)
  pub unsettled : OnErr result (new.bytes ≡ None)
