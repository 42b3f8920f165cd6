-- One slot of a table over a store, replaced whole or struck.
use Rattle.disk_core.specs.DiskStates.{Arming, DiskState, EachImage, IsDiskState}
use Rattle.disk_core.specs.Disks.{DeviceCalls, ObeysArming, strike_fault, struck_within}
use Rattle.disk_core.specs.declared.disk.DiskError.{DiskError}
use Rattle.disk_core.specs.declared.disk.DiskError.TheVariants.{Off}
use Rattle.key_record.specs.Records.{IsRow, spelled}
use Rattle.key_table.proofs.PutLemmas.{found_below, is_table-emptied, is_table-put, slot_for-slot_of}
use Rattle.key_table.proofs.TableLemmas.{SlotRow, table_from}
use Rattle.key_attributes.specs.declared.KeyRow.{KeyRow}
use Rattle.key_table.specs.KeyRows.{KeyRows, find_key, put_row, slot_for, slot_of, with_row}
use Rattle.key_table.specs.KeyStores.{MakesChanges}
use Rattle.key_table.specs.StoredRows.{ShowsOldOrNew, put_bytes, rows_of}
use Rattle.key_table.specs.Tables.{is_table}
use Rattle.nv_store.specs.Cells.{IsTorn}
use Rattle.nv_store.specs.Stores.{IsInStep}
use Rattle.std.proofs.Common.{ap, arith, subst, sym, ◌∙◌}
use Rattle.std.proofs.lemmas.Bool.Decides.{nat_tests}
use Rattle.std.specs.Option.{option_map}
use Rattle.std.specs.Prelude.{Bool, IfSome, IsTrue, List, None, Option, Some, [], false, if◌then◌else◌, length, nat_le, refl, true, ℕ, ◌<◌, ◌∷◌, ◌≡◌, ◌≤◌}

-- a call that did not answer Off found the disk on

on_if : (b : Bool) → (b ≡ true → ◌≡◌ {A = Option DiskError} None (Some Off)) → b ≡ false
on_if true off = let e = off refl in cc
on_if false off = refl

-- what was not struck

unstruck : (n : ℕ) (a b : Option (Option Arming)) → ObeysArming n a b None → IfSome a (λ x. struck_within n x ≡ None)
unstruck n None b obeys = tt
unstruck n (Some x) b obeys = sym obeys.1

pub unstruck-calls : (n : ℕ) (s t : DiskState) → DeviceCalls n s t None → IfSome s.armed (λ armed. struck_within n armed ≡ None)
unstruck-calls n s t calls = unstruck n s.armed t.armed (calls.armed (on_if s.off calls.was_off))

later : (n : ℕ) → 1 ≤ n → nat_le n 0 ≡ false
later n le = grind (arith, nat_tests)

unstruck_none : (o : Option (Option Arming)) → ((a : Arming) → o ≡ Some (Some a) → 1 ≤ a.0) → IfSome o (λ armed. struck_within 0 armed ≡ None)
unstruck_none None first = tt
unstruck_none (Some None) first = refl
unstruck_none (Some (Some a)) first = ap (λ (b : Bool). if b then Some (strike_fault a.1) else None) (later a.0 (first a refl))

-- a claim on each image that follows from another one
each_if : {X : Type 0} (o : Option X) (A B : Type 0) → (A → B) → IfSome o (λ _. A) → IfSome o (λ _. B)
each_if None A B f x = tt
each_if (Some c) A B f x = f x

-- what is so of bytes with another row in a slot
pub record ChangeLaws : Type 0 where
  pub size : (bytes : List ℕ) (slot : ℕ) (row : Option KeyRow) → length bytes ≡ 12352 → slot < 64 → IsRow row → length (put_bytes bytes slot row) ≡ 12352
  pub whole : (bytes : List ℕ) (slot : ℕ) (row : Option KeyRow) (rows : KeyRows) → length bytes ≡ 12352 → slot < 64 → IsRow row → rows_of bytes ≡ Some rows → IsTrue (is_table (put_row slot row rows)) → rows_of (put_bytes bytes slot row) ≡ Some (put_row slot row rows)
  pub torn : (bytes torn : List ℕ) (slot : ℕ) (row : Option KeyRow) (rows : KeyRows) → length bytes ≡ 12352 → slot < 64 → IsRow row → rows_of bytes ≡ Some rows → IsTrue (is_table (put_row slot row rows)) → IsTorn bytes slot (spelled row) torn → ShowsOldOrNew (record { slot = slot; row = row }) rows torn

-- the bytes of a store show the rows of its table
abbrev pub Shown : Option (List ℕ) → KeyRows → Type 0
Shown stored rows = IfSome stored (λ bytes. (rows_of bytes ≡ Some rows) × (length bytes ≡ 12352))

-- the slot may get the row
pub record Fitting (slot : ℕ) (row : Option KeyRow) (rows : KeyRows) : Type 0 where
  pub below : slot < 64
  pub valid : IsRow row
  pub table : IsTrue (is_table (put_row slot row rows))

module _ (law : ChangeLaws) (s t : DiskState) (slot : ℕ) (row : Option KeyRow) (rows after : KeyRows) (stored new : Option (List ℕ)) (in_step : IsInStep s stored) (shown : Shown stored rows) (fits : Fitting slot row rows) where
  -- done

  put_shown : (o : Option (List ℕ)) → IsInStep s o → Shown o rows → IfSome o (λ bytes. new ≡ Some (put_bytes bytes slot row)) → after ≡ put_row slot row rows → Shown new after
  put_shown None at has is after_is = absurd at
  put_shown (Some bytes) at has is after_is = subst (λ (o : Option (List ℕ)). Shown o after) (sym is)
      (law.whole bytes slot row rows has.1 fits.below fits.valid has.0 fits.table ∙ ap (λ (l : KeyRows). Some l) (sym after_is), law.size bytes slot row has.1 fits.below fits.valid)

  pub shown_after : IfSome stored (λ bytes. new ≡ Some (put_bytes bytes slot row)) → after ≡ put_row slot row rows → Shown new after
  shown_after is after_is = put_shown stored in_step shown is after_is

  pub change_done : DeviceCalls 4 s t None → IfSome stored (λ bytes. new ≡ Some (put_bytes bytes slot row)) → IsInStep t new → after ≡ put_row slot row rows
      → MakesChanges (record { slot = slot; row = row } ∷ []) 1 None (record { rows = rows; bytes = stored }) (record { rows = after; bytes = new }) s t
  change_done calls is at after_is = record {
    ends = refl;
    calls = calls;
    unstruck = unstruck-calls 4 s t calls;
    rows = after_is;
    bytes = λ e. mapped stored in_step is;
    in_step = λ e. at;
    unsettled = λ e. cc;
    torn = λ e. absurd (none e);
    shows = λ e. absurd (none e);
  }
    where
      none : false ≡ true → ⊥
      none e = cc

      mapped : (o : Option (List ℕ)) → IsInStep s o → IfSome o (λ bytes. new ≡ Some (put_bytes bytes slot row)) → new ≡ option_map (λ bytes. put_bytes bytes slot row) o
      mapped None at is = absurd at
      mapped (Some bytes) at is = is

  -- struck

  torn_shows : (o : Option (List ℕ)) → IsInStep s o → Shown o rows → IfSome o (λ bytes. EachImage t (IsTorn bytes slot (spelled row))) → after ≡ rows → EachImage t (ShowsOldOrNew (record { slot = slot; row = row }) after)
  torn_shows None at has torn after_is = absurd at
  torn_shows (Some bytes) at has torn after_is = each_if t.content ((c : List ℕ) → t.image c → IsTorn bytes slot (spelled row) c) ((c : List ℕ) → t.image c → ShowsOldOrNew (record { slot = slot; row = row }) after c)
      (λ each c left. subst (λ (l : KeyRows). ShowsOldOrNew (record { slot = slot; row = row }) l c) (sym after_is) (law.torn bytes c slot row rows has.1 fits.below fits.valid has.0 fits.table (each c left))) torn

  pub change_struck : (fault : DiskError) → IsDiskState s → DeviceCalls 4 s t (Some fault) → IfSome stored (λ bytes. EachImage t (IsTorn bytes slot (spelled row))) → new ≡ None → after ≡ rows
      → MakesChanges (record { slot = slot; row = row } ∷ []) 0 (Some fault) (record { rows = rows; bytes = stored }) (record { rows = after; bytes = new }) s t
  change_struck fault laws calls torn is after_is = record {
    ends = omega arith;
    calls = calls;
    unstruck = unstruck_none s.armed laws.armed;
    rows = after_is;
    bytes = λ e. absurd (some e);
    in_step = λ e. absurd (some e);
    unsettled = λ e. is;
    torn = λ e. torn;
    shows = λ e. torn_shows stored in_step shown torn after_is;
  }
    where
      some : ◌≡◌ {A = Option DiskError} (Some fault) None → ⊥
      some e = cc

-- the slot of a name

pub slot_for-fits : (rows : KeyRows) (row : KeyRow) (slot : ℕ) → IsTrue (is_table rows) → IsRow (Some row) → slot_for row.name rows ≡ Some slot → Fitting slot (Some row) rows
slot_for-fits rows row slot table valid at = record {
  below = (slot_for-slot_of row.name rows slot (table_from rows table) at).below;
  valid = valid;
  table = subst (λ (o : Option ℕ). IfSome o (λ n. IsTrue (is_table (with_row n row rows)))) at (is_table-put rows row table);
}

pub slot_for-below : (rows : KeyRows) (name : List ℕ) (slot : ℕ) → IsTrue (is_table rows) → slot_for name rows ≡ Some slot → slot < 64
slot_for-below rows name slot table at = (slot_for-slot_of name rows slot (table_from rows table) at).below

pub slot_of-below : (rows : KeyRows) (name : List ℕ) (slot : ℕ) → IsTrue (is_table rows) → slot_of name rows ≡ Some slot → slot < 64
slot_of-below rows name slot table at = by_found (find_key name rows) refl at
  where
    by_found : (o : Option SlotRow) → find_key name rows ≡ o → option_map (λ found. found.0) o ≡ Some slot → slot < 64
    by_found None e is = cc
    by_found (Some found) e is = let same : found.0 ≡ slot = cc in subst (λ (n : ℕ). n < 64) same (found_below name rows found e (table_from rows table))

pub emptied-fits : (rows : KeyRows) (slot : ℕ) → IsTrue (is_table rows) → slot < 64 → Fitting slot None rows
emptied-fits rows slot table below = record { below = below; valid = tt; table = is_table-emptied rows slot table }
