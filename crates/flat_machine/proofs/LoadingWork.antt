-- A loading, as device work.
use Rattle.disk_core.specs.Causes.{Rose}
use Rattle.disk_core.specs.DiskStates.{Arming, DiskState, EachImage, IsOnlyImage, Shrinks}
use Rattle.disk_core.specs.Disks.{DeviceCalls, StartsDisk, failed_after}
use Rattle.disk_core.specs.declared.disk.DiskError.TheVariants as fault
use Rattle.disk_core.specs.declared.disk.DiskError.{DiskError}
use Rattle.flat_machine.proofs.ToldBytes.{each_where, told_always, with_told}
use Rattle.flat_machine.proofs.WordsOfCalls.{due_told, word_cut, word_failed, word_loaded, word_off}
use Rattle.flat_machine.specs.Arms.{Armed, DueArmed, IsSpared, Struck, is_struck}
use Rattle.flat_machine.specs.DiskSteps.{DeviceWork, DueTold, Moved, ReadBy, load_word, word_of}
use Rattle.flat_machine.specs.KeyLayout.{key_layout}
use Rattle.flat_machine.specs.Power.{Loading, Plan, fits_plan}
use Rattle.key_table.specs.KeyRows.{KeyRows}
use Rattle.key_table.specs.KeyStores.{KeyStore, LoadsStore}
use Rattle.key_table.specs.StoredRows.{bad_slot, rows_of}
use Rattle.key_table.specs.declared.LoadFault.TheVariants as load
use Rattle.key_table.specs.declared.LoadFault.{LoadFault}
use Rattle.nv_store.specs.Stores.{HasStable, IsInStep}
use Rattle.pad_steps.specs.declared.steps.DiskWord.TheVariants as word
use Rattle.pad_steps.specs.declared.steps.DiskWord.{DiskWord}
use Rattle.std.proofs.Common.{ap, arith, subst, sym, ◌∙◌}
use Rattle.std.specs.Prelude.{Err, IfSome, IsTrue, List, None, Ok, Option, Result, Some, false, not, refl, true, ℕ, ◌≡◌}

module _ (s t : DiskState) (on : s.off ≡ false) (shrinks : Shrinks s t) where
  loading_due : (o : Option DiskError) (whole : DiskWord) → ((armed : ℕ × Struck) (after : Armed) → IsSpared Loading armed whole after → DueArmed Loading armed whole after) → IsTrue (not (is_struck whole)) → DeviceCalls 2 s t o
      → DueTold Loading s.armed (word_of 0 whole o) t.armed
  loading_due o whole spared calm calls = due_told Loading 2 0 whole spared calm o s.armed t.armed (calls.armed on) (λ e. refl) (λ x is f le. (le, refl))

  loading_fault : (f : DiskError) → DeviceCalls 2 s t (Some f) → DeviceWork key_layout Loading (word_of 0 word.Quiet (Some f)) s t
  loading_fault f calls = record {
    fits = fits f;
    faults = calls.faults;
    cuts = calls.cuts;
    failed = λ e. calls.failed (word_failed 0 word.Quiet (Some f) refl e);
    cut = λ e. calls.cut on (word_cut 0 word.Quiet (Some f) refl e);
    last = λ e. calls.last on ∙ ap (λ (o : Option DiskError). failed_after 2 s.failed o) (word_failed 0 word.Quiet (Some f) refl e);
    off = calls.now_off ∙ word_off 0 word.Quiet (Some f) refl;
    tells = calls.tells;
    due = loading_due (Some f) word.Quiet (λ armed after spared. spared) refl calls;
    moved = told_always t.content ((d : List ℕ) → t.image d → (from : List ℕ) × s.image from × Moved key_layout Loading (word_of 0 word.Quiet (Some f)) from d) (λ d left. (d, shrinks d left, moved f d));
    read = told_always t.content ((d : List ℕ) → t.image d → ReadBy key_layout (word_of 0 word.Quiet (Some f)) d) (λ d left. read f d);
    stable = λ loaded. absurd (word_loaded 0 word.Quiet (Some f) refl loaded);
  }
    where
      fits : (f : DiskError) → IsTrue (fits_plan Loading (word_of 0 word.Quiet (Some f)))
      fits fault.Failed = refl
      fits fault.Off = refl

      moved : (f : DiskError) (d : List ℕ) → Moved key_layout Loading (word_of 0 word.Quiet (Some f)) d d
      moved fault.Failed d = refl
      moved fault.Off d = refl

      read : (f : DiskError) (d : List ℕ) → ReadBy key_layout (word_of 0 word.Quiet (Some f)) d
      read fault.Failed d = tt
      read fault.Off d = tt

  all_same : (b : List ℕ) → HasStable t b → EachImage t (λ d. d ≡ b)
  all_same b stable = with_told t.content t.content (λ c. (c ≡ b) × IsOnlyImage b t) (Unit {0}) ((d : List ℕ) → t.image d → d ≡ b) refl (λ c at _ d left. at.1 d left) stable (told_always t.content (Unit {0}) tt)

  loading_rows : (b : List ℕ) (rows : KeyRows) → DeviceCalls 2 s t None → HasStable t b → rows_of b ≡ Some rows → DeviceWork key_layout Loading (word.Loaded rows) s t
  loading_rows b rows calls stable shown = record {
    fits = refl;
    faults = calls.faults;
    cuts = calls.cuts;
    failed = λ e. absurd (let none : false ≡ true = e in cc);
    last = λ e. absurd (let none : false ≡ true = e in cc);
    cut = λ e. absurd (let none : false ≡ true = e in cc);
    off = calls.now_off;
    tells = calls.tells;
    due = loading_due None (word.Loaded rows) (λ armed after spared. spared) refl calls;
    moved = with_told t.content t.content (λ c. (c ≡ b) × IsOnlyImage b t) (Unit {0}) ((d : List ℕ) → t.image d → (from : List ℕ) × s.image from × Moved key_layout Loading (word.Loaded rows) from d) refl
        (λ c at _ d left. (d, shrinks d left, (d, refl, ap rows_of (at.1 d left) ∙ shown, refl))) stable (told_always t.content (Unit {0}) tt);
    read = each_where t.content (λ d. d ≡ b) (λ d. rows_of d ≡ Some rows) t.image (λ d is. ap rows_of is ∙ shown) (all_same b stable);
    stable = λ loaded. only t.content stable;
  }
    where
      only : (o : Option (List ℕ)) → IfSome o (λ c. (c ≡ b) × IsOnlyImage b t) → IfSome o (λ c. IsOnlyImage c t)
      only None at = tt
      only (Some c) at = λ d left. at.1 d left ∙ sym at.0

  loading_bad : (slot : ℕ) → DeviceCalls 2 s t None → EachImage t (λ d. bad_slot d ≡ Some slot) → DeviceWork key_layout Loading (word.Bad slot) s t
  loading_bad slot calls bad = record {
    fits = refl;
    faults = calls.faults;
    cuts = calls.cuts;
    failed = λ e. absurd (let none : false ≡ true = e in cc);
    last = λ e. absurd (let none : false ≡ true = e in cc);
    cut = λ e. absurd (let none : false ≡ true = e in cc);
    off = calls.now_off;
    tells = calls.tells;
    due = loading_due None (word.Bad slot) (λ armed after spared. spared) refl calls;
    moved = told_always t.content ((d : List ℕ) → t.image d → (from : List ℕ) × s.image from × Moved key_layout Loading (word.Bad slot) from d) (λ d left. (d, shrinks d left, refl));
    read = bad;
    stable = λ loaded. absurd (let none : false ≡ true = loaded in cc);
  }

  rows_by : (stored : Option (List ℕ)) (rows : KeyRows) → DeviceCalls 2 s t None → IsInStep t stored → IfSome stored (λ b. rows_of b ≡ Some rows) → DeviceWork key_layout Loading (word.Loaded rows) s t
  rows_by None rows calls in_step shown = absurd in_step
  rows_by (Some b) rows calls in_step shown = loading_rows b rows calls in_step shown

pub loading_work : {T : Type 0} → (result : Result T LoadFault) (old new : KeyStore) (s t : DiskState) → s.off ≡ false → LoadsStore result old new s t → DeviceWork key_layout Loading (load_word result new.rows) s t
loading_work (Ok x) old new s t on loads = rows_by s t on loads.image new.bytes new.rows loads.calls loads.in_step loads.shows
loading_work (Err (load.Disk f)) old new s t on loads = loading_fault s t on loads.image f loads.calls
loading_work (Err (load.BadStore slot)) old new s t on loads = loading_bad s t on loads.image slot loads.calls loads.bad

-- a disk that was started first
pub started_work : (calls : Plan) (w : DiskWord) (s m t : DiskState) → StartsDisk s m → DeviceWork key_layout calls w m t → DeviceWork key_layout calls w s t
started_work calls w s m t starts work = record {
  fits = work.fits;
  faults = omega (arith, work.faults, starts.counts.faults);
  cuts = omega (arith, work.cuts, starts.counts.cuts);
  failed = λ e. subst (λ (n : ℕ). Rose n t.faults) starts.counts.faults (work.failed e);
  cut = λ e. subst (λ (n : ℕ). Rose n t.cuts) starts.counts.cuts (work.cut e);
  last = work.last;
  off = work.off;
  tells = work.tells ∙ starts.tells;
  due = subst (λ (a : Option (Option Arming)). DueTold calls a w t.armed) starts.armed work.due;
  moved = each_where t.content (λ d. (from : List ℕ) × m.image from × Moved key_layout calls w from d) (λ d. (from : List ℕ) × s.image from × Moved key_layout calls w from d) t.image
      (λ d at. (at.0, starts.image at.0 at.1, at.2)) work.moved;
  read = work.read;
  stable = work.stable;
}
