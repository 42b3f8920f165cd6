-- A write that a disk does not hand on to the disk inside.
use Rattle.std.proofs.Common.{◌≡◌, ℕ, ◌+◌, ◌≤◌, Bool, List, length, Result, Option, Some, None, refl, sym, subst, arith}
use Rattle.std.specs.Prelude.{IsErrAnd, IfSome}
use Rattle.disk_core.specs.DiskStates.{DiskState, IsDiskState, TornWithin}
use Rattle.disk_core.specs.Disks.{Writes, fault_in}
use Rattle.disk_core.specs.FlakyDisks.{FlakyState, flaky_state}
use Rattle.disk_core.specs.declared.disk.DiskError.{DiskError}
use Rattle.disk_core.specs.declared.disk.TheConstants.{DISK_BYTES}
use Rattle.disk_core.proofs.MemorySteps.{fault_is, moved}
use Rattle.disk_core.proofs.SpliceLemmas.{TornWithin-same}
use Rattle.disk_core.proofs.ToldLemmas.{from_some}

told_twice : {X : Type 0} (o : Option X) (P : X → X → Type 0) → ((x : X) → o ≡ Some x → P x x) → IfSome o (λ x. IfSome o (λ y. P x y))
told_twice None P each = tt
told_twice (Some x) P each = each x refl

module _ {D : Type 0} (state : D → DiskState) (laws : (d : D) → IsDiskState (state d)) (at : ℕ) (bytes : List ℕ) (fits : at + length bytes ≤ DISK_BYTES) where
  torn : (d : D) (c : List ℕ) → (state d).image c → TornWithin at (length bytes) c c
  torn d c image = TornWithin-same c at (length bytes) (omega (arith, (laws d).sized c image, fits))

  unwritten : (d : D) (e : DiskError) (n m : ℕ) (last now : Bool)
      → Writes at bytes (record (state d) { faults = n; failed = last; armed = None }) (record (state d) { faults = m; failed = now; armed = None }) (Some e)
  unwritten d e n m last now = record {
    image = λ c image. (c, image, torn d c image);
    image_off = λ off c image. image;
    written = λ none. absurd (cc);
    failed = λ is. told_twice (state d).content (TornWithin at (length bytes)) (λ b told. torn d b (from_some (state d).content (state d).image b told (laws d).told));
  }

  pub refused_write : {T : Type 0} (f g : FlakyState D) (r : Result T DiskError) (e : DiskError)
      → IsErrAnd r (λ x. x ≡ e) → g.inner ≡ f.inner → Writes at bytes (flaky_state state f) (flaky_state state g) (fault_in r)
  refused_write f g r e is same =
      let after : D → DiskState = λ d. flaky_state state (record g { inner = d }) in
      moved (Writes at bytes (flaky_state state f) (flaky_state state g)) (fault_in r) (Some e) (fault_is r e is)
      (subst (λ (d : D). Writes at bytes (flaky_state state f) (after d) (Some e)) (sym same)
      (unwritten f.inner e (flaky_state state f).faults (after f.inner).faults (flaky_state state f).failed (after f.inner).failed))
