-- What a crash leaves of a disk in memory.
use Rattle.std.proofs.Common.{◌≡◌, ◌⊎◌, inl, inr, ⊎_elim, ℕ, ◌+◌, ◌-◌, ◌≤◌, ◌<◌, Bool, true, false, List, length, get_or, replicate, drop, refl, sym, ◌∙◌, ap, arith}
use Rattle.std.specs.Prelude.{slice_range}
use Rattle.std.proofs.lemmas.List.{length-take-le, length-drop, get_or-take, get_or-drop, get_or-replicate, length-replicate, get_or_past, ext_get_or}
use Rattle.std.proofs.lemmas.Bool.{cases_lt}
use Rattle.disk_core.specs.DiskStates.{TornWithin, splice}
use Rattle.disk_core.specs.declared.disk.Keep.{Keep}
use Rattle.disk_core.proofs.SpliceLemmas.{length-splice, get_or-splice_below, get_or-splice_in, get_or-splice_above, TornWithin-outside}
use Rattle.disk_core.specs.DiskMemories.{IsClean, IsCrashImage, IsSettledBy, settled_byte}

pub image_wider : (bytes bytes' : List ℕ) (dirty dirty' : List Bool) (c : List ℕ) → length bytes' ≡ length bytes → ((i : ℕ) → IsClean dirty i → IsClean dirty' i × (get_or bytes' i 0 ≡ get_or bytes i 0)) → IsCrashImage bytes' dirty' c → IsCrashImage bytes dirty c
image_wider bytes bytes' dirty dirty' c long wider image = record {
  size = image.size ∙ long;
  same = λ i clean. image.same i (wider i clean).0 ∙ (wider i clean).1;
}

-- a clean place is within the list
clean_below : (dirty : List Bool) (i : ℕ) → IsClean dirty i → i < length dirty
clean_below dirty i clean = ⊎_elim (λ lt. lt) (λ past. absurd (let t : true ≡ false = sym (get_or_past dirty i true past) ∙ clean in cc)) (cases_lt i (length dirty))

-- a cut leaves what a crash could leave before
settled_same : (keep : Keep) (d : Bool) (old new : ℕ) → d ≡ false → settled_byte keep d old new ≡ new
settled_same keep d old new is = ap (λ (b : Bool). settled_byte keep b old new) is

pub image_settled : (keep : Keep) (old new after : List ℕ) (dirty dirty' : List Bool) (c : List ℕ) → length dirty ≡ length new → length after ≡ length new → dirty' ≡ replicate (length dirty) false → IsSettledBy keep old new dirty after → IsCrashImage after dirty' c → IsCrashImage new dirty c
image_settled keep old new after dirty dirty' c long_dirty long is settled = image_wider new after dirty dirty' c long (λ i clean.
    let lt : i < length dirty = clean_below dirty i clean in (
      ap (λ (l : List Bool). get_or l i true) is ∙ get_or-replicate (length dirty) i false true lt,
      settled i (omega (arith, lt)) ∙ settled_same keep (get_or dirty i true) (get_or old i 0) (get_or new i 0) clean,
    ))

module _ (bytes part : List ℕ) (dirty : List Bool) (at : ℕ) (fits : at + length part ≤ length bytes) (fits_dirty : at + length part ≤ length dirty) where
  abbrev marked : List Bool
  marked = splice dirty at (replicate (length part) true)

  fits_marks : at + length (replicate (length part) true) ≤ length dirty
  fits_marks = omega (arith, length-replicate (length part) true)

  -- what was there before is there outside the range
  abbrev before : List ℕ → List ℕ
  before c = splice c at (slice_range bytes at (at + length part))

  own_size : length (slice_range bytes at (at + length part)) ≡ length part
  own_size = omega (arith, length-take-le (at + length part - at) (drop at bytes) (omega (arith, length-drop at bytes)))

  pub image_written : (c : List ℕ) → IsCrashImage (splice bytes at part) marked c → (b : List ℕ) × IsCrashImage bytes dirty b × TornWithin at (length part) b c
  image_written c image = (
    before c,
    record { size = long_before ∙ long; same = same },
    TornWithin-outside (before c) c at (length part) (omega (arith, long_before, long)) (sym long_before) outside,
  )
    where
      long : length c ≡ length bytes
      long = image.size ∙ length-splice bytes at part fits

      fits_own : at + length (slice_range bytes at (at + length part)) ≤ length c
      fits_own = omega (arith, long, own_size)

      long_before : length (before c) ≡ length c
      long_before = length-splice c at (slice_range bytes at (at + length part)) fits_own

      below : (i : ℕ) → i < at → get_or (before c) i 0 ≡ get_or c i 0
      below i lt = get_or-splice_below c at (slice_range bytes at (at + length part)) fits_own i 0 lt

      above : (i : ℕ) → at + length part ≤ i → get_or (before c) i 0 ≡ get_or c i 0
      above i le = get_or-splice_above c at (slice_range bytes at (at + length part)) fits_own i 0 (omega (arith, own_size))

      outside : (i : ℕ) → (i < at) ⊎ (at + length part ≤ i) → get_or c i 0 ≡ get_or (before c) i 0
      outside i (inl lt) = sym (below i lt)
      outside i (inr le) = sym (above i le)

      inside : (i : ℕ) → at ≤ i → i < at + length part → get_or (before c) i 0 ≡ get_or bytes i 0
      inside i le lt =
          let there : at + (i - at) ≡ i = omega arith in
          get_or-splice_in c at (slice_range bytes at (at + length part)) fits_own i 0 le (omega (arith, own_size))
          ∙ get_or-take (at + length part - at) (drop at bytes) (i - at) 0 (omega arith)
          ∙ get_or-drop at bytes (i - at) 0
          ∙ ap (λ (k : ℕ). get_or bytes k 0) there

      same : (i : ℕ) → IsClean dirty i → get_or (before c) i 0 ≡ get_or bytes i 0
      same i clean = ⊎_elim
          (λ lt. below i lt ∙ image.same i (get_or-splice_below dirty at (replicate (length part) true) fits_marks i true lt ∙ clean) ∙ get_or-splice_below bytes at part fits i 0 lt)
          (λ le. ⊎_elim
          (λ lt. inside i le lt)
          (λ past. above i past ∙ image.same i (get_or-splice_above dirty at (replicate (length part) true) fits_marks i true (omega (arith, length-replicate (length part) true)) ∙ clean) ∙ get_or-splice_above bytes at part fits i 0 past)
          (cases_lt i (at + length part)))
          (cases_lt i at)

-- where nothing is unsynced a crash leaves what is there
pub only_clean : (bytes : List ℕ) (dirty : List Bool) (n : ℕ) → dirty ≡ replicate n false → n ≡ length bytes → (c : List ℕ) → IsCrashImage bytes dirty c → c ≡ bytes
only_clean bytes dirty n is long c image = ext_get_or 0 c bytes image.size (λ i lt. image.same i (ap (λ (l : List Bool). get_or l i true) is ∙ get_or-replicate n i false true (omega (arith, long, image.size, lt))))

pub clean_wider : (bytes : List ℕ) (dirty dirty' : List Bool) (c : List ℕ) → dirty' ≡ replicate (length dirty) false → IsCrashImage bytes dirty' c → IsCrashImage bytes dirty c
clean_wider bytes dirty dirty' c is = image_wider bytes bytes dirty dirty' c refl (λ i clean. (ap (λ (l : List Bool). get_or l i true) is ∙ get_or-replicate (length dirty) i false true (clean_below dirty i clean), refl))
