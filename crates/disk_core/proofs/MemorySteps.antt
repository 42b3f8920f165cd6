-- The calls of a disk in memory, as steps of a disk.
use Rattle.std.proofs.Common.{◌≡◌, ℕ, ◌+◌, ◌≤◌, Bool, true, false, List, [], ◌∷◌, length, Result, Ok, Err, Option, Some, None, replicate, refl, sym, ◌∙◌, ap, subst, arith}
use Rattle.disk_core.specs.declared.disk.DiskError.{DiskError}
use Rattle.disk_core.specs.declared.disk.DiskError.TheVariants.{Failed, Off}
use Rattle.disk_core.specs.declared.disk.Keep.{Keep}
use Rattle.disk_core.specs.DiskStates.{Arming, DiskState, IsOnlyImage, TornWithin, splice}
use Rattle.disk_core.specs.Disks.{DeviceCalls, Reads, Syncs, Writes, fault_in, is_cut}
use Rattle.std.specs.Option.{option_map}
use Rattle.std.specs.Prelude.{IsErrAnd, IfSome, slice_range}
use Rattle.disk_core.proofs.ToldLemmas.{from_some, if_some}
use Rattle.disk_core.proofs.SpliceLemmas.{TornWithin-same}
use Rattle.disk_core.specs.DiskMemories.{IsCrashImage, IsSettledBy}
use Rattle.disk_core.proofs.CrashImages.{image_written, image_settled}

-- the state of a disk in memory, by its parts
abbrev pub state_of_parts : List ℕ → List Bool → ℕ → ℕ → Bool → Bool → Option Arming → DiskState
state_of_parts bytes dirty faults cuts failed off armed = record {
  content = Some bytes;
  image = IsCrashImage bytes dirty;
  faults = faults;
  cuts = cuts;
  failed = failed;
  off = off;
  armed = Some armed;
}

module _ (bytes part : List ℕ) (dirty : List Bool) (at : ℕ) (fits : at + length part ≤ length bytes) (long : length dirty ≡ length bytes) (f f' k k' : ℕ) (l l' : Bool) (a a' : Option Arming) where
  fits_dirty : at + length part ≤ length dirty
  fits_dirty = omega (arith, long)

  -- nothing is written
  pub unwritten : (o o' : Bool) (e : DiskError) → Writes at part (state_of_parts bytes dirty f k l o a) (state_of_parts bytes dirty f' k' l' o' a') (Some e)
  unwritten o o' e = record {
    image = λ c image. (c, image, TornWithin-same c at (length part) (omega (arith, image.size)));
    image_off = λ off c image. image;
    written = λ none. absurd (cc);
    failed = λ is. TornWithin-same bytes at (length part) fits;
  }

  images : (bytes' : List ℕ) (dirty' : List Bool) → bytes' ≡ splice bytes at part → dirty' ≡ splice dirty at (replicate (length part) true)
      → (c : List ℕ) → IsCrashImage bytes' dirty' c → (b : List ℕ) × IsCrashImage bytes dirty b × TornWithin at (length part) b c
  images bytes' dirty' is_bytes is_dirty c image =
      image_written bytes part dirty at fits fits_dirty c (subst (λ (l : List ℕ). IsCrashImage l (splice dirty at (replicate (length part) true)) c) is_bytes (subst (λ (m : List Bool). IsCrashImage bytes' m c) is_dirty image))

  pub written : (o o' : Bool) (bytes' : List ℕ) (dirty' : List Bool) → o ≡ false → bytes' ≡ splice bytes at part → dirty' ≡ splice dirty at (replicate (length part) true)
      → Writes at part (state_of_parts bytes dirty f k l o a) (state_of_parts bytes' dirty' f' k' l' o' a') None
  written o o' bytes' dirty' on is_bytes is_dirty = record {
    image = images bytes' dirty' is_bytes is_dirty;
    image_off = λ off. absurd (let e : true ≡ false = sym off ∙ on in cc);
    written = λ none. ap (λ (l : List ℕ). Some l) is_bytes;
    failed = λ is. absurd (cc);
  }

  -- a cut in a write
  pub cut : (o o' : Bool) (keep : Keep) (old bytes' after : List ℕ) (dirty' dirty'' : List Bool) → o ≡ false → bytes' ≡ splice bytes at part → dirty' ≡ splice dirty at (replicate (length part) true)
      → length dirty' ≡ length bytes' → length after ≡ length bytes' → IsSettledBy keep old bytes' dirty' after → dirty'' ≡ replicate (length dirty') false
      → Writes at part (state_of_parts bytes dirty f k l o a) (state_of_parts after dirty'' f' k' l' o' a') (Some Off)
  cut o o' keep old bytes' after dirty' dirty'' on is_bytes is_dirty long_dirty long_after settled clean = record {
    image = λ c image. images bytes' dirty' is_bytes is_dirty c (image_settled keep old bytes' after dirty' dirty'' c long_dirty long_after clean settled image);
    image_off = λ off. absurd (let e : true ≡ false = sym off ∙ on in cc);
    written = λ none. absurd (cc);
    failed = λ is. absurd (cc);
  }

no_bytes : (xs : List ℕ) → length xs ≡ 0 → xs ≡ []
no_bytes [] is = refl
no_bytes (x ∷ xs) is = absurd (omega (arith, is))

same_torn : (b c : List ℕ) → TornWithin 0 0 b c → c ≡ b
same_torn b c none = none.whole ∙ ap (λ (l : List ℕ). splice b 0 l) (no_bytes none.part none.size)

pub fault_is : {T : Type 0} (r : Result T DiskError) (e : DiskError) → IsErrAnd r (λ x. x ≡ e) → fault_in r ≡ Some e
fault_is (Ok x) e h = absurd h
fault_is (Err x) e h = ap (λ (d : DiskError). Some d) h

-- a call that writes nothing
module _ (s t : DiskState) (b c : List ℕ) (told : s.content ≡ Some b) (told' : t.content ≡ Some c) (fault : Option DiskError) (calls : DeviceCalls 1 s t fault) (step : Writes 0 [] s t fault) where
  pub shrinks : (d : List ℕ) → t.image d → s.image d
  shrinks d image = let from = step.image d image in subst s.image (sym (same_torn from.0 d from.2)) from.1

  pub keeps : t.off ≡ false → t.content ≡ s.content
  keeps on = by_fault fault step (sym calls.now_off ∙ on)
    where
      by_fault : (e : Option DiskError) → Writes 0 [] s t e → is_cut e ≡ false → t.content ≡ s.content
      by_fault None w cut_is = let e : t.content ≡ Some b = w.written refl ∙ ap (λ (o : Option (List ℕ)). option_map (λ x. splice x 0 []) o) told in e ∙ sym told
      by_fault (Some Failed) w cut_is =
          let inner = from_some s.content (λ x. IfSome t.content (λ y. TornWithin 0 0 x y)) b told (w.failed refl) in
          told' ∙ ap (λ (l : List ℕ). Some l) (same_torn b c (from_some t.content (λ y. TornWithin 0 0 b y) c told' inner)) ∙ sym told
      by_fault (Some Off) w cut_is = absurd (cc)

  pub read_failed : (at : ℕ) (bytes : List ℕ) → (fault ≡ None → ⊥) → Reads at bytes s t fault
  read_failed at bytes is_fault = record { content = keeps; image = shrinks; given = λ none. absurd (is_fault none) }

  pub read_given : (at : ℕ) (bytes : List ℕ) → bytes ≡ slice_range c at (at + length bytes) → Reads at bytes s t fault
  read_given at bytes is = record {
    content = keeps;
    image = shrinks;
    given = λ none. let P : Option (List ℕ) → Type 0 = λ o. IfSome o (λ x. bytes ≡ slice_range x at (at + length bytes)) in subst P (sym told' ∙ keeps (calls.now_off ∙ ap (λ (e : Option DiskError). is_cut e) none)) is;
  }

  pub sync_failed : (fault ≡ None → ⊥) → Syncs s t fault
  sync_failed is_fault = record { content = keeps; image = shrinks; durable = λ none. absurd (is_fault none) }

  pub synced : (u : DiskState) → fault ≡ None → u.off ≡ t.off → u.content ≡ t.content → ((d : List ℕ) → u.image d → t.image d) → IsOnlyImage c u → Syncs s u None
  synced u none same_off same image only = record {
    content = λ on. same ∙ keeps (sym same_off ∙ on);
    image = λ d left. shrinks d (image d left);
    durable = λ _. if_some s.content (λ x. IsOnlyImage x u) (λ x is. let P : List ℕ → Type 0 = λ l. IsOnlyImage l u in subst P (same_value x is) only);
  }
    where
      same_value : (x : List ℕ) → s.content ≡ Some x → c ≡ x
      same_value x is = let k : t.content ≡ s.content = keeps (calls.now_off ∙ ap (λ (e : Option DiskError). is_cut e) none) in let e : Some c ≡ Some x = sym told' ∙ k ∙ is in cc

pub moved : {X : Type 0} (P : X → Type 0) (x y : X) → x ≡ y → P y → P x
moved P x y is holds = subst P (sym is) holds
