-- A list with other elements at a place.
use Rattle.std.proofs.Common.{◌≡◌, ◌⊎◌, inl, inr, ⊎_elim, ℕ, ◌+◌, ◌-◌, ◌≤◌, ◌<◌, List, ◌++◌, length, take, drop, get_or, sym, ◌∙◌, ap, arith, append_assoc}
use Rattle.std.specs.Prelude.{slice_range}
use Rattle.std.proofs.lemmas.List.{length-take-le, length-append, length-drop, get_or-take, get_or-drop, get_or_append_left, get_or-append_right, take-append-drop, drop-drop, ext_get_or, drop_at, take_at}
use Rattle.std.proofs.lemmas.Bool.{cases_lt}
use Rattle.disk_core.specs.DiskStates.{TornWithin, splice}

module _ {X : Type 0} (b : List X) (at : ℕ) (part : List X) (fits : at + length part ≤ length b) where
  pub front : length (take at b) ≡ at
  front = length-take-le at b (omega arith)

  front_part : length (take at b ++ part) ≡ at + length part
  front_part = omega (arith, length-append (take at b) part, front)

  pub length-splice : length (splice b at part) ≡ length b
  length-splice = omega (arith, length-append (take at b ++ part) (drop (at + length part) b), front_part, length-drop (at + length part) b)

  pub get_or-splice_below : (i : ℕ) (d : X) → i < at → get_or (splice b at part) i d ≡ get_or b i d
  get_or-splice_below i d lt =
      get_or_append_left (take at b ++ part) (drop (at + length part) b) d i (omega (arith, front_part))
      ∙ get_or_append_left (take at b) part d i (omega (arith, front))
      ∙ get_or-take at b i d lt

  pub get_or-splice_in : (i : ℕ) (d : X) → at ≤ i → i < at + length part → get_or (splice b at part) i d ≡ get_or part (i - at) d
  get_or-splice_in i d le lt =
      get_or_append_left (take at b ++ part) (drop (at + length part) b) d i (omega (arith, front_part))
      ∙ get_or-append_right (take at b) part at i d front le

  pub get_or-splice_above : (i : ℕ) (d : X) → at + length part ≤ i → get_or (splice b at part) i d ≡ get_or b i d
  get_or-splice_above i d le =
      let same : at + length part + (i - (at + length part)) ≡ i = omega arith in
      get_or-append_right (take at b ++ part) (drop (at + length part) b) (at + length part) i d front_part le
      ∙ get_or-drop (at + length part) b (i - (at + length part)) d
      ∙ ap (λ (n : ℕ). get_or b n d) same

-- b's own bytes put back in the range are b
pub splice_own : (b : List ℕ) (at n : ℕ) → at + n ≤ length b → splice b at (slice_range b at (at + n)) ≡ b
splice_own b at n fits =
    let e : at + n - at ≡ n = omega arith in
    let long : length (slice_range b at (at + n)) ≡ n = omega (arith, length-take-le (at + n - at) (drop at b) (omega (arith, length-drop at b))) in
    append_assoc (take at b) (slice_range b at (at + n)) (drop (at + length (slice_range b at (at + n))) b)
    ∙ ap (λ (k : ℕ). take at b ++ (slice_range b at (at + n) ++ drop (at + k) b)) long
    ∙ ap (λ (k : ℕ). take at b ++ (take k (drop at b) ++ drop (at + n) b)) e
    ∙ ap (λ (l : List ℕ). take at b ++ (take n (drop at b) ++ l)) (sym (drop-drop n at b))
    ∙ ap (λ (l : List ℕ). take at b ++ l) (take-append-drop n (drop at b))
    ∙ take-append-drop at b

-- a list is itself, torn
pub TornWithin-same : (b : List ℕ) (at n : ℕ) → at + n ≤ length b → TornWithin at n b b
TornWithin-same b at n fits = record {
  part = slice_range b at (at + n);
  size = let e : at + n - at ≡ n = omega arith in omega (arith, length-take-le (at + n - at) (drop at b) (omega (arith, length-drop at b)));
  whole = sym (splice_own b at n fits);
}

-- what agrees outside the range is torn within it
pub TornWithin-outside : (b c : List ℕ) (at n : ℕ) → at + n ≤ length b → length c ≡ length b → ((i : ℕ) → (i < at) ⊎ (at + n ≤ i) → get_or c i 0 ≡ get_or b i 0) → TornWithin at n b c
TornWithin-outside b c at n fits long same =
    let own = TornWithin-same c at n (omega arith) in
    record {
      part = own.part;
      size = own.size;
      whole = own.whole ∙ trimmed own.part own.size;
    }
  where
    trimmed : (part : List ℕ) → length part ≡ n → splice c at part ≡ splice b at part
    trimmed part size = ext_get_or 0 (splice c at part) (splice b at part) (length-splice c at part fits_c ∙ long ∙ sym (length-splice b at part fits_b)) each
      where
        fits_b : at + length part ≤ length b
        fits_b = omega (arith, size)

        fits_c : at + length part ≤ length c
        fits_c = omega (arith, size)

        each : (i : ℕ) → i < length (splice c at part) → get_or (splice c at part) i 0 ≡ get_or (splice b at part) i 0
        each i lt = ⊎_elim
            (λ below. get_or-splice_below c at part fits_c i 0 below ∙ same i (inl below) ∙ sym (get_or-splice_below b at part fits_b i 0 below))
            (λ le. ⊎_elim
            (λ inside. get_or-splice_in c at part fits_c i 0 le inside ∙ sym (get_or-splice_in b at part fits_b i 0 le inside))
            (λ above. get_or-splice_above c at part fits_c i 0 above ∙ same i (inr (omega (arith, size))) ∙ sym (get_or-splice_above b at part fits_b i 0 above))
            (cases_lt i (at + length part)))
            (cases_lt i at)

-- a range of a list, element by element
pub get_or-slice_range : {X : Type 0} (xs : List X) (i k m : ℕ) (d : X) → m < k - i → get_or (slice_range xs i k) m d ≡ get_or xs (i + m) d
get_or-slice_range xs i k m d lt = get_or-take (k - i) (drop i xs) m d lt ∙ get_or-drop i xs m d

pub length-slice_range : {X : Type 0} (xs : List X) (i k : ℕ) → i ≤ k → k ≤ length xs → length (slice_range xs i k) ≡ k - i
length-slice_range xs i k le fits = length-take-le (k - i) (drop i xs) (omega (arith, length-drop i xs))

module _ (b : List ℕ) (at : ℕ) (part : List ℕ) (fits : at + length part ≤ length b) where
  -- a range that the part does not touch
  pub slice_range-splice_apart : (i k : ℕ) → i ≤ k → k ≤ length b → (k ≤ at) ⊎ (at + length part ≤ i) → slice_range (splice b at part) i k ≡ slice_range b i k
  slice_range-splice_apart i k le within apart = ext_get_or 0 (slice_range (splice b at part) i k) (slice_range b i k) (long ∙ sym (length-slice_range b i k le within)) each
    where
      long : length (slice_range (splice b at part) i k) ≡ k - i
      long = length-slice_range (splice b at part) i k le (omega (arith, length-splice b at part fits))

      at_place : (m : ℕ) → m < k - i → get_or (splice b at part) (i + m) 0 ≡ get_or b (i + m) 0
      at_place m lt = ⊎_elim (λ below. get_or-splice_below b at part fits (i + m) 0 (omega arith)) (λ above. get_or-splice_above b at part fits (i + m) 0 (omega arith)) apart

      each : (m : ℕ) → m < length (slice_range (splice b at part) i k) → get_or (slice_range (splice b at part) i k) m 0 ≡ get_or (slice_range b i k) m 0
      each m lt = let lt' : m < k - i = omega (arith, long) in get_or-slice_range (splice b at part) i k m 0 lt' ∙ at_place m lt' ∙ sym (get_or-slice_range b i k m 0 lt')

  -- the part itself
  pub slice_range-splice : (k : ℕ) → k ≡ at + length part → slice_range (splice b at part) at k ≡ part
  slice_range-splice k is =
      let e : k - at ≡ length part = omega arith in
      ap (λ (l : List ℕ). take (k - at) (drop at l)) (append_assoc (take at b) part (drop (at + length part) b))
      ∙ ap (λ (l : List ℕ). take (k - at) l) (drop_at (take at b) (part ++ drop (at + length part) b) at (front b at part fits))
      ∙ take_at part (drop (at + length part) b) (k - at) (sym e)

pub length-TornWithin : (b c : List ℕ) (at n : ℕ) → at + n ≤ length b → TornWithin at n b c → length c ≡ length b
length-TornWithin b c at n fits torn = ap (λ (l : List ℕ). length l) torn.whole ∙ length-splice b at torn.part (omega (arith, torn.size))
