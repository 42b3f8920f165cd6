-- Bytes that a replacement left torn, on a disk of 12352 bytes, pass the test of torn bytes.
use Rattle.disk_core.specs.DiskStates.{splice}
use Rattle.flat_machine.proofs.BoolLemmas.{or_left, or_right}
use Rattle.key_record.specs.Records.{spelled}
use Rattle.key_table.specs.Changes.{Change}
use Rattle.key_table.specs.KeyStores.{changed_bytes}
use Rattle.key_table.specs.StoredRows.{put_bytes}
use Rattle.nv_store.specs.Cells.{IsTorn, is_torn, place_of, spare, staged}
use Rattle.std.proofs.Common.{ap, arith, inl, inr, refl, sym, ◌∙◌}
use Rattle.std.proofs.lemmas.List.{length-append, length-drop, length-take}
use Rattle.std.proofs.lemmas.Slice.Eq.{bytes_eq-Decides}
use Rattle.std.specs.Prelude.{IsTrue, List, [], bytes_eq, drop, length, min, slice_range, take, ℕ, ◌++◌, ◌+◌, ◌-◌, ◌||◌, ◌∷◌, ◌≡◌, ◌≤◌}

length-splice : (b : List ℕ) (at : ℕ) (part : List ℕ) → length (splice b at part) ≡ min at (length b) + length part + (length b - (at + length part))
length-splice b at part = omega (arith, length-append (take at b ++ part) (drop (at + length part) b), length-append (take at b) part, length-drop (at + length part) b, length-take at b)

-- no bytes are lost
no_shorter : (b : List ℕ) (at : ℕ) (part : List ℕ) → length b ≤ length (splice b at part)
no_shorter b at part = omega (arith, length-splice b at part)

-- a part that leaves the length stands within
part_fits : (b : List ℕ) (at size : ℕ) (part : List ℕ) → size ≤ length b → 1 ≤ length part → length (splice b at part) ≡ size → at + length part ≤ length b
part_fits b at size part long some same = omega (arith, length-splice b at part, long, some, same)

pub changed_no_shorter : (todo : List Change) (b : List ℕ) → length b ≤ length (changed_bytes todo b)
changed_no_shorter [] b = omega arith
changed_no_shorter (c ∷ todo) b =
    let half = place_of c.slot (spare b c.slot) in
    omega (arith, no_shorter b half (spelled c.row), no_shorter (staged b c.slot (spelled c.row)) c.slot (spare b c.slot ∷ []), changed_no_shorter todo (put_bytes b c.slot c.row))

-- where a part stands in a list
abbrev pub Range : Type 0
Range = (b : List ℕ) (at : ℕ) (part : List ℕ) → at + length part ≤ length b → (k : ℕ) → k ≡ at + length part → slice_range (splice b at part) at k ≡ part

module _ (range : Range) (b : List ℕ) (slot : ℕ) (cell torn : List ℕ) (long : 12352 ≤ length b) (size : length torn ≡ 12352) where
  abbrev half : ℕ
  half = place_of slot (spare b slot)

  -- with the half of the torn bytes
  abbrev by_half : List ℕ
  by_half = splice b half (slice_range torn half (half + 96))

  -- with the selector of the torn bytes
  abbrev by_selector : List ℕ
  by_selector = splice (staged b slot cell) slot (slice_range torn slot (slot + 1))

  is_torn-is : is_torn b slot cell torn ≡ (bytes_eq torn by_half || bytes_eq torn by_selector)
  unfolding is_torn
  is_torn-is = refl

  pub torn_told : IsTorn b slot cell torn → IsTrue (is_torn b slot cell torn)
  torn_told (inl within) =
      let fits : half + length within.part ≤ length b = part_fits b half 12352 within.part long (omega (arith, within.size)) (ap (λ (l : List ℕ). length l) (sym within.whole) ∙ size) in
      let same : slice_range torn half (half + 96) ≡ within.part = ap (λ (l : List ℕ). slice_range l half (half + 96)) within.whole ∙ range b half within.part fits (half + 96) (omega (arith, within.size)) in
      is_torn-is ∙ or_left (bytes_eq torn by_half) (bytes_eq torn by_selector) ((bytes_eq-Decides torn by_half).1 (within.whole ∙ ap (λ (l : List ℕ). splice b half l) (sym same)))
  torn_told (inr chosen) =
      let staged_long : 12352 ≤ length (staged b slot cell) = omega (arith, long, no_shorter b half cell) in
      let fits : slot + 1 ≤ length (staged b slot cell) = part_fits (staged b slot cell) slot 12352 (chosen.0 ∷ []) staged_long (omega arith) (ap (λ (l : List ℕ). length l) (sym chosen.1) ∙ size) in
      let same : slice_range torn slot (slot + 1) ≡ chosen.0 ∷ [] = ap (λ (l : List ℕ). slice_range l slot (slot + 1)) chosen.1 ∙ range (staged b slot cell) slot (chosen.0 ∷ []) fits (slot + 1) (omega arith) in
      is_torn-is ∙ or_right (bytes_eq torn by_half) (bytes_eq torn by_selector) ((bytes_eq-Decides torn by_selector).1 (chosen.1 ∙ ap (λ (l : List ℕ). splice (staged b slot cell) slot l) (sym same)))
