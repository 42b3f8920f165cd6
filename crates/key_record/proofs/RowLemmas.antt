-- What the fields of a key's record tell.
use Rattle.std.proofs.Common.{◌≡◌, ℕ, ◌+◌, ◌-◌, ◌/◌, ◌%◌, ◌<◌, ◌≤◌, List, [], ◌∷◌, ◌++◌, length, take, drop, get_or, replicate, None, Some, Option, refl, sym, ◌∙◌, ap, arith, append_assoc}
use Rattle.std.proofs.lemmas.List.{take_at, drop_at, length-append, length-drop, length-take, length-replicate, get_or-drop, drop-drop}
use Rattle.std.proofs.Common.{Bool, ◌&&◌}
use Rattle.std.specs.Prelude.{IsTrue, nat_le, nat_lt, slice_index}
use Rattle.std.proofs.lemmas.Bool.Decides.{nat_tests}
use Rattle.byteorder.specs.Endian.{big_number}
use Rattle.key_attributes.specs.declared.KeyRow.{KeyRow}
use Rattle.pad_words.specs.KeyLengths.{is_key_length}
use Rattle.key_record.specs.Records.{IsRow, padded, row_in, spelled}

name_fits : (n : ℕ) (b : Bool) → IsTrue (nat_le 1 n && nat_le n 32 && b) → n ≤ 32
name_fits n b h = grind (arith, nat_tests)

value_fits : (n : ℕ) → IsTrue (is_key_length n) → n ≤ 24
value_fits n h = grind (arith, nat_tests)

uses_fit : (n : ℕ) (b c : Bool) → IsTrue (nat_lt n 2048 && b && c) → n < 2048
uses_fit n b c h = grind (arith, nat_tests)

module _ (row : KeyRow) (name_le : length row.name ≤ 32) where
  abbrev whole : List ℕ
  whole = spelled (Some row)

  abbrev front : List ℕ
  front = (1 ∷ length row.name ∷ []) ++ padded 32 row.name

  abbrev behind : List ℕ
  behind = padded 24 row.value ++ replicate 35 0

  abbrev tail : List ℕ
  tail = row.uses / 256 % 256 ∷ row.uses % 256 ∷ length row.value ∷ behind

  parts : whole ≡ front ++ tail
  parts =
      append_assoc (front ++ (row.uses / 256 % 256 ∷ row.uses % 256 ∷ []) ++ (length row.value ∷ [])) (padded 24 row.value) (replicate 35 0)
      ∙ append_assoc (front ++ (row.uses / 256 % 256 ∷ row.uses % 256 ∷ [])) (length row.value ∷ []) behind
      ∙ append_assoc front (row.uses / 256 % 256 ∷ row.uses % 256 ∷ []) (length row.value ∷ behind)

  drop-whole : drop 34 whole ≡ tail
  drop-whole = ap (λ (l : List ℕ). drop 34 l) parts ∙ drop_at front tail 34 (omega (arith, length-append row.name (replicate (32 - length row.name) 0), length-replicate {A = ℕ} (32 - length row.name) 0))

  at_tail : (i : ℕ) → get_or whole (34 + i) 0 ≡ get_or tail i 0
  at_tail i = sym (get_or-drop 34 whole i 0) ∙ ap (λ (l : List ℕ). get_or l i 0) drop-whole

  name_in : take (length row.name) (drop 2 whole) ≡ row.name
  name_in =
      ap (λ (l : List ℕ). take (length row.name) (drop 2 l)) parts
      ∙ ap (λ (l : List ℕ). take (length row.name) l) (append_assoc row.name (replicate (32 - length row.name) 0) tail)
      ∙ take_at row.name _ (length row.name) refl

  value_in : take (length row.value) (drop 37 whole) ≡ row.value
  value_in =
      ap (λ (l : List ℕ). take (length row.value) l) (sym (drop-drop 3 34 whole) ∙ ap (λ (l : List ℕ). drop 3 l) drop-whole ∙ append_assoc row.value (replicate (24 - length row.value) 0) (replicate 35 0))
      ∙ take_at row.value _ (length row.value) refl

-- the fields of a row's record tell the row
pub row_in-spelled : (row : KeyRow) → IsRow (Some row) → row_in (spelled (Some row)) ≡ row
row_in-spelled row is = λ i. record { name = name_in row fits i; value = value i; uses = uses i }
  where
    fits : length row.name ≤ 32
    fits = name_fits (length row.name) _ is.0

    low : row.uses < 2048
    low = uses_fit row.uses _ _ is.2

    value : take (slice_index (spelled (Some row)) 36) (drop 37 (spelled (Some row))) ≡ row.value
    value = ap (λ (n : ℕ). take n (drop 37 (spelled (Some row)))) (at_tail row fits 2) ∙ value_in row fits

    uses : big_number 2 (drop 34 (spelled (Some row))) ≡ row.uses
    uses = ap (big_number 2) (drop-whole row fits) ∙ omega (arith, low)

-- rows with one record are the same
pub spelled-injective : (row other : Option KeyRow) → IsRow row → IsRow other → spelled row ≡ spelled other → row ≡ other
spelled-injective None None is other_is e = refl
spelled-injective None (Some other) is other_is e = absurd (omega (arith, ap (λ (l : List ℕ). slice_index l 0) e))
spelled-injective (Some row) None is other_is e = absurd (omega (arith, ap (λ (l : List ℕ). slice_index l 0) e))
spelled-injective (Some row) (Some other) is other_is e = ap (λ (r : KeyRow). Some r) (sym (row_in-spelled row is) ∙ ap row_in e ∙ row_in-spelled other other_is)

-- what ends behind the record is no value
pub is_key_length-past_the_end : (cell : List ℕ) (n : ℕ) → length cell ≡ 96 → 96 < 37 + n → IsTrue (is_key_length (length (take n (drop 37 cell)))) → ⊥
is_key_length-past_the_end cell n long past is = omega (arith, length-take n (drop 37 cell), length-drop 37 cell, value_fits (length (take n (drop 37 cell))) is)
