-- What bytes are as a record.
use Rattle.key_attributes.specs.UseBits.{uses_valid}
use Rattle.key_attributes.specs.declared.KeyRow.{KeyRow}
use Rattle.key_record.proofs.RowLemmas.{row_in-spelled}
use Rattle.key_record.specs.Records.{IsRow, empty_record, is_row, record_of, row_in, spelled}
use Rattle.pad_words.specs.KeyLengths.{is_key_length}
use Rattle.pad_words.specs.Names.{is_key_name}
use Rattle.std.proofs.Common.{ap, arith, inl, inr, subst, sym, ◌∙◌, ◌⊎◌}
use Rattle.std.proofs.lemmas.Bool.{and_from, and_parts, false_from_ne_true}
use Rattle.std.proofs.lemmas.Slice.Eq.{bytes_eq-Decides}
use Rattle.std.specs.Prelude.{Bool, List, None, Option, Some, bytes_eq, false, if◌then◌else◌, length, refl, slice_index, true, ℕ, ◌&&◌, ◌≡◌, ◌≢◌}

-- the record that two tests choose
abbrev chosen : Bool → Bool → KeyRow → Option (Option KeyRow)
chosen is_empty is_spelled row = if is_empty then Some None else (if is_spelled then Some (Some row) else None)

-- the bytes are the record of the row
abbrev is_record : List ℕ → KeyRow → Bool
is_record cell row = is_row row && bytes_eq cell (spelled (Some row))

empty_record-is : empty_record ≡ spelled None
unfolding empty_record
empty_record-is = refl

record_of-is : (cell : List ℕ) → record_of cell ≡ chosen (bytes_eq cell empty_record) (is_record cell (row_in cell)) (row_in cell)
unfolding record_of
record_of-is cell = refl

row-not_empty : (row : KeyRow) → spelled (Some row) ≡ empty_record → ⊥
row-not_empty row e = omega (arith, ap (λ (l : List ℕ). slice_index l 0) (e ∙ empty_record-is))

is_row-valid : (row : KeyRow) → IsRow (Some row) → is_row row ≡ true
is_row-valid row is = and_from (is_key_name row.name) (is_key_length (length row.value) && uses_valid row.uses) is.0 (and_from (is_key_length (length row.value)) (uses_valid row.uses) is.1 is.2)

valid-is_row : (row : KeyRow) → is_row row ≡ true → IsRow (Some row)
valid-is_row row e =
    let one = and_parts (is_key_name row.name) (is_key_length (length row.value) && uses_valid row.uses) e in
    let two = and_parts (is_key_length (length row.value)) (uses_valid row.uses) one.1 in
    (one.0, two.0, two.1)

-- the record of a row is read as the row
pub record_of-spelled : (row : Option KeyRow) → IsRow row → record_of (spelled row) ≡ Some row
record_of-spelled None is =
    record_of-is (spelled None)
    ∙ ap (λ (b : Bool). chosen b (is_record (spelled None) (row_in (spelled None))) (row_in (spelled None))) ((bytes_eq-Decides (spelled None) empty_record).1 (sym empty_record-is))
record_of-spelled (Some row) is =
    record_of-is cell
    ∙ ap (λ (b : Bool). chosen b (is_record cell (row_in cell)) (row_in cell)) (false_from_ne_true (bytes_eq cell empty_record) (λ e. row-not_empty row ((bytes_eq-Decides cell empty_record).0 e)))
    ∙ ap (λ (x : KeyRow). chosen false (is_record cell x) x) (row_in-spelled row is)
    ∙ ap (λ (b : Bool). chosen false b row) (and_from (is_row row) (bytes_eq cell cell) (is_row-valid row is) ((bytes_eq-Decides cell cell).1 refl))
  where
    cell : List ℕ
    cell = spelled (Some row)

-- which of the two tests holds where a row is chosen
chosen-row : (a b : Bool) (x : KeyRow) (row : Option KeyRow) → chosen a b x ≡ Some row → ((a ≡ true) × (row ≡ None)) ⊎ ((b ≡ true) × (row ≡ Some x))
chosen-row true b x row e = inl (refl, (let same : Some None ≡ Some row = e in cc))
chosen-row false true x row e = inr (refl, (let same : Some (Some x) ≡ Some row = e in cc))
chosen-row false false x row e = cc

-- what is read as a row is the record of the row
pub record_of-row : (cell : List ℕ) (row : Option KeyRow) → record_of cell ≡ Some row → IsRow row × (cell ≡ spelled row)
record_of-row cell row e = by_case (chosen-row (bytes_eq cell empty_record) (is_record cell (row_in cell)) (row_in cell) row (sym (record_of-is cell) ∙ e))
  where
    by_case : ((bytes_eq cell empty_record ≡ true) × (row ≡ None)) ⊎ ((is_record cell (row_in cell) ≡ true) × (row ≡ Some (row_in cell))) → IsRow row × (cell ≡ spelled row)
    by_case (inl empty) = subst (λ (o : Option KeyRow). IsRow o × (cell ≡ spelled o)) (sym empty.1) (tt, (bytes_eq-Decides cell empty_record).0 empty.0 ∙ empty_record-is)
    by_case (inr keyed) =
        let parts = and_parts (is_row (row_in cell)) (bytes_eq cell (spelled (Some (row_in cell)))) keyed.0 in
        subst (λ (o : Option KeyRow). IsRow o × (cell ≡ spelled o)) (sym keyed.1) (valid-is_row (row_in cell) parts.0, (bytes_eq-Decides cell (spelled (Some (row_in cell)))).0 parts.1)

-- the record of no row is no record
pub record_of-none : (cell : List ℕ) → ((row : Option KeyRow) → IsRow row → cell ≢ spelled row) → record_of cell ≡ None
record_of-none cell never = by_case (record_of cell) refl
  where
    by_case : (o : Option (Option KeyRow)) → record_of cell ≡ o → o ≡ None
    by_case None e = refl
    by_case (Some row) e = let is = record_of-row cell row e in absurd (never row is.0 is.1)
