-- The record of a row.
use Rattle.byteorder.specs.Endian.{big_bytes, big_number}
use Rattle.key_attributes.specs.UseBits.{uses_valid}
use Rattle.key_attributes.specs.declared.KeyRow.{KeyRow}
use Rattle.pad_words.specs.KeyLengths.{is_key_length}
use Rattle.pad_words.specs.Names.{is_key_name}
use Rattle.std.specs.Prelude.{Bool, IsTrue, List, None, Option, Some, [], bytes_eq, drop, if◌then◌else◌, length, replicate, slice_index, take, ℕ, ◌&&◌, ◌++◌, ◌-◌, ◌∷◌}

-- bytes, and zero bytes behind them up to a size
abbrev pub padded : ℕ → List ℕ → List ℕ
padded size bytes = bytes ++ replicate (size - length bytes) 0

-- the 96 bytes of a row: 1, the length of the name, the name, the uses with the higher byte first, the length of the value, the value, and zero bytes; without a row, zero bytes alone
abbrev pub spelled : Option KeyRow → List ℕ
spelled None = replicate 96 0
spelled (Some row) = (1 ∷ length row.name ∷ []) ++ padded 32 row.name ++ big_bytes 2 row.uses
    ++ (length row.value ∷ []) ++ padded 24 row.value ++ replicate 35 0

-- there is no row, or its name, value and uses are valid
abbrev pub IsRow : Option KeyRow → Type 0
IsRow None = Unit {0}
IsRow (Some row) = IsTrue (is_key_name row.name) × IsTrue (is_key_length (length row.value)) × IsTrue (uses_valid row.uses)

-- the row that the fields of a key's record tell, whatever the other bytes are
abbrev pub row_in : List ℕ → KeyRow
row_in cell = record {
  name = take (slice_index cell 1) (drop 2 cell);
  value = take (slice_index cell 36) (drop 37 cell);
  uses = big_number 2 (drop 34 cell);
}

-- name, value and uses are valid
abbrev pub is_row : KeyRow → Bool
is_row row = is_key_name row.name && (is_key_length (length row.value) && uses_valid row.uses)

-- the record of no row
unfoldable pub empty_record : List ℕ
empty_record = spelled None

-- what 96 bytes are: the empty record, the record of the row that their fields tell, or no record
unfoldable pub record_of : List ℕ → Option (Option KeyRow)
record_of cell = if bytes_eq cell empty_record then Some None else (if is_row (row_in cell) && bytes_eq cell (spelled (Some (row_in cell))) then Some (Some (row_in cell)) else None)
