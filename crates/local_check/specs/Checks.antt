-- The local check of an IBM 3624 PIN (LOCAL_DES).
use Rattle.pad_steps.specs.declared.commands.CheckRequest.{CheckRequest}
use Rattle.pad_words.specs.Bytes.{packed, unpacked}
use Rattle.pin_blocks.specs.Blocks.{sixteen}
use Rattle.pin_blocks.specs.declared.work.AdmitFault.{AdmitFault}
use Rattle.pin_blocks.specs.declared.work.AdmitFault.TheVariants as unfit
use Rattle.pin_blocks.specs.declared.work.PinFault.{PinFault}
use Rattle.pin_blocks.specs.declared.work.PinFault.TheVariants as fault
use Rattle.std.specs.Prelude.{Bool, Err, List, None, Ok, Option, Result, Some, [], bytes_eq, if◌then◌else◌, length, map, nat_lt, replicate, slice_index, take, ℕ, ◌%◌, ◌&&◌, ◌++◌, ◌+◌, ◌==◌, ◌||◌, ◌∷◌}

-- why a check is refused as it is submitted: INVALIDDATA for a count of 0 or above 16, or an offset longer than the count
abbrev pub admit_check : CheckRequest → Option AdmitFault
admit_check check = if (check.count == 0) || nat_lt 16 check.count || nat_lt check.count (length check.offset) then Some unfit.InvalidData else None

-- no fill word is drawn; LENGTHERROR where the PIN has fewer digits than the count
abbrev pub ready_check : CheckRequest → ℕ → Result ℕ PinFault
ready_check check size = if nat_lt size check.count then Err fault.LengthError else Ok 0

-- each nibble replaced by the digit that the table has for it
abbrev pub looked_up : List ℕ → List ℕ → List ℕ
looked_up table nibbles = map (λ nibble. slice_index table nibble) nibbles

-- each natural digit plus the offset's digit modulo 10, and 0 past the offset's end
abbrev pub sums : List ℕ → List ℕ → List ℕ
sums [] offset = []
sums (digit ∷ rest) [] = digit % 10 ∷ sums rest []
sums (digit ∷ rest) (added ∷ others) = (digit + added) % 10 ∷ sums rest others

-- with the flag a first sum of 0 becomes 1
abbrev pub no_zero_first : Bool → List ℕ → List ℕ
no_zero_first flag [] = []
no_zero_first flag (first ∷ rest) = (if flag && (first == 0) then 1 else first) ∷ rest

-- the cipher of a block of eight bytes under a key
module _ (cipher : List ℕ → List ℕ → List ℕ) where
  -- the digits that a PIN must have: the padded validation data encrypted under the key, its nibbles replaced by the table, the offset added
  abbrev pub check_sums : CheckRequest → List ℕ → List ℕ
  check_sums check value = no_zero_first check.no_zero (sums (looked_up check.table (unpacked (cipher value (packed (sixteen (check.validation ++ replicate 16 check.pad)))))) check.offset)

  -- the first digits of the PIN, as many as the count, are those sums
  abbrev pub checks : CheckRequest → List ℕ → List ℕ → Bool
  checks check digits value = bytes_eq (take check.count digits) (take check.count (check_sums check value))
