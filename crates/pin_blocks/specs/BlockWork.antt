-- GET_PINBLOCK without its digits, and the encrypted block.
use Rattle.pad_steps.specs.declared.commands.BlockRequest.{BlockRequest}
use Rattle.pad_steps.specs.declared.commands.Form.{Form}
use Rattle.pad_steps.specs.declared.commands.Form.TheVariants as forms
use Rattle.pad_words.specs.Bytes.{exclusive_or, packed}
use Rattle.pad_words.specs.declared.bytes.Block.{Block}
use Rattle.pin_blocks.specs.Blocks.{block_nibbles, fits_form, is_supported, longest}
use Rattle.pin_blocks.specs.declared.work.AdmitFault.{AdmitFault}
use Rattle.pin_blocks.specs.declared.work.AdmitFault.TheVariants as unfit
use Rattle.pin_blocks.specs.declared.work.PinFault.{PinFault}
use Rattle.pin_blocks.specs.declared.work.PinFault.TheVariants as fault
use Rattle.std.specs.Prelude.{Err, List, None, Ok, Option, Result, Some, if◌then◌else◌, is_some, nat_lt, not, ℕ, ◌&&◌, ◌-◌, ◌||◌}

-- why a block is refused as it is submitted: FORMATNOTSUPPORTED; then INVALIDDATA for customer data that does not fit the form, or XOR data without a second key
abbrev pub admit_block : BlockRequest → Option AdmitFault
admit_block block = if not (is_supported block.form) then Some unfit.FormatNotSupported
    else (if not (fits_form block.form block.customer) || (is_some block.xor && not (is_some block.second)) then Some unfit.InvalidData else None)

-- format 3 fills its field of 14 nibbles with fill words; no other form draws any
abbrev pub fill_count : Form → ℕ → ℕ
fill_count forms.Iso3 size = 14 - size
fill_count other size = 0

-- the number of fill words at this PIN length; LENGTHERROR where the form takes no PIN of this length
abbrev pub ready_block : Form → ℕ → Result ℕ PinFault
ready_block form size = if nat_lt size 4 || nat_lt (longest form) size then Err fault.LengthError else Ok (fill_count form size)

-- XORed with the data, if there is any
abbrev pub xor_with : Option Block → List ℕ → List ℕ
xor_with None bytes = bytes
xor_with (Some block) bytes = exclusive_or bytes block.0

-- the cipher of a block of eight bytes under a key
module _ (cipher : List ℕ → List ℕ → List ℕ) where
  -- where there is a second key: XORed with the data, if any, and encrypted under it
  abbrev pub encrypted_again : Option Block → Option (List ℕ) → List ℕ → List ℕ
  encrypted_again mixed None bytes = bytes
  encrypted_again mixed (Some second) bytes = cipher second (xor_with mixed bytes)

  -- the block of a request, encrypted under the first key and, where there is one, the second
  abbrev pub block_bytes : BlockRequest → List ℕ → List ℕ → Option (List ℕ) → List ℕ → List ℕ
  block_bytes block digits first second fill = encrypted_again block.xor second (cipher first (packed (block_nibbles block.form digits block.customer block.pad fill)))
