-- Why a block is not made.
use Rattle.pad_steps.specs.declared.commands.Form.{Form}
use Rattle.pin_blocks.specs.Blocks.{fits_form, is_supported, longest}
use Rattle.pin_blocks.specs.declared.FormFault.{FormFault}
use Rattle.pin_blocks.specs.declared.FormFault.TheVariants.{FormatNotSupported, InvalidData, LengthError}
use Rattle.std.specs.Prelude.{List, None, Option, Some, if◌then◌else◌, length, nat_lt, not, ℕ, ◌||◌}

-- the first fault that applies: a form of which no blocks are made; customer data that does not fit the form, or a padding nibble above 15; a PIN of fewer than 4 digits or of more than the form takes
abbrev pub block_fault : Form → List ℕ → List ℕ → ℕ → Option FormFault
block_fault form digits customer pad =
    if not (is_supported form) then Some FormatNotSupported
    else (if not (fits_form form customer) || nat_lt 15 pad then Some InvalidData
    else (if nat_lt (length digits) 4 || nat_lt (longest form) (length digits) then Some LengthError
    else None))
