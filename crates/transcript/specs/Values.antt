-- Small values as they are printed.
use Rattle.std.specs.Prelude.{Bool, List, None, Option, Some, codes, if◌then◌else◌, length, map, ℕ, ◌==◌}
use Rattle.hex.specs.Hex.{encode_upper}
use Rattle.script_lang.specs.Words.{hex_digit}

-- a flag
unfoldable pub yes_no_text : Bool → List ℕ
yes_no_text b = if b then codes "yes" else codes "no"

-- a digit each, or `-` where there are none
unfoldable pub digits_text : List ℕ → List ℕ
digits_text digits = if length digits == 0 then codes "-" else map hex_digit digits

-- the three bytes of a key check value as six hexadecimal digits, or `-` where there is none
unfoldable pub check_text : Option (List ℕ) → List ℕ
check_text None = codes "-"
check_text (Some check) = encode_upper check
