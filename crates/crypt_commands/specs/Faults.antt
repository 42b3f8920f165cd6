-- Why CRYPT gives nothing.
use Rattle.cbc_mac.specs.Macs.{is_mac_key_length}
use Rattle.cbc_mac.specs.declared.mac.MacKind.TheVariants.{Retail, Single}
use Rattle.crypt_commands.specs.declared.CryptFault.{CryptFault}
use Rattle.crypt_commands.specs.declared.CryptFault.TheVariants.{InvalidKeyLength, LengthError, NoMemory}
use Rattle.pad_steps.specs.declared.commands.Algorithm.{Algorithm}
use Rattle.pad_steps.specs.declared.commands.Algorithm.TheVariants as mode
use Rattle.pad_steps.specs.declared.commands.CryptRequest.{CryptRequest}
use Rattle.pad_words.specs.declared.Direction.{Direction}
use Rattle.pad_words.specs.declared.Direction.TheVariants as way
use Rattle.std.specs.Prelude.{Bool, Err, None, Ok, Option, Result, Some, false, if◌then◌else◌, length, not, true, ℕ, ◌%◌, ◌&&◌, ◌==◌, ◌≡◌, ◌||◌}

-- the algorithm gives a message authentication code
abbrev pub is_mac : Algorithm → Bool
is_mac mode.Mac = true
is_mac mode.Retail = true
is_mac other = false

-- the direction is to decrypt
abbrev pub is_decrypt : Direction → Bool
is_decrypt way.Encrypt = false
is_decrypt way.Decrypt = true

-- the algorithm gives an authentication code, and the key has not the length that this code wants
abbrev pub wrong_mac_key : Algorithm → ℕ → Bool
wrong_mac_key mode.Mac size = not (is_mac_key_length Single size)
wrong_mac_key mode.Retail size = not (is_mac_key_length Retail size)
wrong_mac_key other size = false

-- there are no bytes, or the bytes to decrypt are no whole blocks
abbrev pub wrong_length : Direction → ℕ → Bool
wrong_length direction count = (count == 0) || (is_decrypt direction && not (count % 8 == 0))

-- the first fault that applies: of the key's length, then of the number of bytes
abbrev pub crypt_fault : CryptRequest → ℕ → Option CryptFault
crypt_fault request size = if wrong_mac_key request.algorithm size then Some InvalidKeyLength
    else (if wrong_length request.direction (length request.body) then Some LengthError else None)

-- the fault that was answered; want of memory says nothing
abbrev pub IsFault : {A : Type 0} → Option CryptFault → Result A CryptFault → Type 0
IsFault fault (Ok value) = fault ≡ None
IsFault fault (Err NoMemory) = Unit {0}
IsFault fault (Err InvalidKeyLength) = fault ≡ Some InvalidKeyLength
IsFault fault (Err LengthError) = fault ≡ Some LengthError

-- bytes are to be answered: the request is not refused, and asks for no authentication code
pub record AnswersBytes (request : CryptRequest) (size : ℕ) : Type 0 where
  pub taken : crypt_fault request size ≡ None
  pub no_code : is_mac request.algorithm ≡ false
