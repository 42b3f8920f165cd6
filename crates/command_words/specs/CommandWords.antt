-- Words of the command line that the programs share.
use Rattle.std.specs.Prelude.{Bool, Err, List, None, Ok, Option, Result, Some, replicate, string_bytes, ℕ}
use Rattle.hex.specs.Hex.{decode_sized}
use Rattle.hex.specs.declared.error.FromHexError.{FromHexError}
use Rattle.std.specs.Str.{bytes_eq}
use Rattle.std.specs.Global.{Global}
use Rattle.std.specs.declared.string.String.{String}

-- the seed where none is given: 32 zero bytes
abbrev pub zero_seed : List ℕ
zero_seed = replicate 32 0

-- the word is this text
abbrev pub is_word : String Global → List ℕ → Bool
is_word word text = bytes_eq (string_bytes word) text

abbrev pub decoded : Result (List ℕ) FromHexError → Option (List ℕ)
decoded (Ok bytes) = Some bytes
decoded (Err fault) = None

-- the 32 bytes of a seed, of 64 hexadecimal digits in either case
abbrev pub seed_of : List ℕ → Option (List ℕ)
seed_of text = decoded (decode_sized text 32)
