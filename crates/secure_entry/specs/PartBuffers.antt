-- The part buffer of SECUREKEY_ENTRY: the nibbles of an entered key part, none where it is empty.
use Rattle.pad_words.specs.Bytes.{packed}
use Rattle.std.specs.Prelude.{Bool, List, None, Option, Some, [], ℕ, ◌==◌, ◌||◌, ◌∷◌}

-- the value in the part buffer, of its nibbles, left first; none where it is empty
abbrev pub part_value : List ℕ → Option (List ℕ)
part_value [] = None
part_value (nibble ∷ nibbles) = Some (packed (nibble ∷ nibbles))

-- the number of nibbles in the buffer: none, or those of a key of one, two or three parts of eight bytes
abbrev pub is_part_length : ℕ → Bool
is_part_length count = (count == 0) || (count == 16) || (count == 32) || (count == 48)
