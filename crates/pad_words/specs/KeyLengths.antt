-- How many bytes a key has.
use Rattle.std.specs.Prelude.{Bool, ℕ, ◌==◌, ◌||◌}

-- 8, 16 or 24: a DES key, or a triple DES key of two or three parts (FIPS 46-3)
abbrev pub is_key_length : ℕ → Bool
is_key_length count = (count == 8) || (count == 16) || (count == 24)
