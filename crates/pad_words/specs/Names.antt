-- Names of keys.
use Rattle.std.specs.Prelude.{Bool, List, length, nat_le, ℕ, ◌&&◌, ◌==◌, ◌||◌}
use Rattle.std.specs.List.{list_all}

-- A to Z, 0 to 9 and _
abbrev pub is_name_byte : ℕ → Bool
is_name_byte c = (nat_le 65 c && nat_le c 90) || (nat_le 48 c && nat_le c 57) || (c == 95)

-- 1 to 32 such bytes
abbrev pub is_key_name : List ℕ → Bool
is_key_name text = nat_le 1 (length text) && nat_le (length text) 32 && list_all is_name_byte text
