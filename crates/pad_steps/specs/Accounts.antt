-- Customer data of PIN blocks.
use Rattle.std.specs.List.{list_all}
use Rattle.std.specs.Prelude.{Bool, List, length, nat_le, nat_lt, ℕ, ◌&&◌}

-- all are decimal digits
abbrev pub all_decimal : List ℕ → Bool
all_decimal values = list_all (λ value. nat_lt value 10) values

-- a primary account number without its check digit (ISO/IEC 7812-1): 12 to 19 decimal digits
abbrev pub is_pan : List ℕ → Bool
is_pan digits = nat_le 12 (length digits) && nat_le (length digits) 19 && all_decimal digits
