-- Bytes and nibbles.
use Rattle.std.specs.Prelude.{List, [], bit_xor, ℕ, ◌%◌, ◌*◌, ◌+◌, ◌/◌, ◌∷◌}

-- nibbles as bytes, the left nibble first
abbrev pub packed : List ℕ → List ℕ
packed [] = []
packed (left ∷ []) = (left * 16) ∷ []
packed (left ∷ right ∷ rest) = (left * 16 + right) ∷ packed rest

-- bytes as nibbles, the left nibble first
abbrev pub unpacked : List ℕ → List ℕ
unpacked [] = []
unpacked (byte ∷ rest) = byte / 16 ∷ byte % 16 ∷ unpacked rest

-- eight zero bytes
abbrev pub zero_block : List ℕ
zero_block = 0 ∷ 0 ∷ 0 ∷ 0 ∷ 0 ∷ 0 ∷ 0 ∷ 0 ∷ []

-- the exclusive or of two lists, place by place
unfoldable pub exclusive_or : List ℕ → List ℕ → List ℕ
exclusive_or [] others = []
exclusive_or (a ∷ rest) [] = []
exclusive_or (a ∷ rest) (b ∷ others) = bit_xor a b ∷ exclusive_or rest others
