-- Numbers and bytes as lists of bits. A bit is 0 or 1, and the most significant bit comes first.
use Rattle.std.specs.Prelude.{◌≡◌, ℕ, zero, suc, ◌+◌, ◌*◌, ◌<◌, List, [], ◌∷◌, ◌++◌, length, take, drop, All}
use Rattle.std.specs.Int.{bit_at}

-- the lowest `width` bits of a number
unfoldable pub bits_of : ℕ → ℕ → List ℕ
bits_of zero n = []
bits_of (suc width) n = bit_at n width ∷ bits_of width n

-- the number whose bits are those of `n` followed by these
unfoldable pub number_from : ℕ → List ℕ → ℕ
number_from n [] = n
number_from n (bit ∷ bits) = number_from (2 * n + bit) bits

-- the number of these bits
unfoldable pub number_of : List ℕ → ℕ
number_of bits = number_from 0 bits

-- the bits of bytes, eight for each
unfoldable pub bits_of_bytes : List ℕ → List ℕ
bits_of_bytes [] = []
bits_of_bytes (byte ∷ bytes) = bits_of 8 byte ++ bits_of_bytes bytes

-- the first `count` bytes of bits
unfoldable pub bytes_of_bits : ℕ → List ℕ → List ℕ
bytes_of_bits zero bits = []
bytes_of_bits (suc count) bits = number_of (take 8 bits) ∷ bytes_of_bits count (drop 8 bits)

-- the list is eight bytes
abbrev pub IsBlock : List ℕ → Type 0
IsBlock bytes = (length bytes ≡ 8) × All (λ byte. byte < 256) bytes
