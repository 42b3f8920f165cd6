-- An exchange of bits within a word of 64 bits.
use Rattle.std.specs.Prelude.{ℕ, ◌*◌, ◌/◌, ◌%◌, ◌^◌, bit_and, bit_xor}

-- a word with each bit of a mask exchanged with the bit `shift` places above it
unfoldable pub exchanged : ℕ → ℕ → ℕ → ℕ
exchanged shift mask word =
    let differing = bit_and (bit_xor word (word / 2 ^ shift)) mask in
    bit_xor (bit_xor word differing) (differing * 2 ^ shift % 2 ^ 64)
