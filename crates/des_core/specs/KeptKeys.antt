-- How a round key is kept for the rounds: its eight groups of six bits, each in a byte of its own.
use Rattle.std.specs.Prelude.{ℕ, ◌*◌, ◌/◌, ◌^◌, ◌<◌, ◌≡◌, List, ◌++◌, length, reverse}
use Rattle.std.specs.List.{All}
use Rattle.std.specs.Int.{to_le_bytes, w32}
use Rattle.des_core.specs.Bits.{bits_of, bits_of_bytes}
use Rattle.des_core.specs.Des.{round_keys}
use Rattle.des_core.specs.declared.key_schedule.RoundKey.{RoundKey}

-- the lowest six bits of a byte of a word, where bytes count from 0, the least significant
abbrev pub group_at : ℕ → ℕ → List ℕ
group_at word byte = bits_of 6 (word / 2 ^ (8 * byte))

-- the two highest bits of each byte of a word are zero
abbrev pub AreGroups : ℕ → Type 0
AreGroups word = All (λ byte. byte < 64) (to_le_bytes w32 word)

-- the 48 bits of a round key in their order, which are the groups that meet S1 to S8
unfoldable pub key_bits : RoundKey → List ℕ
key_bits key =
    group_at key.odd 0 ++ group_at key.even 3 ++ group_at key.odd 3 ++ group_at key.even 2
    ++ group_at key.odd 2 ++ group_at key.even 1 ++ group_at key.odd 1 ++ group_at key.even 0

-- a round key is kept with zeros between its groups
pub record IsKept (key : RoundKey) : Type 0 where
  pub odd : AreGroups key.odd
  pub even : AreGroups key.even

-- the sixteen round keys of a key are kept so
pub record AreKept (keys : List RoundKey) : Type 0 where
  pub sixteen : length keys ≡ 16
  pub each : All IsKept keys

-- round keys are those of a key of eight bytes, in the order of enciphering and in that of deciphering
pub record AreRoundKeysOf (key : List ℕ) (forward backward : List (List ℕ)) : Type 0 where
  pub forward_is : forward ≡ round_keys (bits_of_bytes key)
  pub backward_is : backward ≡ reverse (round_keys (bits_of_bytes key))
