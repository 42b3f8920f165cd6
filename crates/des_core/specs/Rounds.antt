-- A round on words.
use Rattle.std.specs.Prelude.{◌≡◌}
use Rattle.des_core.specs.Bits.{bits_of}
use Rattle.des_core.specs.Des.{cipher_function}
use Rattle.des_core.specs.KeptKeys.{key_bits}
use Rattle.des_core.specs.declared.key_schedule.RoundKey.{RoundKey}
use Rattle.des_core.specs.declared.rounds.Halves.{Halves}
use Rattle.pad_words.specs.Bytes.{exclusive_or}

-- two halves as words are those of another two after a round: R and L xor f(R, K) (FIPS 46-3, Enciphering)
pub record IsAfterRound (before after : Halves) (key : RoundKey) : Type 0 where
  pub left : after.left ≡ before.right
  pub right : bits_of 32 after.right
      ≡ exclusive_or (bits_of 32 before.left) (cipher_function (bits_of 32 before.right) (key_bits key))
