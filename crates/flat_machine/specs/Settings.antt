-- What a run has from outside: the cipher, the PIN work, and the fill words of the seed by their numbers from 0.
use Rattle.des_core.specs.TripleDes.{tdea_back_bytes, tdea_bytes}
use Rattle.flat_machine.specs.Ciphers.{Ciphers}
use Rattle.local_check.specs.StandardWork.{standard_rules}
use Rattle.pin_blocks.specs.PinRules.{PinRules}
use Rattle.std.specs.Prelude.{ℕ}

pub record Setting : Type 0 where
  pub cipher : Ciphers
  pub pin_rules : PinRules
  pub fill_word : ℕ → ℕ

-- triple DES
abbrev pub triple_des : Ciphers
triple_des = record { tdea = tdea_bytes; tdea_back = tdea_back_bytes }

-- triple DES, this PIN work, and these fill words
abbrev pub setting_with : PinRules → (ℕ → ℕ) → Setting
setting_with pin_rules fill_word = record { cipher = triple_des; pin_rules = pin_rules; fill_word = fill_word }

-- triple DES, blocks and checks, and these fill words
abbrev pub standard_setting : (ℕ → ℕ) → Setting
standard_setting fill_word = setting_with (standard_rules tdea_bytes) fill_word
