-- Triple DES (FIPS 46-3, TDEA) under a key of 8, 16 or 24 bytes: K1, K2 and K3. With 16 bytes K3 is K1, with 8 all three are equal.
use Rattle.des_core.specs.Bits.{bits_of_bytes, bytes_of_bits}
use Rattle.des_core.specs.Des.{des, des_back}
use Rattle.std.specs.Prelude.{List, drop, if◌then◌else◌, length, nat_lt, take, ℕ, ◌≡◌}

-- K1: the first 8 bytes
abbrev pub first_key : List ℕ → List ℕ
first_key key = take 8 key

-- K2: the next 8 bytes, or K1 where there are none
abbrev pub second_key : List ℕ → List ℕ
second_key key = if nat_lt 8 (length key) then take 8 (drop 8 key) else first_key key

-- K3: the last 8 of 24 bytes, or K1 where there are fewer
abbrev pub third_key : List ℕ → List ℕ
third_key key = if nat_lt 16 (length key) then take 8 (drop 16 key) else first_key key

-- eight bytes encrypted: enciphered under K1, deciphered under K2, enciphered under K3
unfoldable pub tdea_bytes : List ℕ → List ℕ → List ℕ
tdea_bytes key block =
    bytes_of_bits 8 (des (bits_of_bytes (third_key key)) (des_back (bits_of_bytes (second_key key)) (des (bits_of_bytes (first_key key)) (bits_of_bytes block))))

-- eight bytes decrypted: deciphered under K3, enciphered under K2, deciphered under K1
unfoldable pub tdea_back_bytes : List ℕ → List ℕ → List ℕ
tdea_back_bytes key block =
    bytes_of_bits 8 (des_back (bits_of_bytes (first_key key)) (des (bits_of_bytes (second_key key)) (des_back (bits_of_bytes (third_key key)) (bits_of_bytes block))))

-- three keys of 8 bytes are K1, K2 and K3 of a key
pub record AreKeysOf (key first second third : List ℕ) : Type 0 where
  pub first_is : first ≡ first_key key
  pub second_is : second ≡ second_key key
  pub third_is : third ≡ third_key key
