-- The block cipher, as a parameter.
use Rattle.std.specs.Prelude.{List, ℕ}

-- triple DES of one block of 8 bytes under a key of 8, 16 or 24 bytes (FIPS 46-3), and its inverse
pub record Ciphers : Type 0 where
  pub tdea : List ℕ → List ℕ → List ℕ
  pub tdea_back : List ℕ → List ℕ → List ℕ
