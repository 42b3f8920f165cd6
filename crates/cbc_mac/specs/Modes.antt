-- The modes of operation of FIPS 81 over the blocks of a list of bytes, and the chain of an authentication code.
use Rattle.pad_words.specs.Bytes.{exclusive_or, zero_block}
use Rattle.des_core.specs.TripleDes.{tdea_bytes, tdea_back_bytes}
use Rattle.pad_words.specs.declared.Direction.{Direction}
use Rattle.std.specs.Prelude.{List, [], drop, length, map, replicate, suc, take, zero, ℕ, ◌%◌, ◌++◌, ◌-◌, ◌/◌, ◌∷◌}
use Rattle.pad_words.specs.declared.Direction.TheVariants as way

-- the first `count` blocks of 8 bytes
unfoldable pub blocks : ℕ → List ℕ → List (List ℕ)
blocks zero bytes = []
blocks (suc count) bytes = take 8 bytes ∷ blocks count (drop 8 bytes)

-- the whole blocks of a list of bytes
abbrev pub blocks_of : List ℕ → List (List ℕ)
blocks_of bytes = blocks (length bytes / 8) bytes

-- the bytes padded on the right with one byte to whole blocks
unfoldable pub padded : List ℕ → ℕ → List ℕ
padded bytes pad = bytes ++ replicate ((8 - length bytes % 8) % 8) pad

-- electronic codebook (FIPS 81): each block by itself
abbrev pub ecb : (List ℕ → List ℕ) → List (List ℕ) → List (List ℕ)
ecb encrypt blocks = map encrypt blocks

-- cipher block chaining (FIPS 81): each block is XORed with the cipher block before it, and encrypted
unfoldable pub cbc : (List ℕ → List ℕ) → List ℕ → List (List ℕ) → List (List ℕ)
cbc encrypt start [] = []
cbc encrypt start (block ∷ rest) = let sealed = encrypt (exclusive_or block start) in sealed ∷ cbc encrypt sealed rest

-- the inverse of cipher block chaining
unfoldable pub cbc_back : (List ℕ → List ℕ) → List ℕ → List (List ℕ) → List (List ℕ)
cbc_back decrypt start [] = []
cbc_back decrypt start (block ∷ rest) = exclusive_or (decrypt block) start ∷ cbc_back decrypt block rest

-- the last of some blocks, or the one that stands for none
unfoldable pub last_or : List ℕ → List (List ℕ) → List ℕ
last_or none [] = none
last_or none (block ∷ rest) = last_or block rest

-- the last cipher block of cipher block chaining from the zero block, or the zero block where there is no block
abbrev pub chain : (List ℕ → List ℕ) → List (List ℕ) → List ℕ
chain encrypt blocks = last_or zero_block (cbc encrypt zero_block blocks)

-- a block by triple DES in a direction
abbrev pub tdea_block : Direction → List ℕ → List ℕ → List ℕ
tdea_block way.Encrypt key block = tdea_bytes key block
tdea_block way.Decrypt key block = tdea_back_bytes key block

-- electronic codebook of triple DES in a direction
abbrev pub tdea_ecb : Direction → List ℕ → List (List ℕ) → List (List ℕ)
tdea_ecb way.Encrypt key blocks = ecb (tdea_bytes key) blocks
tdea_ecb way.Decrypt key blocks = ecb (tdea_back_bytes key) blocks

-- cipher block chaining of triple DES in a direction
abbrev pub tdea_cbc : Direction → List ℕ → List ℕ → List (List ℕ) → List (List ℕ)
tdea_cbc way.Encrypt key start blocks = cbc (tdea_bytes key) start blocks
tdea_cbc way.Decrypt key start blocks = cbc_back (tdea_back_bytes key) start blocks
