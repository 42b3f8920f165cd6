-- Message authentication codes by a chain of DES.
use Rattle.cbc_mac.specs.Modes.{blocks_of, chain, padded}
use Rattle.cbc_mac.specs.declared.mac.MacKind.{MacKind}
use Rattle.cbc_mac.specs.declared.mac.MacKind.TheVariants.{Single, Retail}
use Rattle.des_core.specs.Des.{des_bytes, des_back_bytes}
use Rattle.std.specs.Prelude.{Bool, List, None, Option, Some, drop, length, take, ℕ, ◌*◌, ◌++◌, ◌/◌, ◌<◌, ◌==◌, ◌≡◌}

-- the last cipher block from a zero start, in the manner of ANSI X9.9; the whole block is the answer, and any padding byte is this project's own
abbrev pub mac : (List ℕ → List ℕ → List ℕ) → List ℕ → List ℕ → ℕ → List ℕ
mac encrypt key bytes pad = chain (encrypt key) (blocks_of (padded bytes pad))

-- that block under the left half of the key, decrypted under the right half and encrypted under the left one, in the manner of ANSI X9.19
abbrev pub retail : (encrypt back : List ℕ → List ℕ → List ℕ) → List ℕ → List ℕ → List ℕ → ℕ → List ℕ
retail encrypt back left right bytes pad = encrypt left (back right (mac encrypt left bytes pad))

-- how many bytes the key of a code has
abbrev pub is_mac_key_length : MacKind → ℕ → Bool
is_mac_key_length Single count = count == 8
is_mac_key_length Retail count = count == 16

-- the code of a message by DES
abbrev pub code_of : MacKind → List ℕ → List ℕ → ℕ → List ℕ
code_of Single key message pad = mac des_bytes key message pad
code_of Retail key message pad = retail des_bytes des_back_bytes (take 8 key) (drop 8 key) message pad

-- a code in the making: its kind, its key, and the message that was fed
pub record Fed : Type 0 where
  pub kind : MacKind
  pub key : List ℕ
  pub message : List ℕ

-- the kind, where the right half of the key is kept or not
abbrev pub kind_of : Option (List ℕ) → MacKind
kind_of None = Single
kind_of (Some right) = Retail

-- the key of the halves that are kept
abbrev pub key_of : List ℕ → Option (List ℕ) → List ℕ
key_of left None = left
key_of left (Some right) = left ++ right

-- what is kept of a message that is fed: the last cipher block of its whole blocks, and the bytes behind them
pub record HasRead (key chained held message : List ℕ) : Type 0 where
  pub chained_is : chained ≡ chain (des_bytes key) (blocks_of message)
  pub held_is : held ≡ drop (8 * (length message / 8)) message

-- what a code in the making keeps: the left half of the key, the last cipher block, and the first `count` bytes of a block
pub record IsKept (left chained block : List ℕ) (count : ℕ) (message : List ℕ) : Type 0 where
  pub left_length : length left ≡ 8
  pub block_length : length block ≡ 8
  pub short : count < 8
  pub read : HasRead left chained (take count block) message
