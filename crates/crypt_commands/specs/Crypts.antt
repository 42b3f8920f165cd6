-- CRYPT: bytes encrypted, decrypted or authenticated (FIPS 81, and in the manner of ANSI X9.9 and X9.19).
use Rattle.cbc_mac.specs.Macs.{mac, retail}
use Rattle.cbc_mac.specs.Modes.{blocks_of, cbc, cbc_back, ecb, padded}
use Rattle.pad_words.specs.Bytes.{zero_block}
use Rattle.crypt_commands.specs.declared.CryptOut.{CryptOut}
use Rattle.crypt_commands.specs.declared.CryptOut.TheVariants as output
use Rattle.pad_steps.specs.declared.commands.Algorithm.{Algorithm}
use Rattle.pad_steps.specs.declared.commands.Algorithm.TheVariants as mode
use Rattle.pad_steps.specs.declared.commands.CryptRequest.{CryptRequest}
use Rattle.pad_steps.specs.declared.commands.Start.{Start}
use Rattle.pad_steps.specs.declared.commands.Start.TheVariants as started
use Rattle.pad_words.specs.declared.Direction.{Direction}
use Rattle.pad_words.specs.declared.Direction.TheVariants as way
use Rattle.std.specs.List.{concat}
use Rattle.std.specs.Prelude.{List, None, Option, Some, [], drop, take, ℕ}

-- the name of the key under which the start value is sealed, if it is
abbrev pub sealing_key : Start → Option (List ℕ)
sealing_key started.Zero = None
sealing_key (started.Clear block) = None
sealing_key (started.Sealed name block) = Some name

-- the bytes that pass the cipher in a direction: those to encrypt are padded
abbrev pub padded_to : Direction → List ℕ → ℕ → List ℕ
padded_to way.Encrypt bytes pad = padded bytes pad
padded_to way.Decrypt bytes pad = bytes

module _ (encrypt decrypt : List ℕ → List ℕ → List ℕ) where
  -- the start value: zero, the clear one, or the sealed one decrypted under its key
  abbrev pub start_block : Start → Option (List ℕ) → List ℕ
  start_block started.Zero key = zero_block
  start_block (started.Clear block) key = block.0
  start_block (started.Sealed name block) None = zero_block
  start_block (started.Sealed name block) (Some key) = decrypt key block.0

  -- electronic codebook in a direction; what is encrypted is padded
  abbrev pub ecb_bytes : Direction → List ℕ → ℕ → List ℕ → List ℕ
  ecb_bytes way.Encrypt key pad bytes = concat (ecb (encrypt key) (blocks_of (padded bytes pad)))
  ecb_bytes way.Decrypt key pad bytes = concat (ecb (decrypt key) (blocks_of bytes))

  -- cipher block chaining in a direction; what is encrypted is padded
  abbrev pub cbc_bytes : Direction → List ℕ → List ℕ → ℕ → List ℕ → List ℕ
  cbc_bytes way.Encrypt key start pad bytes = concat (cbc (encrypt key) start (blocks_of (padded bytes pad)))
  cbc_bytes way.Decrypt key start pad bytes = concat (cbc_back (decrypt key) start (blocks_of bytes))

  -- the bytes of ECB or CBC, or the authentication code. Cipher feedback gives nothing: it is refused as it is submitted
  abbrev pub crypt_out : CryptRequest → Algorithm → List ℕ → List ℕ → CryptOut
  crypt_out request mode.Ecb key start = output.Bytes (ecb_bytes request.direction key request.pad request.body)
  crypt_out request mode.Cbc key start = output.Bytes (cbc_bytes request.direction key start request.pad request.body)
  crypt_out request mode.Cfb key start = output.Bytes []
  crypt_out request mode.Mac key start = output.Mac (record { 0 = mac encrypt key request.body request.pad })
  crypt_out request mode.Retail key start = output.Mac (record { 0 = retail encrypt decrypt (take 8 key) (drop 8 key) request.body request.pad })
