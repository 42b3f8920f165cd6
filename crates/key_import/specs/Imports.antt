-- The row that an import makes (WFS_CMD_PIN_IMPORT_KEY). A value comes in clear, sealed under a key-encrypting key, or from the part buffer. A key may come in parts, joined by XOR; these rules are this project's own.
use Rattle.cbc_mac.specs.Modes.{blocks_of, ecb}
use Rattle.key_attributes.specs.UseBits.{has_construct, has_secure_construct, plain_uses, under_construction}
use Rattle.key_attributes.specs.declared.KeyRow.{KeyRow}
use Rattle.key_import.specs.declared.ImportFault.{ImportFault}
use Rattle.key_import.specs.declared.ImportFault.TheVariants as fault
use Rattle.pad_steps.specs.declared.commands.ImportRequest.{ImportRequest}
use Rattle.pad_steps.specs.declared.commands.ImportSource.{ImportSource}
use Rattle.pad_steps.specs.declared.commands.ImportSource.TheVariants as origin
use Rattle.pad_words.specs.Bytes.{exclusive_or}
use Rattle.pad_words.specs.KeyLengths.{is_key_length}
use Rattle.std.specs.List.{concat}
use Rattle.std.specs.Prelude.{Bool, Err, List, None, Ok, Option, Result, Some, false, if◌then◌else◌, length, nat_lt, not, true, ℕ, ◌&&◌, ◌==◌, ◌||◌}

-- the source is the part buffer
abbrev pub is_part : ImportSource → Bool
is_part (origin.Clear bytes) = false
is_part (origin.Sealed name bytes) = false
is_part origin.Part = true

-- the name of the key-encrypting key, where the value is sealed
abbrev pub sealed_under : ImportSource → Option (List ℕ)
sealed_under (origin.Clear bytes) = None
sealed_under (origin.Sealed name bytes) = Some name
sealed_under origin.Part = None

-- the bytes that the source gives, in clear or sealed; none of an empty part buffer
abbrev pub given_bytes : Option (List ℕ) → ImportSource → Option (List ℕ)
given_bytes part (origin.Clear bytes) = Some bytes
given_bytes part (origin.Sealed name bytes) = Some bytes
given_bytes part origin.Part = part

-- the row of the request's name, where it is under construction
abbrev pub unfinished : Option KeyRow → Option KeyRow
unfinished None = None
unfinished (Some row) = if under_construction row.uses then Some row else None

-- a key under construction does not take this part: its other uses differ from the request's; or it takes parts from outside and this one is from the part buffer; or it takes parts from the buffer alone and this one is not from there
abbrev pub refuses_part : Option KeyRow → ImportRequest → Bool
refuses_part None request = false
refuses_part (Some old) request = not (plain_uses old.uses == plain_uses request.uses)
    || (has_construct old.uses && is_part request.source) || (has_secure_construct old.uses && not (is_part request.source))

-- the value is longer than the key-encrypting key
abbrev pub longer_than_key : ℕ → Option (List ℕ) → Bool
longer_than_key size None = false
longer_than_key size (Some kek) = nat_lt (length kek) size

-- the value has another length than the key under construction
abbrev pub of_other_length : ℕ → Option KeyRow → Bool
of_other_length size None = false
of_other_length size (Some old) = not (length old.value == size)

-- the length of the value does not do: it is no key length, longer than the key-encrypting key, or another than that of the key under construction
abbrev pub wrong_value_length : ℕ → Option (List ℕ) → Option KeyRow → Bool
wrong_value_length size kek old = not (is_key_length size) || longer_than_key size kek || of_other_length size old

-- the value XORed with that of the key under construction, if there is one
abbrev pub joined : Option KeyRow → List ℕ → List ℕ
joined None value = value
joined (Some old) value = exclusive_or value old.value

module _ (decrypt : List ℕ → List ℕ → List ℕ) where
  -- the bytes decrypted by ECB (FIPS 81) under the key-encrypting key, or as they are without one
  abbrev pub unsealed : Option (List ℕ) → List ℕ → List ℕ
  unsealed None bytes = bytes
  unsealed (Some kek) bytes = concat (ecb (decrypt kek) (blocks_of bytes))

  -- the row that the import makes: the request's name and uses, and the joined value
  abbrev pub new_row : ImportRequest → Option KeyRow → Option (List ℕ) → List ℕ → KeyRow
  new_row request old kek bytes = record { name = request.name; value = joined old (unsealed kek bytes); uses = request.uses }

  -- ACCESSDENIED where the source gives no bytes or the key under construction does not take this part; else INVALIDKEYLENGTH where the length does not do; else the new row
  abbrev pub decide_given : ImportRequest → Option KeyRow → Option (List ℕ) → Option (List ℕ) → Result KeyRow ImportFault
  decide_given request old kek None = Err fault.AccessDenied
  decide_given request old kek (Some bytes) = if refuses_part old request then Err fault.AccessDenied
      else (if wrong_value_length (length bytes) kek old then Err fault.InvalidKeyLength else Ok (new_row request old kek bytes))

  -- the new row, or the first fault, from the request, the row of its name, the key-encrypting key and the value of the part buffer
  abbrev pub decide_import : ImportRequest → (target : Option KeyRow) → (kek part : Option (List ℕ)) → Result KeyRow ImportFault
  decide_import request target kek part = decide_given request (unfinished target) kek (given_bytes part request.source)
