-- A command CRYPT apart from the device that it was submitted to.
use Rattle.crypt_commands.specs.Crypts.{crypt_out, sealing_key, start_block}
use Rattle.crypt_commands.specs.Faults.{crypt_fault}
use Rattle.crypt_commands.specs.declared.CryptFault.{CryptFault}
use Rattle.crypt_commands.specs.declared.CryptOut.{CryptOut}
use Rattle.des_core.specs.TripleDes.{tdea_back_bytes, tdea_bytes}
use Rattle.pad_steps.specs.declared.commands.Algorithm.TheVariants.{Cfb}
use Rattle.pad_steps.specs.declared.commands.CryptRequest.{CryptRequest}
use Rattle.std.specs.Prelude.{Err, List, None, Ok, Option, Result, Some, is_some, length, ℕ, ◌≡◌, ◌≢◌}

-- what a command CRYPT is run on: the id of its request, the command, the value of its key, and that of the key under
-- which its start value is sealed
pub record CryptInputs : Type 0 where
  pub id : ℕ
  pub request : CryptRequest
  pub key : List ℕ
  pub start_key : Option (List ℕ)

-- the command is no cipher feedback, and the key of its start value is there where it is sealed
pub record MayRun (inputs : CryptInputs) : Type 0 where
  pub submitted : inputs.request.algorithm ≢ Cfb
  pub sealed : is_some inputs.start_key ≡ is_some (sealing_key inputs.request.start)

-- the fault, or what is given where there is none
abbrev pub fault_or : Option CryptFault → CryptOut → Result CryptOut CryptFault
fault_or (Some fault) out = Err fault
fault_or None out = Ok out

-- what the command gives, or why it gives nothing
abbrev pub crypt_outcome : CryptInputs → Result CryptOut CryptFault
crypt_outcome inputs = let start = start_block tdea_bytes tdea_back_bytes inputs.request.start inputs.start_key in
    fault_or (crypt_fault inputs.request (length inputs.key)) (crypt_out tdea_bytes tdea_back_bytes inputs.request inputs.request.algorithm inputs.key start)
