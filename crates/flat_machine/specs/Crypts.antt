-- CRYPT: to encrypt, decrypt, or authenticate a message.
use Rattle.crypt_commands.specs.Crypts.{crypt_out, sealing_key, start_block}
use Rattle.crypt_commands.specs.Faults.{is_mac, wrong_length, wrong_mac_key}
use Rattle.crypt_commands.specs.declared.CryptOut.{CryptOut}
use Rattle.crypt_commands.specs.declared.CryptOut.TheVariants as output
use Rattle.flat_machine.specs.Ciphers.{Ciphers}
use Rattle.flat_machine.specs.Decisions.{unless, with_key, with_key_if}
use Rattle.flat_machine.specs.declared.types.Work.{Work}
use Rattle.flat_machine.specs.declared.types.Work.TheVariants as work
use Rattle.key_table.specs.KeyRows.{KeyRows}
use Rattle.key_attributes.specs.declared.Use.{Use}
use Rattle.pad_steps.specs.declared.commands.Algorithm.{Algorithm}
use Rattle.pad_steps.specs.declared.answers.Answer.{Answer}
use Rattle.pad_steps.specs.declared.commands.CryptRequest.{CryptRequest}
use Rattle.std.specs.Prelude.{List, Option, if◌then◌else◌, length, ℕ}
use Rattle.pad_steps.specs.declared.answers.Answer.TheVariants as answers
use Rattle.pad_steps.specs.declared.answers.Refusal.TheVariants as refusals
use Rattle.key_attributes.specs.declared.Use.TheVariants as purpose

-- the use that the key needs: MACING for an authentication code, CRYPT for the others
abbrev pub crypt_use : Algorithm → Use
crypt_use algorithm = if is_mac algorithm then purpose.Macing else purpose.Crypt

-- what CRYPT gives, as an answer
abbrev pub answer_of : CryptOut → Answer
answer_of (output.Bytes bytes) = answers.Crypt bytes
answer_of (output.Mac block) = answers.Mac block

module _ (cipher : Ciphers) where
  -- the answer under this key, with the start value that this key unseals
  abbrev pub crypt_answer : CryptRequest → List ℕ → Option (List ℕ) → Answer
  crypt_answer request key sealing = answer_of (crypt_out cipher.tdea cipher.tdea_back request request.algorithm key (start_block cipher.tdea cipher.tdea_back request.start sealing))

  -- answered, unless it is refused: of the key for its use; of the start value's key for SVENCKEY; INVALIDKEYLENGTH; LENGTHERROR
  abbrev pub crypt_work : KeyRows → CryptRequest → Work
  crypt_work rows request =
      with_key rows request.key (crypt_use request.algorithm) (λ key.
      with_key_if rows (sealing_key request.start) purpose.SvEncKey (λ sealing.
      unless (wrong_mac_key request.algorithm (length key)) refusals.InvalidKeyLength
      (unless (wrong_length request.direction (length request.body)) refusals.LengthError
      (work.Answer (crypt_answer request key sealing)))))
