-- IMPORT_KEY, over the key rows: the row that an import makes, and its slot.
use Rattle.check_values.specs.CheckValues.{check_value}
use Rattle.flat_machine.specs.Ciphers.{Ciphers}
use Rattle.flat_machine.specs.Decisions.{or_refused, unless_refused, with_key_if}
use Rattle.flat_machine.specs.declared.types.Work.{Work}
use Rattle.flat_machine.specs.declared.types.Work.TheVariants as work
use Rattle.key_attributes.specs.declared.KeyRow.{KeyRow}
use Rattle.key_attributes.specs.declared.Use.TheVariants as purpose
use Rattle.key_import.specs.Imports as source
use Rattle.key_import.specs.declared.ImportFault.{ImportFault}
use Rattle.key_import.specs.declared.ImportFault.TheVariants as fault
use Rattle.key_table.specs.Duplicates.{duplicate}
use Rattle.key_table.specs.KeyRows.{KeyRows, find_row, slot_for}
use Rattle.pad_steps.specs.declared.answers.Refusal.{Refusal}
use Rattle.pad_steps.specs.declared.answers.Refusal.TheVariants as refusals
use Rattle.pad_steps.specs.declared.commands.ImportRequest.{ImportRequest}
use Rattle.secure_entry.specs.PartBuffers.{part_value}
use Rattle.std.specs.Prelude.{List, None, Option, Some, ℕ}

-- the refusal of an import that makes no row
abbrev pub import_refusal : ImportFault → Refusal
import_refusal fault.AccessDenied = refusals.AccessDenied
import_refusal fault.InvalidKeyLength = refusals.InvalidKeyLength

-- DUPLICATEKEY with that name, where there is one
abbrev pub duplicated : Option (List ℕ) → Option Refusal
duplicated None = None
duplicated (Some name) = Some (refusals.DuplicateKey name)

module _ (cipher : Ciphers) where
  -- the row is kept in the slot, and its check value is answered; TABLEFULL where there is no slot
  abbrev pub into_slot : ImportRequest → KeyRow → Option ℕ → Work
  into_slot request row None = work.Refuse refusals.TableFull None
  into_slot request row (Some slot) = work.Keep slot row (check_value cipher.tdea request.verify row.value) (source.is_part request.source)

  -- the row goes into the slot of its name, unless it is refused: of the key-encrypting key for KEYENCKEY; ACCESSDENIED; INVALIDKEYLENGTH; DUPLICATEKEY; TABLEFULL
  abbrev pub import_work : KeyRows → List ℕ → ImportRequest → Work
  import_work rows part request =
      with_key_if rows (source.sealed_under request.source) purpose.KeyEncKey (λ kek.
      or_refused import_refusal (source.decide_import cipher.tdea_back request (find_row request.name rows) kek (part_value part)) (λ row.
      unless_refused (duplicated (duplicate row rows))
      (into_slot request row (slot_for row.name rows))))
