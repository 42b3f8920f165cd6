use Rattle.std.proofs.Common.{◌≡◌, ◌++◌, List, Some, ap, arith, length, subst, take, ◌∙◌, ℕ}
use Rattle.std.specs.Prelude.{IsTrue}
use Rattle.pad_words.specs.KeyLengths.{is_key_length}
use Rattle.pad_words.specs.Names.{is_key_name}
use Rattle.key_attributes.specs.declared.KeyRow.{KeyRow}
use Rattle.key_record.proofs.FieldLemmas.{six_fields}
use Rattle.key_record.specs.Records.{padded, spelled}
use Rattle.key_record.proofs.writing.write_row.Goals as goal

pub returns-clause-cell : goal.returns-clause-cell
returns-clause-cell c =
    let same : ◌≡◌ {A = KeyRow} (record { name = c.text-name.result.now; value = c.bytes-value.result.now; uses = c.args.row.now.uses }) c.args.row.now = λ i. record { name = c.text-name.ensures.text i; value = c.bytes-value.ensures.bytes i; uses = c.args.row.now.uses } in
    let uses = c.put_field-3.ensures ∙ ap (λ (bytes : List ℕ). take 34 c.put_field-2.new.cell ++ padded 2 bytes) c.bytes_of_uses.ensures.bytes in
    six_fields c.args.cell.now c.put_field.new.cell c.put_field-2.new.cell c.put_field-3.new.cell c.put_field-4.new.cell c.put_field-5.new.cell c.put_field-6.new.cell _ _ _ _ _ _ c.put_field.ensures c.put_field-2.ensures uses c.put_field-4.ensures c.put_field-5.ensures c.put_field-6.ensures (omega arith)
    ∙ ap (λ (row : KeyRow). spelled (Some row)) same

pub returns-clause-valid : goal.returns-clause-valid
returns-clause-valid c = (subst (λ (name : List ℕ). IsTrue (is_key_name name)) c.text-name.ensures.text c.text-name.ensures.valid, subst (λ (value : List ℕ). IsTrue (is_key_length (length value))) c.bytes-value.ensures.bytes c.bytes-value.ensures.valid, c.bytes_of_uses.ensures.valid)
