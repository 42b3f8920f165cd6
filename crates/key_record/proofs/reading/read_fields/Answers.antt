use Rattle.std.proofs.Common.{None, Ok, Some, ap, arith, slice_index, subst, sym, ◌∙◌, List, ℕ}
use Rattle.key_attributes.specs.declared.KeyRow.{KeyRow}
use Rattle.key_record.specs.Records.{IsRow, row_in}
use Rattle.key_record.proofs.RowLemmas.{row_in-spelled}
use Rattle.key_record.proofs.reading.read_fields.Goals as goal

pub returns-in-Some-clause-written : goal.returns-in-Some-clause-written
returns-in-Some-clause-written c None is e = absurd (omega (arith, c.if-cell-eq0.false, ap (λ (l : List ℕ). slice_index l 0) e))
returns-in-Some-clause-written c (Some row) is e = ap (λ (r : KeyRow). Ok (Some r)) (c.in-Some.ensures.row.0 ∙ ap row_in e ∙ row_in-spelled row is)

pub returns-in-None-clause-written : goal.returns-in-None-clause-written
returns-in-None-clause-written c None is e = absurd (omega (arith, c.if-cell-eq0.false, ap (λ (l : List ℕ). slice_index l 0) e))
returns-in-None-clause-written c (Some row) is e = absurd (c.in-None.ensures.none (subst (λ (r : KeyRow). IsRow (Some r)) (sym (ap row_in e ∙ row_in-spelled row is)) is))
