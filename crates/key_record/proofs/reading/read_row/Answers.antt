use Rattle.std.proofs.Common.{arith, slice_index}
use Rattle.key_record.proofs.RowLemmas.{is_key_length-past_the_end}
use Rattle.key_record.proofs.reading.read_row.Goals as goal

pub returns-in_err-field-2-clause-none : goal.returns-in_err-field-2-clause-none
returns-in_err-field-2-clause-none c = rw c.from_residual-in_err-field-2.ensures (λ is. is_key_length-past_the_end c.args.cell.now (slice_index c.args.cell.now 36) (omega arith) (omega (arith, c.in_err-field-2.ensures)) is.1)
