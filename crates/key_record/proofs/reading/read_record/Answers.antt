use Rattle.std.proofs.Common.{rules, ◌≡◌, None, ap, sym, ◌∙◌}
use Rattle.std.specs.Prelude.{false, true}
use Rattle.key_record.proofs.RecordLemmas.{record_of-none, record_of-spelled}
use Rattle.key_record.specs.Records.{record_of, spelled}
use Rattle.key_record.proofs.reading.read_record.Goals as goal

pub returns-in_err-row-clause-none : goal.returns-in_err-row-clause-none
returns-in_err-row-clause-none c =
    let none : record_of c.args.cell.now ≡ None = record_of-none c.args.cell.now (λ row is e. (let bad = c.in_err-row.ensures.written row is e in cc)) in
    search rules

pub returns-then-is_same-clause-record : goal.returns-then-is_same-clause-record
returns-then-is_same-clause-record c =
    let same : c.args.cell.now ≡ spelled c.in_ok-row.row = sym (c.is_same.ensures.0 c.if-is_same.true) ∙ c.write_record.ensures.cell ∙ ap spelled c.as_ref.ensures.value in
    ap record_of same ∙ record_of-spelled c.in_ok-row.row c.in_ok-row.ensures.row

pub returns-else-is_same-clause-none : goal.returns-else-is_same-clause-none
returns-else-is_same-clause-none c = record_of-none c.args.cell.now (λ row is e. (
    let read = c.in_ok-row.ensures.written row is e in
    let own : c.in_ok-row.row ≡ row = cc in
    let again : c.write_record.new.cell ≡ c.args.cell.now = c.write_record.ensures.cell ∙ ap spelled c.as_ref.ensures.value ∙ ap spelled own ∙ sym e in
    let both : true ≡ false = sym (c.is_same.ensures.1 again) ∙ c.if-is_same.false in
    cc))
