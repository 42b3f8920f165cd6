use Rattle.key_record.proofs.RecordLemmas.{record_of-none, record_of-row, record_of-spelled}
use Rattle.key_record.proofs.laws.records_are_read_back.Goals as goal

pub returns-clause-spelled : goal.returns-clause-spelled
returns-clause-spelled c = record_of-spelled

pub returns-clause-row : goal.returns-clause-row
returns-clause-row c = record_of-row

pub returns-clause-none : goal.returns-clause-none
returns-clause-none c = record_of-none
