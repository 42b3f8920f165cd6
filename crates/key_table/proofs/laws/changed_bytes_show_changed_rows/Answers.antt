use Rattle.key_table.proofs.ScanLemmas.{is_table-rows_of}
use Rattle.key_table.proofs.StoredLemmas.{length-put_bytes, rows_of-put_bytes, rows_of-torn}
use Rattle.key_table.proofs.laws.changed_bytes_show_changed_rows.Goals as goal

pub returns-clause-size : goal.returns-clause-size
returns-clause-size c = λ bytes slot row size below valid. length-put_bytes (record { read = c.records_are_read_back.ensures.spelled; long = c.record_has_96_bytes.ensures; torn = c.slots_stay_whole.ensures.torn; replaced = c.slots_stay_whole.ensures.replaced; size = c.splices.ensures.length }) bytes slot row size below valid

pub returns-clause-whole : goal.returns-clause-whole
returns-clause-whole c = λ bytes slot row rows size below valid shown table. rows_of-put_bytes (record { read = c.records_are_read_back.ensures.spelled; long = c.record_has_96_bytes.ensures; torn = c.slots_stay_whole.ensures.torn; replaced = c.slots_stay_whole.ensures.replaced; size = c.splices.ensures.length }) bytes slot row size below valid rows shown table

pub returns-clause-torn : goal.returns-clause-torn
returns-clause-torn c = λ bytes torn slot row rows size below valid shown table is. rows_of-torn (record { read = c.records_are_read_back.ensures.spelled; long = c.record_has_96_bytes.ensures; torn = c.slots_stay_whole.ensures.torn; replaced = c.slots_stay_whole.ensures.replaced; size = c.splices.ensures.length }) bytes slot row size below valid rows shown table torn (is_table-rows_of bytes rows shown) is
