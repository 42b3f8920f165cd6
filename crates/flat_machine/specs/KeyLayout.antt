-- What the bytes of the pad's own store mean.
use Rattle.flat_machine.specs.StoreHistory.{Layout}
use Rattle.key_record.specs.Records.{spelled}
use Rattle.key_table.specs.StoredRows.{bad_slot, put_bytes, rows_of}
use Rattle.nv_store.specs.Cells.{is_torn}

-- the one layout of the store: a cell with a record for each of 64 slots
abbrev pub key_layout : Layout
key_layout = record { rows_of = rows_of; bad_slot = bad_slot; put = put_bytes; torn = λ bytes slot row torn. is_torn bytes slot (spelled row) torn }
