use Rattle.std.proofs.Common.{sym}
use Rattle.key_table.proofs.EraseLemmas.{put_row-first, rows_as}
use Rattle.key_table.proofs.stored_keys.StoredKeys.erase_first.Goals as goal

pub returns-clause-rows : goal.returns-clause-rows
returns-clause-rows g c = rows_as _ _ _ c.erase.result c.erase.ensures.ok
    (rw (sym c.self.view_is) (put_row-first c.self.inside.keys c.first_slot-slot.result c.first_slot-slot.ensures.table (rw (sym c.self.view_is) at c.requires.some) c.first_slot-slot.ensures.first))
