use Rattle.std.proofs.Common.{sym, ◌∙◌}
use Rattle.key_table.proofs.KeyStoreLemmas.{slot_of-below}
use Rattle.key_table.proofs.stored_keys.StoredKeys.remove.Goals as goal

pub erase-requires-clause-below : goal.erase-requires-clause-below
erase-requires-clause-below g c = slot_of-below c.self.inside.keys c.args.name.now c.in-Some.slot c.rows-rows.ensures.table (sym c.slot_of.ensures ∙ c.in-Some.is)
