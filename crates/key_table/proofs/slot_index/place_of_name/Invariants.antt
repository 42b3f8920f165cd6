use Rattle.std.proofs.Common.{◌-◌}
use Rattle.key_table.proofs.SlotIndexLemmas.{Walks}
use Rattle.key_table.proofs.slot_index.place_of_name.Given as goal

abbrev pub invariant-loop-slot : goal.invariant-loop-slot
invariant-loop-slot l = Walks l.name l.rows l.slot

abbrev pub decreases-loop-slot : goal.decreases-loop-slot
decreases-loop-slot l = 64 - l.slot
