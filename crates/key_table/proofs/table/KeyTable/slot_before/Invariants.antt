use Rattle.std.proofs.Common.{◌-◌}
use Rattle.key_table.proofs.SlotIndexLemmas.{Nears}
use Rattle.key_table.proofs.table.KeyTable.slot_before.Given as goal

abbrev pub invariant-loop-slot : goal.invariant-loop-slot
invariant-loop-slot l = Nears l.chain l.place l.self-inside.rows.items l.slot l.before

abbrev pub decreases-loop-slot : goal.decreases-loop-slot
decreases-loop-slot l = 64 - l.slot
