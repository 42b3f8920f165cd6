use Rattle.std.proofs.Common.{arith}
use Rattle.key_table.proofs.LoadLemmas.{all_shown}
use Rattle.key_table.proofs.loading.read_rows.Goals as goal

pub returns-clause-shows : goal.returns-clause-shows
returns-clause-shows c = all_shown c.args.store.now.bytes c.loop-slot.slot c.loop-slot.rows.items (omega (arith, c.loop-slot-test.false, c.loop-slot.auto.slot-end)) c.loop-slot.invariant.so_far
