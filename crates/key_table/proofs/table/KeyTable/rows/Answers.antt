use Rattle.std.proofs.Common.{subst, sym}
use Rattle.std.specs.Prelude.{length, ◌≤◌}
use Rattle.key_table.proofs.GapLemmas.{length-table}
use Rattle.key_attributes.specs.SlotRows.{SlotsRise}
use Rattle.key_table.proofs.TableLemmas.{table-rising}
use Rattle.key_table.specs.KeyRows.{KeyRows}
use Rattle.key_table.proofs.table.KeyTable.rows.Goals as goal

pub returns-clause-few : goal.returns-clause-few
returns-clause-few c = subst (λ (rows : KeyRows). length rows ≤ 64) c.self.view_is (length-table c.self.inside.rows.items c.self.invariant.0)

pub returns-clause-rising : goal.returns-clause-rising
returns-clause-rising c = subst SlotsRise (sym c.as_slice.ensures.value) (table-rising c.self.inside.rows.items c.self.invariant.0)
