use Rattle.std.proofs.Common.{drop, take, None, ◌≡◌}
use Rattle.key_table.specs.Changes.{erasures}
use Rattle.key_table.specs.KeyStores.{MakesChanges}
use Rattle.key_table.proofs.stored_keys.StoredKeys.erase_all.Given as goal

abbrev pub invariant-loop-index : goal.invariant-loop-index
invariant-loop-index g l = record {
  work : MakesChanges (take l.index (erasures l.fn.self.rows)) l.index None l.fn.self l.self (g.D.Disk.state l.fn.disk) (g.D.Disk.state l.disk);
  rows : l.self.rows ≡ drop l.index l.fn.self.rows;
}
