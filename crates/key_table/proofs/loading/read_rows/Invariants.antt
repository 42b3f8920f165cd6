use Rattle.std.proofs.Common.{length, ◌-◌, ◌≡◌, ◌≤◌, []}
use Rattle.std.specs.Prelude.{IfSome, vec_capacity}
use Rattle.key_table.specs.StoredRows.{scan}
use Rattle.key_table.proofs.loading.read_rows.Given as goal

abbrev pub invariant-loop-slot : goal.invariant-loop-slot
invariant-loop-slot l = record {
  so_far : IfSome l.fn.store.bytes (λ bytes. scan bytes 0 64 [] ≡ scan bytes l.slot (64 - l.slot) l.rows.items);
  few : length l.rows.items ≤ l.slot;
  room : 64 ≤ vec_capacity l.rows;
}
