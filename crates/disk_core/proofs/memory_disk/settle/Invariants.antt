use Rattle.std.proofs.Common.{◌≡◌, ℕ, ◌<◌, ◌≤◌, true, get_or}
use Rattle.disk_core.specs.DiskMemories.{settled_byte}
use Rattle.disk_core.proofs.memory_disk.settle.Given as goal

abbrev pub invariant-loop-i : goal.invariant-loop-i
invariant-loop-i l = record {
  done : (k : ℕ) → k < l.i → get_or l.bytes k 0 ≡ settled_byte l.keep (get_or l.dirty k true) (get_or l.synced k 0) (get_or l.initial.bytes k 0);
  rest : (k : ℕ) → l.i ≤ k → get_or l.bytes k 0 ≡ get_or l.initial.bytes k 0;
}
